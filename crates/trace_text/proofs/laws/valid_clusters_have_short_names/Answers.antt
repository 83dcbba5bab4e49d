use Rattle.trace_text.proofs.ShortNames.{valid_has_short_names}
use Rattle.trace_text.proofs.laws.valid_clusters_have_short_names.Goals as goal

pub returns : goal.returns
returns c = valid_has_short_names
