use Rattle.trace_text.proofs.ShortNames.{named_reason}
use Rattle.trace_text.proofs.laws.reasons_with_names_are_named.Goals as goal

pub returns : goal.returns
returns c = named_reason
