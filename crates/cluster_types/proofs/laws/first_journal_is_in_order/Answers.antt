use Rattle.cluster_types.proofs.JournalLaws.{in-order}
use Rattle.cluster_types.proofs.laws.first_journal_is_in_order.Goals as goal

pub returns : goal.returns
returns c = in-order
