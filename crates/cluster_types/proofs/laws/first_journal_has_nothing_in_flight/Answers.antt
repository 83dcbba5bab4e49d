use Rattle.cluster_types.proofs.JournalLaws.{nothing-in-flight}
use Rattle.cluster_types.proofs.laws.first_journal_has_nothing_in_flight.Goals as goal

pub returns : goal.returns
returns c = nothing-in-flight
