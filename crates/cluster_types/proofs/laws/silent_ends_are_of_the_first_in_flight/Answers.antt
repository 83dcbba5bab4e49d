use Rattle.cluster_types.proofs.SilentEnds.{silent_end-is}
use Rattle.cluster_types.proofs.laws.silent_ends_are_of_the_first_in_flight.Goals as goal

pub returns : goal.returns
returns c = λ t since k a ends. silent_end-is t since k a ends
