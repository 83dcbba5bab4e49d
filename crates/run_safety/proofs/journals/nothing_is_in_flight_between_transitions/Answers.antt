use Rattle.run_safety.proofs.Rests.{none_flies}
use Rattle.run_safety.proofs.journals.nothing_is_in_flight_between_transitions.Goals as goal

pub returns : goal.returns
returns c = λ cl ps whole es at rest left lines none runs between. none_flies cl ps whole es at rest left lines none runs between
