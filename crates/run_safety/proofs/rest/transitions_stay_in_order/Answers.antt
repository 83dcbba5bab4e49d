use Rattle.run_safety.proofs.Safe.{stays_in_order}
use Rattle.run_safety.proofs.rest.transitions_stay_in_order.Goals as goal

pub returns : goal.returns
returns c = λ ps placed t whole rest left later of goes. stays_in_order ps placed t of whole rest left later goes
