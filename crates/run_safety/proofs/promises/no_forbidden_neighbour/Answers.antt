use Rattle.run_safety.proofs.Safe.{meets_no_neighbour}
use Rattle.run_safety.proofs.promises.no_forbidden_neighbour.Goals as goal

pub returns : goal.returns
returns c = λ ps placed t whole rest left later of goes. meets_no_neighbour ps placed t of whole rest left later goes
