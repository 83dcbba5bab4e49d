use Rattle.run_safety.proofs.Safe.{is_safe}
use Rattle.run_safety.proofs.promises.transitions_are_safe.Goals as goal

pub returns : goal.returns
returns c = λ ps placed t whole rest left later of goes. is_safe ps placed t of whole rest left later goes
