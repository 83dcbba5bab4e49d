use Rattle.run_safety.proofs.Safe.{reaches_targets}
use Rattle.run_safety.proofs.ends.complete_transitions_end_in_targets.Goals as goal

pub returns : goal.returns
returns c = λ ps placed t whole rest left later of goes ended unaborted. reaches_targets ps placed t of whole rest left later goes ended unaborted
