use Rattle.run_safety.proofs.Safe.{migrates_alone}
use Rattle.run_safety.proofs.promises.migrations_have_their_leaf_alone.Goals as goal

pub returns : goal.returns
returns c = λ ps placed t whole rest left later of goes. migrates_alone ps placed t of whole rest left later goes
