use Rattle.run_safety.proofs.Safe.{adds_no_copy, is_only_copy}
use Rattle.run_safety.proofs.promises.no_second_copy.Goals as goal

pub returns-clause-copies : goal.returns-clause-copies
returns-clause-copies c = λ ps placed t whole rest left later of goes. adds_no_copy ps placed t of whole rest left later goes

pub returns-clause-plain : goal.returns-clause-plain
returns-clause-plain c = λ ps placed t whole rest left later before after k r n i m held of goes split plain low other.
    is_only_copy ps placed t of whole rest left later goes before after k r n i m held low other split plain
