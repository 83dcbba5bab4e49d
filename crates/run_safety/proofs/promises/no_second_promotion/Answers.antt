use Rattle.run_safety.proofs.Safe.{adds_no_promotion, is_only_promoted}
use Rattle.run_safety.proofs.promises.no_second_promotion.Goals as goal

pub returns-clause-copies : goal.returns-clause-copies
returns-clause-copies c = λ ps placed t whole rest left later of goes. adds_no_promotion ps placed t of whole rest left later goes

pub returns-clause-single : goal.returns-clause-single
returns-clause-single c = λ ps placed t whole rest left later before after k r n i m held of goes split one low other.
    is_only_promoted ps placed t of whole rest left later goes before after k r n i m held low other split one
