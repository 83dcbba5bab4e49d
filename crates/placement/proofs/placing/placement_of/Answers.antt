use Rattle.std.proofs.lemmas.Result.{IfOk-weaker}
use Rattle.placement.proofs.placing.placement_of.Goals as goal

pub returns : goal.returns
returns c =
    IfOk-weaker c.place.result _ _ (λ placed is. λ events promotions told. is events promotions told (c.in_ok-scores.ensures events promotions told)) c.place.ensures
