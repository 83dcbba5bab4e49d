use Rattle.std.proofs.Common.{◌∙◌}
use Rattle.std.proofs.lemmas.Result.{IfOk-weaker}
use Rattle.placement.specs.Inner.DecisionLists.{compared_key}
use Rattle.placement.proofs.order.making.keys_of.Goals as goal

pub returns : goal.returns
returns c =
    let own = compared_key c.args.set.now.cluster.now c.args.states.now c.args.scores.now in
    IfOk-weaker c.effective_keys.result _ _ (λ all is. is own (c.deref.ensures.value ∙ c.in_ok-keys.ensures)) c.effective_keys.ensures
