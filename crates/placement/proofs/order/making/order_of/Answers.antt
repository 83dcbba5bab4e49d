use Rattle.std.proofs.Common.{sym, subst, ◌∙◌}
use Rattle.std.proofs.lemmas.Result.{IfOk-at_ok, IfOk-weaker}
use Rattle.placement.specs.Inner.DecisionLists.{compared_key}
use Rattle.placement.specs.Inner.EffectiveKeys.{effective_in}
use Rattle.placement.specs.Inner.Turns.{AreSorted}
use Rattle.placement.proofs.order.making.order_of.Goals as goal

pub returns : goal.returns
returns c =
    let set = c.args.set.now in
    let ds = set.list.items in
    let key = effective_in set.cluster.now ds (compared_key set.cluster.now c.args.states.now c.args.scores.now) in
    let sorted = IfOk-at_ok _ c.in_ok-_keys.ensures.1 c.all_sorted-sorted.ensures key (c.deref.ensures.value ∙ c.in_ok-keys.ensures) in
    IfOk-weaker c.in_order.result _ _ (λ order made. made key (subst (AreSorted key ds) (sym c.deref-2.ensures.value) sorted)) c.in_order.ensures
