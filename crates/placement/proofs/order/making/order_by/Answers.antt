use Rattle.std.proofs.Common.{List, subst}
use Rattle.std.proofs.lemmas.Result.{IfOk-weaker}
use Rattle.cluster_types.specs.declared.cluster.Cluster.{Cluster}
use Rattle.cluster_types.specs.declared.placement.Decision.{Decision}
use Rattle.placement.specs.Inner.DecisionLists.{decisions_in, compared_key}
use Rattle.placement.specs.Inner.EffectiveKeys.{effective_in}
use Rattle.placement.specs.Inner.Turns.{AreInOrder}
use Rattle.placement.proofs.order.making.order_by.Goals as goal

pub returns : goal.returns
returns c =
    let set = c.in_ok-set.set in
    let key = λ (k : Cluster) (ds : List Decision). effective_in k ds (compared_key k c.args.states.now c.args.scores.now) in
    IfOk-weaker c.order_of.result _ _
    (λ order made. subst (λ (k : Cluster). AreInOrder k (decisions_in c.args.cluster.now c.args.pins.now) (key k (decisions_in c.args.cluster.now c.args.pins.now)) order.items)
    c.in_ok-set.ensures.cluster (subst (λ (ds : List Decision). AreInOrder set.cluster.now ds (key set.cluster.now ds) order.items) c.in_ok-set.ensures.list made)) c.order_of.ensures
