use Rattle.std.proofs.Common.{rules, arith, ◌≡◌, ap, length, subst, Contains}
use Rattle.placement.specs.Inner.DecisionLists.{decisions_in}
use Rattle.placement.proofs.DecisionsWithin.{decisions-few, decisions-within}
use Rattle.placement.proofs.order.decision_set.DecisionSet.new.Goals as goal

pub invariant_of-result : goal.invariant_of-result
invariant_of-result c =
    let is : c.in_ok-list.list.items ≡ decisions_in c.args.cluster.now c.args.pins.now = search rules in
    record {
      limits = c.requires;
      few = (
          let leaves = c.requires.leaves in
          let few = decisions-few c.args.cluster.now c.args.pins.now in
          let long : length c.in_ok-list.list.items ≡ length (decisions_in c.args.cluster.now c.args.pins.now) = ap length is in
          omega arith);
      within = λ d h. decisions-within c.args.cluster.now c.args.pins.now d (subst (λ ds. Contains ds d) is h);
    }
