use Rattle.std.proofs.Common.{arith, ◌≡◌, true, false, ◌∙◌, ap, sym}
use Rattle.lemmas.proofs.Ranges.{count-no, count-yes}
use Rattle.cluster_types.specs.Terms.{is_active}
use Rattle.planner.specs.Inner.Levels.{need_in}
use Rattle.planner.specs.declared.needed_actions.steps.CellNeed.{CellNeed}
use Rattle.planner.proofs.needed_actions.activity.active_count.Goals as goal

pub loop-node-preserved-then-not-is_active : goal.loop-node-preserved-then-not-is_active
loop-node-preserved-then-not-is_active c =
    let k = c.loop-node.node in
    let same = ap (λ (need : CellNeed). is_active need.state) c.need_of.ensures in
    let at : c.is_active.result ≡ false = let t = c.if-not-is_active.true in cc in
    record {
      counted =
          count-no (λ n. is_active (need_in c.args.nodes c.args.needs.now c.args.leaf n).state) k c.loop-node.count c.loop-node.invariant.counted
          (sym same ∙ sym c.is_active.ensures ∙ at);
      few = let f = c.loop-node.invariant.few in omega arith;
    }

pub loop-node-preserved : goal.loop-node-preserved
loop-node-preserved c =
    let k = c.loop-node.node in
    let same = ap (λ (need : CellNeed). is_active need.state) c.need_of.ensures in
    let at : c.is_active.result ≡ true = let t = c.if-not-is_active.false in cc in
    record {
      counted =
          count-yes (λ n. is_active (need_in c.args.nodes c.args.needs.now c.args.leaf n).state) k c.loop-node.count c.loop-node.invariant.counted
          (sym same ∙ sym c.is_active.ensures ∙ at);
      few = let f = c.loop-node.invariant.few in omega arith;
    }
