use Rattle.std.proofs.Common.{◌≡◌, true, false, sym, ◌∙◌, arith}
use Rattle.lemmas.proofs.Ranges.{count-no, count-yes}
use Rattle.placement.specs.OwnRows.{is_active_by}
use Rattle.placement.proofs.choice.cells.active_count.Goals as goal

pub loop-node-preserved-then-not-is_active : goal.loop-node-preserved-then-not-is_active
loop-node-preserved-then-not-is_active c =
    let l = c.loop-node in
    let at : c.is_active.result ≡ false = let t = c.if-not-is_active.true in cc in
    record {
      counted = count-no (is_active_by c.args.cluster.now c.args.states.now c.args.leaf) l.node l.count l.invariant.counted (sym c.is_active.ensures ∙ at);
      few = let f = l.invariant.few in omega arith;
    }

pub loop-node-preserved : goal.loop-node-preserved
loop-node-preserved c =
    let l = c.loop-node in
    let at : c.is_active.result ≡ true = let t = c.if-not-is_active.false in cc in
    record {
      counted = count-yes (is_active_by c.args.cluster.now c.args.states.now c.args.leaf) l.node l.count l.invariant.counted (sym c.is_active.ensures ∙ at);
      few = let f = l.invariant.few in omega arith;
    }
