use Rattle.std.proofs.Common.{◌+◌, refl, ◌∙◌, arith}
use Rattle.simulated.specs.declared.real.Real.TheVariants as real
use Rattle.simulated.specs.RealWorlds.{with_changed_cell, without_node}
use Rattle.simulated.proofs.Holding.{all_done, holds_as, none_yet, one_more, so_far}
use Rattle.simulated.proofs.cells.clear_node.Goals as goal

pub loop-leaf-init : goal.loop-leaf-init
loop-leaf-init c = record {
  full = c.requires.full;
  same = refl;
  held = λ held h. holds_as c.args.cluster.now c.args.cells.now.items held (so_far c.args.node 0 held) h (λ r n l m. none_yet c.args.node held r n);
}

pub loop-leaf-preserved : goal.loop-leaf-preserved
loop-leaf-preserved c =
    let l = c.loop-leaf in
    let node = c.args.node in
    record {
      full = c.set_cell.ensures.len ∙ l.invariant.full;
      same = c.set_cell.ensures.len ∙ l.invariant.same;
      held = λ held h.
          holds_as c.args.cluster.now c.set_cell.new.cells.items (with_changed_cell l.leaf node (λ x. real.Off) (so_far node l.leaf held)) (so_far node (l.leaf + 1) held)
          (c.set_cell.ensures.held (so_far node l.leaf held) (l.invariant.held held h)) (λ r n k m. one_more node l.leaf held r n);
    }

pub returns-clause-held : goal.returns-clause-held
returns-clause-held c = λ held h.
    let l = c.loop-leaf in
    holds_as c.args.cluster.now l.cells.items (so_far c.args.node l.leaf held) (without_node c.args.node held) (l.invariant.held held h)
    (λ r n k m. all_done c.args.node l.leaf held r n (omega (arith, k, c.loop-leaf-test.false, c.len-leaf-end.ensures)))
