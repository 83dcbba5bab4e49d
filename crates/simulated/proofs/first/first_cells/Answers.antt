use Rattle.std.proofs.Common.{◌≡◌, ◌*◌, length, ap, ◌∙◌, arith}
use Rattle.simulated.specs.RealWorlds.{first_real}
use Rattle.simulated.proofs.Firsts.{holds-filled}
use Rattle.simulated.proofs.first.first_cells.Goals as goal

pub loop-leaf-preserved : goal.loop-leaf-preserved
loop-leaf-preserved c =
    let l = c.loop-leaf in
    record {
      len = c.in_ok-push_row.ensures.len;
      filled = λ es k h. c.in_ok-push_row.ensures.filled es k h (l.invariant.filled es k h);
    }

pub returns-clause-held : goal.returns-clause-held
returns-clause-held c = λ es k h.
    let l = c.loop-leaf in
    let of = c.args.known.now.cluster in
    let count : c.len-count.result ≡ length of.leaves = rw c.cluster.ensures at c.len-count.ensures in
    let all : l.leaf ≡ length of.leaves = omega (arith, count, c.loop-leaf-test.false, c.loop-leaf.auto.leaf-end) in
    holds-filled of l.cells.items (first_real of es) (l.invariant.len ∙ ap (λ r. r * length of.nodes) all) (l.invariant.filled es k h)
