use Rattle.std.proofs.Common.{◌≡◌, ℕ, ◌+◌, ◌-◌, ◌-ℤ◌, pos, get_or, ap, ◌∙◌, arith}
use Rattle.score.specs.StoredRows.{bias}
use Rattle.score.proofs.Blocks.{loaded}
use Rattle.score.proofs.StoredTotals.{stored_total_is}
use Rattle.score.proofs.row_totals.total_block.Goals as goal

pub returns-clause-block : goal.returns-clause-block
returns-clause-block c = λ k from to.
    let at = c.args.at in
    let i : ℕ = k - at in
    let same : at + i ≡ k = omega arith in
    let point = c.loop-k.invariant.block i (omega arith) in
    let lane = c.total_lanes.ensures.each i (omega arith) in
    let minus = loaded c.args.minus.now at k from to in
    let plus = loaded c.args.plus.now at k from to in
    let sum = loaded c.args.sums.now at k from to in
    let total = rw (minus, plus, sum) at lane in
    let here = rw same at point in
    here ∙ (ap (λ x. pos x -ℤ pos bias) total
    ∙ stored_total_is (get_or c.args.minus.now k 0) (get_or c.args.plus.now k 0) (get_or c.args.sums.now k 0))
