use Rattle.std.proofs.Common.{◌≡◌, ℕ, ◌≤◌, get_or, set, ◌∙◌, arith, below_more}
use Rattle.score.specs.Choice.{points_at}
use Rattle.score.specs.Inner.Row.{tally_total}
use Rattle.score.specs.StoredRows.{stored_tally}
use Rattle.score.proofs.RowPoints.{points_set_same, points_set_other}
use Rattle.score.proofs.row_totals.totals_from.Goals as goal

pub loop-node-preserved : goal.loop-node-preserved
loop-node-preserved c =
    let out = c.loop-node.out in
    let node = c.loop-node.node in
    let score = c.total_at.result in
    let after = c.loop-node.auto.node in
    let within = c.loop-node.auto.out in record {
      totals = λ k from l. below_more
          (λ (i : ℕ). c.args.first ≤ i → points_at (set out node score) i ≡ tally_total (stored_tally (get_or c.args.minus.now i 0) (get_or c.args.plus.now i 0) (get_or c.args.sums.now i 0)))
          node (λ i below from. points_set_other out node i score (omega arith) ∙ c.loop-node.invariant.totals i from below)
          (λ from. points_set_same out node score (omega arith) ∙ c.total_at.ensures) k l from;
      below = λ k l. points_set_other out node k score (omega arith) ∙ c.loop-node.invariant.below k l;
    }
