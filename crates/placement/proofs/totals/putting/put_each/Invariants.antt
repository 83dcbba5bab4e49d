use Rattle.std.proofs.Common.{◌≡◌, ◌≤◌, ◌&&◌, ℕ, ℤ, List, length, nat_lt}
use Rattle.score.specs.NodeSet.{has}
use Rattle.score.specs.Row.{finite_at}
use Rattle.placement.specs.Rows.{IsRow, more_where}
use Rattle.placement.proofs.totals.putting.put_each.Given as goal

abbrev pub invariant-loop-node : goal.invariant-loop-node
invariant-loop-node l = record {
  terms : (terms : ℕ → List ℤ) → IsRow l.nodes terms l.fn.row → IsRow l.nodes (more_where (λ n. nat_lt n l.node && has l.set n) l.term terms) l.row;
  size : length l.row ≡ l.nodes;
  later : (n : ℕ) → l.node ≤ n → finite_at l.row n ≡ finite_at l.fn.row n;
}
