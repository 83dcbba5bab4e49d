use Rattle.std.proofs.Common.{◌≡◌, ◌≤◌, ◌++◌, ◌∷◌, [], if◌then◌else◌, nat_lt, ℕ, List, length}
use Rattle.cluster_types.specs.declared.journal.Promotion.{Promotion}
use Rattle.cluster_types.specs.Terms.{is_promoted, promotion_score}
use Rattle.score.specs.Row.{finite_at}
use Rattle.placement.specs.Locations.{scores_given}
use Rattle.placement.specs.Promotions.{AreSaid}
use Rattle.placement.specs.Rows.{IsRow, IsRoomy}
use Rattle.placement.proofs.totals.promotions.promote_row.Given as goal

abbrev pub invariant-loop-node : goal.invariant-loop-node
invariant-loop-node l = record {
  terms : (promotions : List Promotion) → AreSaid l.cluster promotions l.said
      → IsRow (length l.cluster.nodes) (λ n. scores_given l.cluster l.moment is_promoted l.leaf l.cluster.locations l.cluster.rule_locations n ++ (if nat_lt n l.node then promotion_score promotions l.leaf n ∷ [] else [])) l.row;
  size : length l.row ≡ length l.cluster.nodes;
  later : (n : ℕ) → l.node ≤ n → IsRoomy (finite_at l.row n);
}
