-- The promotion scores that a status says, cell by cell (follows from the definition of promotion scores).
use Rattle.std.specs.Prelude.{◌≡◌, ℕ, ◌+◌, ◌*◌, ◌<◌, ◌==◌, ◌&&◌, ℤ, Option, Some, List, find, length, slice_get}
use Rattle.std.specs.Option.{option_map}
use Rattle.cluster_types.specs.declared.cluster.Cluster.{Cluster}
use Rattle.cluster_types.specs.declared.journal.Promotion.{Promotion}

-- the first of these scores that is said of the leaf on the node
abbrev pub score_said_of : List Promotion → ℕ → ℕ → Option ℤ
score_said_of promotions r n = option_map (λ (p : Promotion). p.score) (find (λ p. p.leaf == r && p.node == n) promotions)

module _ (c : Cluster) where
  -- what is kept of each cell, leaf by leaf and node by node, is the first that is said of it
  pub record AreSaid (promotions : List Promotion) (said : List (Option ℤ)) : Type 0 where
    pub size : length said ≡ length c.leaves * length c.nodes
    pub each : (r n : ℕ) → r < length c.leaves → n < length c.nodes
        → slice_get said (r * length c.nodes + n) ≡ Some (score_said_of promotions r n)
