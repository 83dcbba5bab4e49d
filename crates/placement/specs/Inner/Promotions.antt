-- Promotion scores as they are kept and counted (follows from the definition of promotion scores).
use Rattle.std.specs.Prelude.{Bool, false, is_none, ℕ, ℤ, Option, List, ◌∷◌, ◌++◌, slice_get, []}
use Rattle.std.specs.Option.{option_map_or}
use Rattle.cluster_types.specs.declared.cluster.Cluster.{Cluster}
use Rattle.cluster_types.specs.declared.journal.Promotion.{Promotion}
use Rattle.cluster_types.specs.Terms.{is_promoted, promotion_score}
use Rattle.placement.specs.Locations.{scores_given}

-- the place is there, and nothing is kept at it
abbrev pub is_vacant : List (Option ℤ) → ℕ → Bool
is_vacant said place = option_map_or is_none (slice_get said place) false

module _ (c : Cluster) where
  -- what counts for promoting the leaf on a node, the promotion score at the end
  abbrev pub wished_by : ℕ → List Promotion → ℕ → ℕ → List ℤ
  wished_by moment promotions r n = scores_given c moment is_promoted r c.locations c.rule_locations n ++ promotion_score promotions r n ∷ []
