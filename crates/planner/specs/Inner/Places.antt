-- At which positions the actions of a join stand: those that hang on a rule at those of its two leaves, the others anywhere.
use Rattle.std.specs.Prelude.{ℕ, ◌==◌, Bool, false, if◌then◌else◌, Option, Some, None, List, ◌++◌, length, filter, slice_get}
use Rattle.std.specs.List.{range_with_len}
use Rattle.std.specs.Option.{option_map_or}
use Rattle.cluster_types.specs.declared.journal.Action.{Action}
use Rattle.cluster_types.specs.declared.journal.Action.TheVariants.{Fence, Probe, Operation, MigrateTo, MigrateFrom}
use Rattle.planner.specs.declared.precedence.sides.Join.{Join}
use Rattle.planner.specs.declared.precedence.sides.Side.{Side}
use Rattle.planner.specs.declared.precedence.sides.Side.TheVariants as side

abbrev pub is_of_leaf : ℕ → Action → Bool
is_of_leaf r (Fence n) = false
is_of_leaf r (Probe leaf n) = leaf == r
is_of_leaf r (Operation op leaf n interval role) = leaf == r
is_of_leaf r (MigrateTo leaf source target) = leaf == r
is_of_leaf r (MigrateFrom leaf source target) = leaf == r

-- the leaf of a side that hangs on a rule
abbrev pub side_leaf : Side → Option ℕ
side_leaf (side.Parts r role) = Some r
side_leaf (side.GivesRole r role) = Some r
side_leaf (side.Earlier r word local) = Some r
side_leaf (side.EarlierTakers r word local) = Some r
side_leaf (side.Later r word local) = Some r
side_leaf (side.LaterTakers r word local) = Some r
side_leaf _ = None

module _ (actions : List Action) where
  abbrev pub all_places : List ℕ
  all_places = range_with_len 0 (length actions)

  abbrev pub leaf_places : ℕ → List ℕ
  leaf_places r = filter (λ i. option_map_or (is_of_leaf r) (slice_get actions i) false) all_places

  -- those of either leaf, each once
  abbrev pub rule_places : ℕ → ℕ → List ℕ
  rule_places r s = if r == s then leaf_places r else leaf_places r ++ leaf_places s

  abbrev pub places_by : Option ℕ → Option ℕ → List ℕ
  places_by (Some r) (Some s) = rule_places r s
  places_by _ _ = all_places

  abbrev pub places_of : Join → List ℕ
  places_of j = places_by (side_leaf j.from) (side_leaf j.to)
