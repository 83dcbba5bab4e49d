-- The positions of the actions, leaf by leaf.
use Rattle.std.specs.Prelude.{◌≡◌, ℕ, ◌<◌, ◌==◌, if◌then◌else◌, false, Option, Some, None, List, [], ◌∷◌, ◌++◌, filter, slice_set, unwrap_or, slice_get}
use Rattle.std.specs.List.{range_with_len}
use Rattle.std.specs.Option.{option_map_or}
use Rattle.cluster_types.specs.declared.journal.Action.{Action}
use Rattle.cluster_types.specs.declared.journal.Action.TheVariants.{Fence, Probe, Operation, MigrateTo, MigrateFrom}
use Rattle.planner.specs.Inner.Places.{is_of_leaf, leaf_places}

-- of each of so many leaves the index has the positions of its actions
abbrev pub IsIndex : List Action → ℕ → List (List ℕ) → Type 0
IsIndex actions leaves index = (r : ℕ) → r < leaves → unwrap_or (slice_get index r) [] ≡ leaf_places actions r

-- the positions of the actions of two leaves, by the index
abbrev pub places_in : List (List ℕ) → ℕ → ℕ → List ℕ
places_in index r s = if r == s then unwrap_or (slice_get index r) [] else unwrap_or (slice_get index r) [] ++ unwrap_or (slice_get index s) []

-- the positions of a leaf's actions among the first so many
abbrev pub leaf_places_before : List Action → ℕ → ℕ → List ℕ
leaf_places_before actions r count = filter (λ i. option_map_or (is_of_leaf r) (slice_get actions i) false) (range_with_len 0 count)

abbrev pub IsIndexBefore : List Action → ℕ → ℕ → List (List ℕ) → Type 0
IsIndexBefore actions leaves count index = (r : ℕ) → r < leaves → unwrap_or (slice_get index r) [] ≡ leaf_places_before actions r count

-- one position more of the leaf, if there is one
abbrev pub with_place : List (List ℕ) → Option ℕ → ℕ → List (List ℕ)
with_place index (Some r) place = slice_set index r (unwrap_or (slice_get index r) [] ++ place ∷ [])
with_place index None place = index

abbrev pub leaf_if : Action → Option ℕ
leaf_if (Fence n) = None
leaf_if (Probe r n) = Some r
leaf_if (Operation op r n interval role) = Some r
leaf_if (MigrateTo r source target) = Some r
leaf_if (MigrateFrom r source target) = Some r
