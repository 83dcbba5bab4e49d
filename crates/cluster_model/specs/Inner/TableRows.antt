-- What a table keeps of its rows.
use Rattle.std.specs.Prelude.{◌≡◌, ℕ, suc, if◌then◌else◌, List, [], ◌∷◌, map, slice_get, Option, Some, None}
use Rattle.std.specs.Borrow.{Bor}
use Rattle.std.specs.BTreeMap.{BTreeMap}
use Rattle.std.specs.Option.{option_map, option_or}
use Rattle.crm_lex.specs.Names.{is}
use Rattle.cluster_model.specs.Inner.Tables.{lookup}

module _ {V : Type 0} where
  -- the rows, with the names that they borrow
  abbrev pub shown_rows : List (Bor (List ℕ) × V) → List (List ℕ × V)
  shown_rows rows = map (λ row. (row.0.now, row.1)) rows

  -- the place of the first row of a name
  abbrev pub first_place : List (List ℕ × V) → List ℕ → Option ℕ
  first_place [] name = None
  first_place (row ∷ rows) name = if is name row.0 then Some 0 else option_map (λ n. suc n) (first_place rows name)

  -- what stands at a place
  abbrev pub value_at : List (List ℕ × V) → ℕ → Option V
  value_at rows n = option_map (λ (row : List ℕ × V). row.1) (slice_get rows n)

-- the place that a map has for a name
abbrev pub place_found : BTreeMap (Bor (List ℕ)) ℕ → List ℕ → Option ℕ
place_found places name = lookup (shown_rows places.entries) name

-- a place of a name, unless it has one already
abbrev pub or_place : Option ℕ → List ℕ → List ℕ → ℕ → Option ℕ
or_place place each name n = option_or place (if is each name then Some n else None)

-- the map has the place of the first row of each name
pub record HasFirstPlaces {V : Type 0} (places : BTreeMap (Bor (List ℕ)) ℕ) (rows : List (List ℕ × V)) : Type 0 where
  pub has : (name : List ℕ) → place_found places name ≡ first_place rows name
