-- What a table finds, and what it finds with one more row.
use Rattle.std.proofs.Common.{◌≡◌, ℕ, zero, suc, Bool, true, false, cond, if◌then◌else◌, List, [], ◌∷◌, ◌++◌, length, slice_get, Option, Some, None, refl, sym, ap, ◌∙◌}
use Rattle.std.specs.Borrow.{Bor}
use Rattle.std.specs.BTreeMap.{is_at}
use Rattle.std.specs.Cmp.Lexicographic.{bytes_decides, slice_cmp}
use Rattle.std.specs.Map as std_map
use Rattle.std.specs.Option.{option_and_then, option_map, option_or}
use Rattle.std.specs.Ordering.{nat_cmp}
use Rattle.std.proofs.lemmas.Cmp.{nat_list_eq_equiv}
use Rattle.std.proofs.lemmas.Map.Text.{is_eq-slice_cmp}
use Rattle.crm_lex.specs.Names.{is}
use Rattle.cluster_model.specs.Inner.TableRows.{first_place, or_place, shown_rows, value_at}
use Rattle.cluster_model.specs.Inner.Tables.{lookup}

module _ {V : Type 0} where
  -- an ordered map finds a name as a list of its rows does
  pub found : (name : List ℕ) (rows : List (Bor (List ℕ) × V))
      → std_map.lookup (is_at (λ (key : Bor (List ℕ)). slice_cmp nat_cmp name key.now)) rows ≡ lookup (shown_rows rows) name
  found name [] = refl
  found name (row ∷ rows) = rw (is_eq-slice_cmp name row.0.now, found name rows) refl

  -- what stands at a place of the rows, with the names that they borrow
  pub shown_value : (rows : List (Bor (List ℕ) × V)) (n : ℕ) → option_map (λ (row : List ℕ × V). row.1) (slice_get (shown_rows rows) n)
      ≡ option_map (λ (row : Bor (List ℕ) × V). row.1) (slice_get rows n)
  shown_value [] n = refl
  shown_value (row ∷ rows) zero = refl
  shown_value (row ∷ rows) (suc n) = shown_value rows n

  later_value : (row : List ℕ × V) (rows : List (List ℕ × V)) (place : Option ℕ)
      → option_and_then (value_at rows) place ≡ option_and_then (value_at (row ∷ rows)) (option_map (λ n. suc n) place)
  later_value row rows None = refl
  later_value row rows (Some n) = refl

  -- what a name stands for stands in its first row
  pub first_value : (name : List ℕ) (rows : List (List ℕ × V)) → lookup rows name ≡ option_and_then (value_at rows) (first_place rows name)
  first_value name [] = refl
  first_value name (row ∷ rows) = on (is name row.0) (first_value name rows)
    where
      on : (b : Bool) → lookup rows name ≡ option_and_then (value_at rows) (first_place rows name)
          → cond b (Some row.1) (lookup rows name) ≡ option_and_then (value_at (row ∷ rows)) (if b then Some 0 else option_map (λ n. suc n) (first_place rows name))
      on true later = refl
      on false later = later ∙ later_value row rows (first_place rows name)

or_none : {X : Type 0} (found : Option X) → found ≡ option_or found None
or_none None = refl
or_none (Some x) = refl

later_place : (place : Option ℕ) (b : Bool) (n : ℕ)
    → option_map (λ k. suc k) (option_or place (if b then Some n else None)) ≡ option_or (option_map (λ k. suc k) place) (if b then Some (suc n) else None)
later_place (Some k) b n = refl
later_place None true n = refl
later_place None false n = refl

module _ {V : Type 0} (key : Bor (List ℕ)) (value : V) (name : List ℕ) where
  -- the place of a name among rows and one more
  pub one_more : (rows : List (Bor (List ℕ) × V))
      → or_place (first_place (shown_rows rows) name) name key.now (length rows) ≡ first_place (shown_rows (rows ++ (key, value) ∷ [])) name
  one_more [] = refl
  one_more (row ∷ rows) = on (is name row.0.now) (one_more rows)
    where
      on : (b : Bool) → or_place (first_place (shown_rows rows) name) name key.now (length rows) ≡ first_place (shown_rows (rows ++ (key, value) ∷ [])) name
          → or_place (if b then Some 0 else option_map (λ n. suc n) (first_place (shown_rows rows) name)) name key.now (suc (length rows))
          ≡ (if b then Some 0 else option_map (λ n. suc n) (first_place (shown_rows (rows ++ (key, value) ∷ [])) name))
      on true later = refl
      on false later = sym (later_place (first_place (shown_rows rows) name) (is name key.now) (length rows)) ∙ ap (option_map (λ n. suc n)) later

module _ (old new : List (Bor (List ℕ) × ℕ)) (key : Bor (List ℕ)) (n : ℕ) where
  -- a name that an ordered map lacks, once its place is entered
  pub kept : lookup (shown_rows old) key.now ≡ None
      → ((q : Bor (List ℕ)) → std_map.lookup (is_at (λ (k : Bor (List ℕ)). slice_cmp nat_cmp q.now k.now)) new
      ≡ cond (is_at (λ (k : Bor (List ℕ)). slice_cmp nat_cmp key.now k.now) q) (Some n) (std_map.lookup (is_at (λ (k : Bor (List ℕ)). slice_cmp nat_cmp q.now k.now)) old))
      → (each : List ℕ) → lookup (shown_rows new) each ≡ or_place (lookup (shown_rows old) each) each key.now n
  kept none enters each =
      let q : Bor (List ℕ) = record key { now = each } in
      sym (found each new) ∙ enters q ∙ rw (is_eq-slice_cmp key.now each, found each old, nat_list_eq_equiv.symm each key.now) (on (is key.now each) refl)
    where
      on : (b : Bool) → is key.now each ≡ b → cond b (Some n) (lookup (shown_rows old) each) ≡ option_or (lookup (shown_rows old) each) (if b then Some n else None)
      on true e =
          let same : key.now ≡ each = (bytes_decides key.now each).0 e in
          let here : lookup (shown_rows old) each ≡ None = rw (← same) none in
          rw here refl
      on false e = or_none (lookup (shown_rows old) each)
