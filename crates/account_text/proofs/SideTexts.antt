-- The lines of the colocations that count, and the searches among those of which a decision is a side.
use Rattle.std.proofs.Common.{◌≡◌, ℕ, Bool, true, false, not, cond, ◌&&◌, ◌||◌, Some, None, List, [], ◌∷◌, filter, refl, ap, ◌∙◌}
use Rattle.std.specs.Borrow.{Bor}
use Rattle.std.specs.Prelude.{find}
use Rattle.std.specs.List.{flat_map}
use Rattle.std.specs.Option.{option_copied}
use Rattle.cluster_types.specs.declared.cluster.Cluster.{Cluster}
use Rattle.cluster_types.specs.declared.placement.Decision.{Decision}
use Rattle.cluster_types.specs.declared.rules.Colocation.{Colocation}
use Rattle.cluster_types.specs.Choice.{is_dependent, is_finite_colocation, is_mandatory, is_primary, is_separation}
use Rattle.cluster_types.specs.Tables.{Targets, holds_role}
use Rattle.decision_account.specs.Parts.{from_colocation, part_of, preference_parts}
use Rattle.decision_account.specs.Verdicts.{joined_separation, joins_apart, misses_primary, missed_colocation}
use Rattle.placement.specs.Tests.{counts, has_primary, keeps_apart}
use Rattle.account_text.specs.Inner.Sides.{AreColocationsOf, first_joined, first_missing, is_side, preference_part}
use Rattle.account_text.specs.Inner.Sources.{lent_values}
use Rattle.account_text.specs.Inner.PartsByStates.{parts_text}
use Rattle.account_text.proofs.ToldTexts.{lent_map, picked}

counts_of_side : (x y f h : Bool) → ((x || y) && (f && x && h)) ≡ (f && x && h)
counts_of_side true y f h = refl
counts_of_side false true f h = refl
counts_of_side false false true h = refl
counts_of_side false false false h = refl

-- a search among what is lent
find_lent : {X : Type 0} (p : X → Bool) (all : List (Bor X)) → option_copied (find (λ x. p x.now) all) ≡ find p (lent_values all)
find_lent p [] = refl
find_lent {X = X} p (x ∷ xs) = go (p x.now) (find_lent p xs)
  where
    go : (b : Bool) → option_copied (find (λ (x : Bor X). p x.now) xs) ≡ find p (lent_values xs)
        → option_copied (cond b (Some x) (find (λ (x : Bor X). p x.now) xs)) ≡ cond b (Some x.now) (find p (lent_values xs))
    go true rest = refl
    go false rest = rest

-- a search among some that were picked before, for what is among them
find_picked : {X : Type 0} (p q w : X → Bool) → ((x : X) → w x ≡ (p x && q x)) → ((x : X) → p x ≡ true → q x ≡ w x) → (xs : List X) → find q (filter p xs) ≡ find w xs
find_picked p q w same at [] = refl
find_picked p q w same at (x ∷ xs) = go (p x) refl (find_picked p q w same at xs)
  where
    go : (a : Bool) → p x ≡ a → find q (filter p xs) ≡ find w xs → find q (cond a (x ∷ filter p xs) (filter p xs)) ≡ cond (w x) (Some x) (find w xs)
    go true e rest = ap (λ b. cond b (Some x) (find q (filter p xs))) (at x e) ∙ ap (λ o. cond (w x) (Some x) o) rest
    go false e rest = let none : w x ≡ false = same x ∙ rw e refl in rw none rest

missing_test : (x y m h : Bool) → (m && x && not h) ≡ ((x || y) && not (not (m && x) || h))
missing_test true y true true = refl
missing_test true y true false = refl
missing_test true y false h = refl
missing_test false true true h = refl
missing_test false true false h = refl
missing_test false false true h = refl
missing_test false false false h = refl

missing_alone : (x m h : Bool) → not (not (m && x) || h) ≡ (m && x && not h)
missing_alone true true true = refl
missing_alone true true false = refl
missing_alone true false h = refl
missing_alone false true h = refl
missing_alone false false h = refl

joined_test : (x y s h k : Bool) → (s && (x && h || y && k)) ≡ ((x || y) && not (not s || not (x && h) && not (y && k)))
joined_test true true true true k = refl
joined_test true true true false true = refl
joined_test true true true false false = refl
joined_test true false true true k = refl
joined_test true false true false k = refl
joined_test false true true h true = refl
joined_test false true true h false = refl
joined_test false false true h k = refl
joined_test true y false h k = refl
joined_test false true false h k = refl
joined_test false false false h k = refl

joined_alone : (x y s h k : Bool) → not (not s || not (x && h) && not (y && k)) ≡ (s && (x && h || y && k))
joined_alone true true true true k = refl
joined_alone true true true false true = refl
joined_alone true true true false false = refl
joined_alone true false true true k = refl
joined_alone true false true false k = refl
joined_alone false true true h true = refl
joined_alone false true true h false = refl
joined_alone false false true h k = refl
joined_alone x y false h k = refl

module _ (c : Cluster) (table : Targets) (d : Decision) (n : ℕ) (sides : List (Bor Colocation)) (are : AreColocationsOf d c.colocations sides) where
  pub preferences_text : (cell : List ℕ) → flat_map (λ rule. parts_text c cell (preference_part table d n rule.now)) sides
      ≡ parts_text c cell (preference_parts c table d n)
  preferences_text cell =
      lent_map (λ col. parts_text c cell (preference_part table d n col)) sides
      ∙ ap (flat_map (λ col. parts_text c cell (preference_part table d n col))) are
      ∙ picked c cell (is_side d) (counts table d n)
      (λ (col : Colocation). is_finite_colocation col && is_dependent d col && holds_role table col.primary col.primary_role n)
      (λ col. part_of None (from_colocation col.id) col.score)
      (λ col. counts_of_side (is_dependent d col) (is_primary d col) (is_finite_colocation col) (holds_role table col.primary col.primary_role n)) c.colocations

  pub missing_is : option_copied (first_missing table d n sides) ≡ missed_colocation c table d n
  missing_is =
      find_lent (λ col. not (has_primary table d n col)) sides
      ∙ ap (find (λ col. not (has_primary table d n col))) are
      ∙ find_picked (is_side d) (λ col. not (has_primary table d n col)) (misses_primary table d n)
      (λ col. missing_test (is_dependent d col) (is_primary d col) (is_mandatory col) (holds_role table col.primary col.primary_role n))
      (λ col e. missing_alone (is_dependent d col) (is_mandatory col) (holds_role table col.primary col.primary_role n)) c.colocations

  pub joined_is : option_copied (first_joined table d n sides) ≡ joined_separation c table d n
  joined_is =
      find_lent (λ col. not (keeps_apart table d n col)) sides
      ∙ ap (find (λ col. not (keeps_apart table d n col))) are
      ∙ find_picked (is_side d) (λ col. not (keeps_apart table d n col)) (joins_apart table d n)
      (λ col. joined_test (is_dependent d col) (is_primary d col) (is_separation col) (holds_role table col.primary col.primary_role n) (holds_role table col.dependent col.dependent_role n))
      (λ col e. joined_alone (is_dependent d col) (is_primary d col) (is_separation col) (holds_role table col.primary col.primary_role n) (holds_role table col.dependent col.dependent_role n)) c.colocations
