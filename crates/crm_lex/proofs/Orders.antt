-- Names that the order finds are the same byte by byte.
use Rattle.std.proofs.Common.{◌≡◌, ◌||◌, ℕ, nat_eq, nat_cmp, true, cond, List, [], ◌∷◌, refl, sym, ap, ◌∙◌}
use Rattle.std.specs.Cmp.{partial_equiv_from_equiv}
use Rattle.std.specs.Cmp.Lexicographic.{nat_list_eq_equiv, pointwise, slice_cmp, texts_ties}
use Rattle.std.specs.List.{list_any}
use Rattle.std.specs.Ordering.{eq_by_cmp}
use Rattle.lemmas.proofs.Booleans.{cond-or}
use Rattle.crm_lex.specs.NameSets.{has_name}

same_backwards : (one other : List ℕ) → eq_by_cmp (slice_cmp nat_cmp) one other ≡ pointwise nat_eq other one
same_backwards one other = sym (texts_ties one other) ∙ (partial_equiv_from_equiv nat_list_eq_equiv).symm one other

-- what the order finds is there
pub found : (names : List (List ℕ)) (name : List ℕ) → list_any (λ each. eq_by_cmp (slice_cmp nat_cmp) name each) names ≡ has_name names name
found [] name = refl
found (each ∷ names) name = rw (same_backwards name each, found names name) refl

-- a name that was added, or was there
pub added : (old new : List (List ℕ)) (name each : List ℕ)
    → list_any (λ x. eq_by_cmp (slice_cmp nat_cmp) each x) new ≡ cond (eq_by_cmp (slice_cmp nat_cmp) name each) true (list_any (λ x. eq_by_cmp (slice_cmp nat_cmp) each x) old)
    → has_name new each ≡ (has_name old each || pointwise nat_eq name each)
added old new name each e =
    sym (found new each) ∙ (e ∙ rw (← texts_ties name each, found old each) (cond-or (pointwise nat_eq name each) (has_name old each)))
