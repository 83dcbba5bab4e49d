-- What the list of a script says next.
use Rattle.std.proofs.Common.{◌≡◌, ◌<◌, ◌≤◌, ◌+◌, ℕ, true, List, [], ◌∷◌, Some, None, length, drop, slice_get, refl, ap, ◌∙◌, ◌⊎◌, inl, inr}
use Rattle.std.proofs.lemmas.Bool.{cases_lt}
use Rattle.std.proofs.lemmas.List.{drop_all, drop_more}
use Rattle.std.proofs.lemmas.Option.{get_or_from_slice_get, slice_get-get_or, slice_get_within}
use Rattle.cluster_types.specs.declared.journal.Answer.{Answer}
use Rattle.cluster_types.specs.declared.journal.Answer.TheVariants.{Timeout}
use Rattle.cluster_types.specs.Sources.{Says, told, used_up}

pub says_next : (answers : List Answer) (taken : ℕ) (x : Answer) → slice_get answers taken ≡ Some x
    → Says true (Some (drop taken answers)) (Some x) (Some (drop (taken + 1) answers))
says_next answers taken x at =
    let front : drop taken answers ≡ x ∷ drop (taken + 1) answers
    = drop_more answers taken x (slice_get_within answers taken x at) ∙ ap (λ y. y ∷ drop (taken + 1) answers) (get_or_from_slice_get answers taken x x at) in
    rw front (told x (drop (taken + 1) answers))

pub says_nothing : (answers : List Answer) (taken : ℕ) → slice_get answers taken ≡ None
    → Says true (Some (drop taken answers)) None (Some (drop taken answers))
says_nothing answers taken at = on (cases_lt taken (length answers)) where
  on : (taken < length answers) ⊎ (length answers ≤ taken) → Says true (Some (drop taken answers)) None (Some (drop taken answers))
  on (inl within) = let some = slice_get-get_or answers taken (Timeout 0) within in absurd (let f : ⊥ = cc in f)
  on (inr past) = let none : drop taken answers ≡ [] = drop_all taken answers past in rw none (used_up refl)
