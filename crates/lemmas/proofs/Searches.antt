-- Searches in lists.
use Rattle.std.proofs.Common.{◌≡◌, zero, suc, Bool, true, ◌||◌, List, [], ◌∷◌, ◌++◌, get_or, refl, ap, ◌∙◌, All, Contains, arith}
use Rattle.std.proofs.Math.Bool.{or-false}
use Rattle.std.proofs.lemmas.Bool.{and_from, and_parts, or_right}
use Rattle.std.specs.List.{list_all, list_any}
use Rattle.std.proofs.lemmas.List.Elements.{Contains-get_or}
use Rattle.std.proofs.lemmas.List.Folds.{list_any-append, list_any_at}
use Rattle.lemmas.proofs.Booleans.{one_of}
use Rattle.lemmas.proofs.Members.{at_head, in_rest}

-- an empty list has no element
pub of_none : {X : Type 0} (P : X → Type 0) (x : X) → Contains [] x → P x
of_none P x (k, lt, at) = absurd (omega (arith, lt))

-- an element that passes is found
pub passes_by : {X : Type 0} (p : X → Bool) (xs : List X) (x : X) → Contains xs x → p x ≡ true → list_any p xs ≡ true
passes_by p xs x (k, lt, at) h = list_any_at p xs k x lt (rw at h)

-- where all pass, each does
pub each_passes : {X : Type 0} (p : X → Bool) (xs : List X) (x : X) → list_all p xs ≡ true → Contains xs x → p x ≡ true
each_passes p [] x h c = of_none (λ x. p x ≡ true) x c
each_passes p (y ∷ ys) x h (zero, lt, at) = rw (← at) (and_parts (p y) (list_all p ys) h).0
each_passes p (y ∷ ys) x h (suc k, lt, at) = each_passes p ys x (and_parts (p y) (list_all p ys) h).1 (k, omega (arith, lt), at)

-- where each passes, all do
pub all_pass : {X : Type 0} (p : X → Bool) (xs : List X) → ((x : X) → Contains xs x → p x ≡ true) → list_all p xs ≡ true
all_pass p [] each = refl
all_pass p (x ∷ xs) each = and_from (p x) (list_all p xs) (each x (at_head x xs x refl)) (all_pass p xs (λ y c. each y (in_rest x xs y c)))

-- what holds of each holds of all
pub all_where : {X : Type 0} (P : X → Type 0) (xs : List X) → ((x : X) → Contains xs x → P x) → All P xs
all_where P xs each k d lt = each (get_or xs k d) (Contains-get_or xs k d lt)

-- where a test passes somewhere, a weaker one does
pub any-weaker : {X : Type 0} (p q : X → Bool) (xs : List X) → ((x : X) → p x ≡ true → q x ≡ true) → list_any p xs ≡ true → list_any q xs ≡ true
any-weaker p q [] f h = h
any-weaker p q (x ∷ xs) f h = one_of (p x) (q x) (list_any p xs) (list_any q xs) (f x) (any-weaker p q xs f) h

-- with one more element, a test passes somewhere where it passed before, and where it passes there
pub any-more : {X : Type 0} (p : X → Bool) (xs : List X) (x : X) → list_any p (xs ++ x ∷ []) ≡ (list_any p xs || p x)
any-more p xs x = list_any-append p xs (x ∷ []) ∙ ap (λ b. list_any p xs || b) (or-false (p x))

pub any_last : {X : Type 0} (p : X → Bool) (xs : List X) (x : X) → p x ≡ true → list_any p (xs ++ x ∷ []) ≡ true
any_last p xs x h = any-more p xs x ∙ or_right (list_any p xs) (p x) h
