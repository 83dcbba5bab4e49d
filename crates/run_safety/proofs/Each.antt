-- Of each element of a list something holds.
use Rattle.std.proofs.Common.{◌≡◌, Bool, true, false, List, [], ◌∷◌, ◌++◌, filter, refl, subst}
use Rattle.std.specs.Prelude.{Some, cond, find}
use Rattle.std.specs.List.{flat_map, list_any}

pub data Each {X : Type 0} (P : X → Type 0) : List X → Type 0 where
  none : Each P []
  more : (x : X) (xs : List X) → P x → Each P xs → Each P (x ∷ xs)

pub each_append : {X : Type 0} (P : X → Type 0) (xs ys : List X) → Each P xs → Each P ys → Each P (xs ++ ys)
each_append P _ ys none h = h
each_append P _ ys (more x xs p rest) h = more x (xs ++ ys) p (each_append P xs ys rest h)

pub each_end : {X : Type 0} (P : X → Type 0) (xs : List X) (x : X) → Each P xs → P x → Each P (xs ++ x ∷ [])
each_end P xs x h p = each_append P xs (x ∷ []) h (more x [] p none)

pub each_flat : {X Y : Type 0} (P : X → Type 0) (Q : Y → Type 0) (f : X → List Y) → ((x : X) → P x → Each Q (f x)) → (xs : List X) → Each P xs → Each Q (flat_map f xs)
each_flat P Q f h _ none = none
each_flat P Q f h _ (more x xs p rest) = each_append Q (f x) (flat_map f xs) (h x p) (each_flat P Q f h xs rest)

pub each_map : {X : Type 0} (P Q : X → Type 0) → ((x : X) → P x → Q x) → (xs : List X) → Each P xs → Each Q xs
each_map P Q f _ none = none
each_map P Q f _ (more x xs p rest) = more x xs (f x p) (each_map P Q f xs rest)

pub each_filter : {X : Type 0} (p : X → Bool) (xs : List X) → Each (λ x. p x ≡ true) (filter p xs)
each_filter p [] = none
each_filter p (x ∷ xs) = by (p x) refl (each_filter p xs)
  where
    by : (b : Bool) → p x ≡ b → Each (λ x. p x ≡ true) (filter p xs) → Each (λ x. p x ≡ true) (cond b (x ∷ filter p xs) (filter p xs))
    by true e rest = more x (filter p xs) e rest
    by false e rest = rest

-- an element of a list, and those before it
pub each_at : {X : Type 0} (P : X → Type 0) (xs front after : List X) (x : X) → Each P xs → xs ≡ front ++ x ∷ after → Each P front × P x
each_at P _ [] after x none e = absurd (let f : ⊥ = cc in f)
each_at P _ (b ∷ bs) after x none e = absurd (let f : ⊥ = cc in f)
each_at P _ [] after x (more y ys p rest) e = let same : y ≡ x = cc in (none, subst P same p)
each_at P _ (b ∷ bs) after x (more y ys p rest) e =
    let same : y ≡ b = cc in
    let tail : ys ≡ bs ++ x ∷ after = cc in
    let parts = each_at P ys bs after x rest tail in
    (more b bs (subst P same p) parts.0, parts.1)

-- what a search finds passes, and holds what each does
pub found : {X : Type 0} (P : X → Type 0) (q : X → Bool) (R : Type 0) (xs : List X) (y : X) → Each P xs → find q xs ≡ Some y → (P y → q y ≡ true → R) → R
found P q R _ y none e f = absurd (let g : ⊥ = cc in g)
found P q R _ y (more x xs p rest) e f = by (q x) refl e (λ g. found P q R xs y rest g f)
  where
    by : (b : Bool) → q x ≡ b → cond b (Some x) (find q xs) ≡ Some y → (find q xs ≡ Some y → R) → R
    by true g e after = let same : x ≡ y = cc in f (subst P same p) (subst (λ z. q z ≡ true) same g)
    by false g e after = after e

pub none_passes : {X : Type 0} (p : X → Bool) (xs : List X) → Each (λ x. p x ≡ false) xs → list_any p xs ≡ false
none_passes p _ none = refl
none_passes p _ (more x xs h rest) = rw h (none_passes p xs rest)
