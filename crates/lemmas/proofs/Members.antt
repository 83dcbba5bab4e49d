-- Members of lists that are made of others.
use Rattle.std.proofs.Common.{arith, ◌≡◌, ◌<◌, ◌≤◌, ◌+◌, ℕ, suc, zero, Bool, true, false, if◌then◌else◌, List, [], ◌∷◌, ◌++◌, length, map, filter, take, cond, slice_get, slice_index_or, refl, sym, ◌∙◌, ap, ◌⊎◌, inl, inr, Contains}
use Rattle.std.specs.List.{AllByRecursion, flat_map, range_with_len}
use Rattle.std.proofs.lemmas.Bool.{cases_order}
use Rattle.std.proofs.lemmas.List.{length-take, get_or-take, take_more}
use Rattle.std.proofs.lemmas.List.Elements.{Contains-append_left, Contains-append_right, Contains-append_cases, Contains-push_cases}

module _ {X : Type 0} where
  -- of a joined list, what stands in its left part
  pub slice_get_left : (xs ys : List X) (i : ℕ) → i < length xs → slice_get (xs ++ ys) i ≡ slice_get xs i
  slice_get_left [] ys i lt = absurd (let f : ⊥ = omega arith in f)
  slice_get_left (x ∷ xs) ys zero lt = refl
  slice_get_left (x ∷ xs) ys (suc i) lt = slice_get_left xs ys i (omega arith)

  pub head_or_rest : (x : X) (xs : List X) (a : X) → Contains (x ∷ xs) a → (x ≡ a) ⊎ Contains xs a
  head_or_rest x xs a (zero, l, e) = inl e
  head_or_rest x xs a (suc k, l, e) = inr (k, omega arith, e)

  pub at_head : (x : X) (xs : List X) (a : X) → x ≡ a → Contains (x ∷ xs) a
  at_head x xs a e = (0, omega arith, e)

  pub in_rest : (x : X) (xs : List X) (a : X) → Contains xs a → Contains (x ∷ xs) a
  in_rest x xs a (k, l, e) = (suc k, omega arith, e)

  pub in_none : (a : X) → Contains [] a → ⊥
  in_none a (k, l, f) = absurd (let f : ⊥ = omega arith in f)

  -- the one element of a list that is there on a condition
  pub in_if : (b : Bool) (x : X) → b ≡ true → Contains (if b then x ∷ [] else []) x
  in_if true x h = at_head x [] x refl
  in_if false x h = cc

  -- what a loop reads
  pub read_there : {xs ys : List X} {k : ℕ} {x : X} → ys ≡ xs → k < length ys → x ≡ slice_index_or ys k x → Contains xs x
  read_there same lt is = rw (← same) (_, lt, sym is)

  pub contains_first : (n : ℕ) (xs : List X) (x : X) → Contains (take n xs) x → Contains xs x
  contains_first n xs x (k, lt, at) =
      let l = length-take n xs in
      (k, omega arith, sym (get_or-take n xs k x (omega arith)) ∙ at)

  -- what is among the first is among more of them
  pub contains_shorter : (m n : ℕ) (xs : List X) (x : X) → m ≤ n → Contains (take m xs) x → Contains (take n xs) x
  contains_shorter m n xs x le (k, lt, at) =
      let l = length-take m xs in
      let r = length-take n xs in
      (k, omega arith, get_or-take n xs k x (omega arith) ∙ sym (get_or-take m xs k x (omega arith)) ∙ at)

  -- what holds of all in each of two lists holds of all in both together, and of all in the first where it holds of all in both
  pub all_append : (P : X → Type 0) (xs ys : List X) → AllByRecursion P xs → AllByRecursion P ys → AllByRecursion P (xs ++ ys)
  all_append P [] ys h k = k
  all_append P (x ∷ xs) ys h k = (h.0, all_append P xs ys h.1 k)

  pub all_first : (P : X → Type 0) (xs ys : List X) → AllByRecursion P (xs ++ ys) → AllByRecursion P xs
  all_first P [] ys h = tt
  all_first P (x ∷ xs) ys h = (h.0, all_first P xs ys h.1)

  -- what holds of each of the first and of the one behind them
  pub all_more : (P : X → Type 0) (xs : List X) (i : ℕ) (x : X) → i < length xs → x ≡ slice_index_or xs i x
      → ((a : X) → Contains (take i xs) a → P a)
      → P x → (a : X) → Contains (take (i + 1) xs) a → P a
  all_more P xs i x lt is all p a h =
      let t : take (i + 1) xs ≡ take i xs ++ x ∷ [] = rw (← is) at (take_more xs i x lt) in
      elim (Contains-push_cases (take i xs) x a (rw t at h)) [
        | inl old ↦ all a old
        | inr new ↦ rw (← new) p
      ]

  -- of a list, what a test keeps
  pub in_filter : (p : X → Bool) (xs : List X) (a : X) → Contains xs a → p a ≡ true → Contains (filter p xs) a
  in_filter p [] a h t = h
  in_filter p (x ∷ xs) a h t = on (p x) refl (head_or_rest x xs a h) (in_filter p xs a) where
    on : (b : Bool) → p x ≡ b → (x ≡ a) ⊎ Contains xs a → (Contains xs a → p a ≡ true → Contains (filter p xs) a)
        → Contains (cond b (x ∷ filter p xs) (filter p xs)) a
    on true e (inl f) next = at_head x (filter p xs) a f
    on true e (inr r) next = in_rest x (filter p xs) a (next r t)
    on false e (inl f) next = let g = ap p f in cc
    on false e (inr r) next = next r t

  -- what stands in the list and passes the test
  pub record Kept (p : X → Bool) (xs : List X) (a : X) : Type 0 where
    pub among : Contains xs a
    pub passes : p a ≡ true

  pub of_filter : (p : X → Bool) (xs : List X) (a : X) → Contains (filter p xs) a → Kept p xs a
  of_filter p [] a h = absurd (in_none a h)
  of_filter p (x ∷ xs) a h = on (p x) refl h (of_filter p xs a) where
    more : Kept p xs a → Kept p (x ∷ xs) a
    more k = record { among = in_rest x xs a k.among; passes = k.passes }

    first : p x ≡ true → (x ≡ a) ⊎ Contains (filter p xs) a → (Contains (filter p xs) a → Kept p xs a) → Kept p (x ∷ xs) a
    first e (inl f) next = record { among = at_head x xs a f; passes = sym (ap p f) ∙ e }
    first e (inr r) next = more (next r)

    on : (b : Bool) → p x ≡ b → Contains (cond b (x ∷ filter p xs) (filter p xs)) a → (Contains (filter p xs) a → Kept p xs a)
        → Kept p (x ∷ xs) a
    on true e h next = first e (head_or_rest x (filter p xs) a h) next
    on false e h next = more (next h)

module _ {X Y : Type 0} where
  pub in_map : (f : X → Y) (xs : List X) (x : X) → Contains xs x → Contains (map f xs) (f x)
  in_map f [] x h = absurd (in_none x h)
  in_map f (y ∷ xs) x h = on (head_or_rest y xs x h) (in_map f xs x) where
    on : (y ≡ x) ⊎ Contains xs x → (Contains xs x → Contains (map f xs) (f x)) → Contains (map f (y ∷ xs)) (f x)
    on (inl e) next = at_head (f y) (map f xs) (f x) (ap f e)
    on (inr r) next = in_rest (f y) (map f xs) (f x) (next r)

  -- what stands in the list and gives the other
  pub record Mapped (f : X → Y) (xs : List X) (y : Y) : Type 0 where
    pub source : X
    pub among : Contains xs source
    pub gives : f source ≡ y

  pub of_map : (f : X → Y) (xs : List X) (y : Y) → Contains (map f xs) y → Mapped f xs y
  of_map f [] y h = absurd (in_none y h)
  of_map f (x ∷ xs) y h = on (head_or_rest (f x) (map f xs) y h) (of_map f xs y) where
    on : (f x ≡ y) ⊎ Contains (map f xs) y → (Contains (map f xs) y → Mapped f xs y) → Mapped f (x ∷ xs) y
    on (inl e) next = record { source = x; among = at_head x xs x refl; gives = e }
    on (inr r) next = let m = next r in record { source = m.source; among = in_rest x xs m.source m.among; gives = m.gives }

  pub in_flat : (f : X → List Y) (xs : List X) (x : X) (y : Y) → Contains xs x → Contains (f x) y → Contains (flat_map f xs) y
  in_flat f [] x y h g = absurd (in_none x h)
  in_flat f (z ∷ xs) x y h g = on (head_or_rest z xs x h) (in_flat f xs x y) where
    on : (z ≡ x) ⊎ Contains xs x → (Contains xs x → Contains (f x) y → Contains (flat_map f xs) y) → Contains (flat_map f (z ∷ xs)) y
    on (inl e) next = Contains-append_left (f z) (flat_map f xs) y (rw e g)
    on (inr r) next = Contains-append_right (f z) (flat_map f xs) y (next r g)

  -- what stands in the list and has the other among what it gives
  pub record Flat (f : X → List Y) (xs : List X) (y : Y) : Type 0 where
    pub source : X
    pub among : Contains xs source
    pub gives : Contains (f source) y

  pub of_flat : (f : X → List Y) (xs : List X) (y : Y) → Contains (flat_map f xs) y → Flat f xs y
  of_flat f [] y h = absurd (in_none y h)
  of_flat f (x ∷ xs) y h = on (Contains-append_cases (f x) (flat_map f xs) y h) (of_flat f xs y) where
    on : Contains (f x) y ⊎ Contains (flat_map f xs) y → (Contains (flat_map f xs) y → Flat f xs y) → Flat f (x ∷ xs) y
    on (inl e) next = record { source = x; among = at_head x xs x refl; gives = e }
    on (inr r) next = let m = next r in record { source = m.source; among = in_rest x xs m.source m.among; gives = m.gives }

pub in_range : (a n x : ℕ) → a ≤ x → x < a + n → Contains (range_with_len a n) x
in_range a zero x le lt = absurd (let f : ⊥ = omega arith in f)
in_range a (suc n) x le lt = elim (cases_order a x) [
  | inl e ↦ at_head a (range_with_len (a + 1) n) x e
  | inr (inl less) ↦ in_rest a (range_with_len (a + 1) n) x (in_range (a + 1) n x (omega arith) (omega arith))
  | inr (inr more) ↦ absurd (let f : ⊥ = omega arith in f)
]

pub of_range : (a n x : ℕ) → Contains (range_with_len a n) x → x < a + n
of_range a zero x h = absurd (in_none x h)
of_range a (suc n) x h = on (head_or_rest a (range_with_len (a + 1) n) x h) (of_range (a + 1) n x) where
  on : (a ≡ x) ⊎ Contains (range_with_len (a + 1) n) x → (Contains (range_with_len (a + 1) n) x → x < a + 1 + n) → x < a + suc n
  on (inl e) next = omega arith
  on (inr r) next = let s = next r in omega arith
