-- Lists made of the numbers up to a number.
use Rattle.std.proofs.Common.{◌≡◌, ◌≢◌, ◌⊎◌, inl, inr, ℕ, zero, suc, ◌+◌, ◌<◌, ◌≤◌, ◌==◌, Bool, true, false, if◌then◌else◌, List, [], ◌∷◌, ◌++◌, map, filter, count_by, get_or, set, refl, sym, ap, subst, ◌∙◌, map-id, append-nil, arith}
use Rattle.std.proofs.lemmas.Bool.{and_from, cases_eq, or_right}
use Rattle.std.proofs.lemmas.Grind.{flat_map-append}
use Rattle.std.proofs.lemmas.List.{length-set, get_or-set_same, get_or-set_other, ext_get_or}
use Rattle.std.proofs.lemmas.List.Elements.{filter-append}
use Rattle.std.proofs.lemmas.List.FromFn.{map-range_with_len_more, get_or-map-range_with_len, length-map-range_with_len}
use Rattle.std.proofs.lemmas.Option.{slice_get-get_or}
use Rattle.std.specs.Prelude.{Some, slice_get}
use Rattle.std.specs.List.{flat_map, list_all, list_any, range_with_len}
use Rattle.lemmas.proofs.Booleans.{sooner, later}
use Rattle.lemmas.proofs.Counts.{count-append, count-is}

-- one number more
pub map-more : {X : Type 0} (f : ℕ → X) (n : ℕ) → map f (range_with_len 0 (n + 1)) ≡ map f (range_with_len 0 n) ++ f n ∷ []
map-more f n = map-range_with_len_more f 0 n n (omega arith)

pub range-more : (n : ℕ) → range_with_len 0 (n + 1) ≡ range_with_len 0 n ++ n ∷ []
range-more n = sym (map-id (range_with_len 0 (n + 1))) ∙ (map-more (λ k. k) n ∙ ap (λ xs. xs ++ n ∷ []) (map-id (range_with_len 0 n)))

pub flat_map-more : {X : Type 0} (f : ℕ → List X) (n : ℕ) → flat_map f (range_with_len 0 (n + 1)) ≡ flat_map f (range_with_len 0 n) ++ f n
flat_map-more f n = ap (flat_map f) (range-more n) ∙ (flat_map-append f (range_with_len 0 n) (n ∷ []) ∙ ap (λ xs. flat_map f (range_with_len 0 n) ++ xs) (append-nil (f n)))

pub filter-more : (p : ℕ → Bool) (n : ℕ) (here : Bool) → p n ≡ here
    → filter p (range_with_len 0 (n + 1)) ≡ filter p (range_with_len 0 n) ++ (if here then n ∷ [] else [])
filter-more p n true e = ap (filter p) (range-more n) ∙ (filter-append p (range_with_len 0 n) (n ∷ []) ∙ rw e refl)
filter-more p n false e = ap (filter p) (range-more n) ∙ (filter-append p (range_with_len 0 n) (n ∷ []) ∙ rw e refl)

-- how many of the numbers below one pass a test, with one number more that passes or doesn't
module _ (p : ℕ → Bool) (k count : ℕ) (was : count ≡ count_by p (range_with_len 0 k)) where
  pub count-yes : p k ≡ true → count + 1 ≡ count_by p (range_with_len 0 (k + 1))
  count-yes here =
      let longer = ap (count_by p) (range-more k) in
      let parts = count-append p (range_with_len 0 k) (k ∷ []) in
      let one : count_by p (k ∷ []) ≡ 1 + count_by p [] = count-is p k [] true here in
      let none : count_by p [] ≡ 0 = refl in
      omega (arith, longer, parts, one, none, was)

  pub count-no : p k ≡ false → count ≡ count_by p (range_with_len 0 (k + 1))
  count-no here =
      let longer = ap (count_by p) (range-more k) in
      let parts = count-append p (range_with_len 0 k) (k ∷ []) in
      let one : count_by p (k ∷ []) ≡ 0 + count_by p [] = count-is p k [] false here in
      let none : count_by p [] ≡ 0 = refl in
      omega (arith, longer, parts, one, none, was)

-- where two functions or tests agree on the numbers from one on, what is made of these numbers is the same
module _ {X : Type 0} (f g : ℕ → X) where
  pub map-alike : (from n : ℕ) → ((k : ℕ) → from ≤ k → k < from + n → f k ≡ g k) → map f (range_with_len from n) ≡ map g (range_with_len from n)
  map-alike from zero same = refl
  map-alike from (suc n) same =
      rw (same from (omega arith) (omega arith), map-alike (from + 1) n (λ k ge lt. same k (omega arith) (omega arith))) refl

module _ {X : Type 0} (f g : ℕ → List X) where
  pub flat_map-alike : (from n : ℕ) → ((k : ℕ) → from ≤ k → k < from + n → f k ≡ g k) → flat_map f (range_with_len from n) ≡ flat_map g (range_with_len from n)
  flat_map-alike from zero same = refl
  flat_map-alike from (suc n) same =
      rw (same from (omega arith) (omega arith), flat_map-alike (from + 1) n (λ k ge lt. same k (omega arith) (omega arith))) refl

module _ (p q : ℕ → Bool) where
  abbrev AgreeOn : ℕ → ℕ → Type 0
  AgreeOn from n = (k : ℕ) → from ≤ k → k < from + n → p k ≡ q k

  pub filter-alike : (from n : ℕ) → AgreeOn from n → filter p (range_with_len from n) ≡ filter q (range_with_len from n)
  filter-alike from zero same = refl
  filter-alike from (suc n) same =
      rw (same from (omega arith) (omega arith), filter-alike (from + 1) n (λ k ge lt. same k (omega arith) (omega arith))) refl

  pub any-alike : (from n : ℕ) → AgreeOn from n → list_any p (range_with_len from n) ≡ list_any q (range_with_len from n)
  any-alike from zero same = refl
  any-alike from (suc n) same =
      rw (same from (omega arith) (omega arith), any-alike (from + 1) n (λ k ge lt. same k (omega arith) (omega arith))) refl

  pub count-alike : (from n : ℕ) → AgreeOn from n → count_by p (range_with_len from n) ≡ count_by q (range_with_len from n)
  count-alike from zero same = refl
  count-alike from (suc n) same =
      let c = count-is p from (range_with_len (from + 1) n) (q from) (same from (omega arith) (omega arith)) in
      let d = count-is q from (range_with_len (from + 1) n) (q from) refl in
      let rest = count-alike (from + 1) n (λ k ge lt. same k (omega arith) (omega arith)) in
      omega arith

-- what a function gives at a number is at its place
pub slice_get-range : {X : Type 0} (f : ℕ → X) (n k : ℕ) → k < n → slice_get (map f (range_with_len 0 n)) k ≡ Some (f k)
slice_get-range f n k low =
    let size = length-map-range_with_len f 0 n in
    slice_get-get_or (map f (range_with_len 0 n)) k (f k) (omega (arith, low, size)) ∙ ap Some (get_or-map-range_with_len f 0 n k k (f k) low (omega arith))

-- the same below a bound
pub map-same : {X : Type 0} (f g : ℕ → X) (n : ℕ) → ((i : ℕ) → i < n → f i ≡ g i) → map f (range_with_len 0 n) ≡ map g (range_with_len 0 n)
map-same f g n same = map-alike f g 0 n (λ i least most. same i (omega (arith, most)))

pub flat_map-same : {X : Type 0} (f g : ℕ → List X) (n : ℕ) → ((i : ℕ) → i < n → f i ≡ g i)
    → flat_map f (range_with_len 0 n) ≡ flat_map g (range_with_len 0 n)
flat_map-same f g n same = flat_map-alike f g 0 n (λ i least most. same i (omega (arith, most)))

pub filter-same : (p q : ℕ → Bool) (n : ℕ) → ((i : ℕ) → i < n → p i ≡ q i) → filter p (range_with_len 0 n) ≡ filter q (range_with_len 0 n)
filter-same p q n same = filter-alike p q 0 n (λ i least most. same i (omega (arith, most)))

pub any-same : (p q : ℕ → Bool) (n : ℕ) → ((i : ℕ) → i < n → p i ≡ q i) → list_any p (range_with_len 0 n) ≡ list_any q (range_with_len 0 n)
any-same p q n same = any-alike p q 0 n (λ i least most. same i (omega (arith, most)))

pub count-same : (p q : ℕ → Bool) (n : ℕ) → ((i : ℕ) → i < n → p i ≡ q i) → count_by p (range_with_len 0 n) ≡ count_by q (range_with_len 0 n)
count-same p q n same = count-alike p q 0 n (λ i least most. same i (omega (arith, most)))

-- a test over the numbers from one on: it passes for all, or for one of them
pub all_in_range : (p : ℕ → Bool) (from count : ℕ) → ((j : ℕ) → from ≤ j → j < from + count → p j ≡ true) → list_all p (range_with_len from count) ≡ true
all_in_range p from zero h = refl
all_in_range p from (suc count) h =
    and_from (p from) _ (h from (omega arith) (omega arith)) (all_in_range p (from + 1) count (λ j low high. h j (omega (arith, low)) (omega (arith, high))))

not_first : (from j : ℕ) → from ≤ j → (from == j) ≡ false → from + 1 ≤ j
not_first from j low e = grind arith

pub some_in_range : (p : ℕ → Bool) (from count j : ℕ) → from ≤ j → j < from + count → p j ≡ true → list_any p (range_with_len from count) ≡ true
some_in_range p from zero j low high h = absurd (let f : ⊥ = omega arith in f)
some_in_range p from (suc count) j low high h = at_first (from == j) refl (λ e. some_in_range p (from + 1) count j (not_first from j low e) (omega (arith, high)) h)
  where
    at_first : (same : Bool) → (from == j) ≡ same → (same ≡ false → list_any p (range_with_len (from + 1) count) ≡ true) → list_any p (range_with_len from (suc count)) ≡ true
    at_first true e rest = let f : from ≡ j = grind arith in let g : p from ≡ true = subst (λ z. p z ≡ true) (sym f) h in rw g refl
    at_first false e rest = or_right (p from) _ (rest refl)

first_or_later : (p : ℕ → Bool) (from j : ℕ) → (same : Bool) → (from == j) ≡ same → p from ≡ true → (same ≡ false → p j ≡ true) → p j ≡ true
first_or_later p from j true e h rest = let f : from ≡ j = grind arith in subst (λ z. p z ≡ true) f h
first_or_later p from j false e h rest = rest refl

pub each_in_range : (p : ℕ → Bool) (from count j : ℕ) → from ≤ j → j < from + count → list_all p (range_with_len from count) ≡ true → p j ≡ true
each_in_range p from zero j low high h = absurd (let f : ⊥ = omega arith in f)
each_in_range p from (suc count) j low high h =
    first_or_later p from j (from == j) refl (sooner (p from) _ h)
    (λ e. each_in_range p (from + 1) count j (not_first from j low e) (omega (arith, high)) (later (p from) _ h))

-- another element at one place
pub map-set-range : {X : Type 0} (d : X) (f g : ℕ → X) (k i : ℕ) (v : X) → i < k → g i ≡ v → ((n : ℕ) → n ≢ i → g n ≡ f n)
    → set (map f (range_with_len 0 k)) i v ≡ map g (range_with_len 0 k)
map-set-range d f g k i v low here others =
    ext_get_or d _ _ (length-set (map f (range_with_len 0 k)) i v ∙ (length-map-range_with_len f 0 k ∙ sym (length-map-range_with_len g 0 k)))
    (λ n within. each n (omega (arith, within, length-set (map f (range_with_len 0 k)) i v, length-map-range_with_len f 0 k)) (cases_eq n i))
  where
    each : (n : ℕ) → n < k → (n ≡ i) ⊎ (n ≢ i) → get_or (set (map f (range_with_len 0 k)) i v) n d ≡ get_or (map g (range_with_len 0 k)) n d
    each n within (inl e) =
        let long = length-map-range_with_len f 0 k in
        let at : get_or (set (map f (range_with_len 0 k)) i v) i d ≡ v = get_or-set_same (map f (range_with_len 0 k)) i v d (omega arith) in
        let same : get_or (set (map f (range_with_len 0 k)) i v) i d ≡ get_or (map g (range_with_len 0 k)) i d =
        at ∙ (sym here ∙ sym (get_or-map-range_with_len g 0 k i i d low (omega arith))) in
        subst (λ m. get_or (set (map f (range_with_len 0 k)) i v) m d ≡ get_or (map g (range_with_len 0 k)) m d) (sym e) same
    each n within (inr e) =
        get_or-set_other (map f (range_with_len 0 k)) i n v d e
        ∙ (get_or-map-range_with_len f 0 k n n d within (omega arith)
        ∙ (sym (others n e) ∙ sym (get_or-map-range_with_len g 0 k n n d within (omega arith))))
