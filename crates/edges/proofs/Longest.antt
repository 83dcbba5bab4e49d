-- The longest ways: how they are made up, and that they have one length.
use Rattle.std.proofs.Common.{arith, ◌≡◌, ◌<◌, ◌≤◌, ◌+◌, ℕ, suc, zero, List, [], ◌∷◌, map, fold, max, refl, sym, ◌∙◌, ap, inl, inr, Contains}
use Rattle.std.specs.List.{range_with_len}
use Rattle.std.proofs.Math.Nat.{le-max_left, le-max_right}
use Rattle.std.proofs.lemmas.List.FromFn.{length-range_with_len}
use Rattle.std.proofs.lemmas.List.Sums.{count_by-le-length}
use Rattle.edges.specs.declared.edge.Edge.{Edge}
use Rattle.edges.specs.Inner.ShortWays.{leads_within}
use Rattle.edges.specs.Loops.{EndsWithin, HasNoLoop}
use Rattle.edges.specs.Sources.{sources_of}
use Rattle.edges.specs.LongestChains.{AreHeights, above, longest, longest_within}
use Rattle.lemmas.proofs.Members.{at_head, head_or_rest, in_none, in_rest}
use Rattle.edges.proofs.Entering.{Enters, enters_of, source_of_edge}
use Rattle.edges.proofs.Heights.{height, rises}

-- heights that agree on a list have the same above it
pub map_alike : {X : Type 0} (f g : X → ℕ) (xs : List X) → ((s : X) → Contains xs s → f s ≡ g s)
    → map (λ x. f x + 1) xs ≡ map (λ x. g x + 1) xs
map_alike f g [] same = refl
map_alike f g (x ∷ xs) same =
    let first : f x ≡ g x = same x (at_head x xs x refl) in
    let rest : map (λ x. f x + 1) xs ≡ map (λ x. g x + 1) xs = map_alike f g xs (λ s h. same s (in_rest x xs s h)) in
    rw (first, rest) refl

pub above_alike : (f g : ℕ → ℕ) (xs : List ℕ) → ((s : ℕ) → Contains xs s → f s ≡ g s) → above f xs ≡ above g xs
above_alike f g xs same = ap (fold max 0) (map_alike f g xs same)

-- what is above a list is above each member
fold_least : (a : ℕ) (xs : List ℕ) → a ≤ fold max a xs
fold_least a [] = omega arith
fold_least a (x ∷ xs) = let l = fold_least (max a x) xs in let m = le-max_left a x in omega arith

pub fold_each : {X : Type 0} (f : X → ℕ) (a : ℕ) (xs : List X) (s : X) → Contains xs s → f s < fold max a (map (λ x. f x + 1) xs)
fold_each f a [] s h = absurd (in_none s h)
fold_each f a (x ∷ xs) s h = elim (head_or_rest x xs s h) [
  | inl e ↦
      let l = fold_least (max a (f x + 1)) (map (λ x. f x + 1) xs) in
      let m = le-max_right a (f x + 1) in
      rw (← e) (omega arith)
  | inr r ↦ fold_each f (max a (f x + 1)) xs s r
]

pub above_each : (f : ℕ → ℕ) (xs : List ℕ) (s : ℕ) → Contains xs s → f s < above f xs
above_each f xs s h = fold_each f 0 xs s h

-- heights that are made up so rise along each edge
pub heights_rise : (edges : List Edge) (h : ℕ → ℕ) → AreHeights edges h → (e : Edge) → Contains edges e → h e.before < h e.after
heights_rise edges h are e c =
    let a = above_each h (sources_of edges e.after) e.before (source_of_edge edges e c) in
    let at = are e.after in
    omega arith

-- Where some g rises along each edge, ways to x have at most g x edges.

module _ (edges : List Edge) (g : ℕ → ℕ) (up : (e : Edge) → Contains edges e → g e.before < g e.after) where
  lower : (x s : ℕ) → Enters edges x s → g s < g x
  lower x s n = let u = up n.edge n.among in rw n.from at (rw n.to at u)

  no_source : (x : ℕ) → g x ≤ 0 → (xs : List ℕ) → ((s : ℕ) → Contains xs s → Enters edges x s) → xs ≡ []
  no_source x le [] each = refl
  no_source x le (s ∷ xs) each = let l = lower x s (each s (at_head s xs s refl)) in absurd (let f : ⊥ = omega arith in f)

  -- a bound of g x or more suffices
  pub settled : (m n x : ℕ) → g x ≤ m → g x ≤ n → longest_within m edges x ≡ longest_within n edges x
  settled zero zero x lm ln = refl
  settled zero (suc n) x lm ln =
      let none : sources_of edges x ≡ [] = no_source x lm (sources_of edges x) (enters_of edges x) in
      sym (ap (above (longest_within n edges)) none)
  settled (suc m) zero x lm ln =
      let none : sources_of edges x ≡ [] = no_source x ln (sources_of edges x) (enters_of edges x) in
      ap (above (longest_within m edges)) none
  settled (suc m) (suc n) x lm ln =
      above_alike (longest_within m edges) (longest_within n edges) (sources_of edges x) (λ s h.
      let l = lower x s (enters_of edges x s h) in
      settled m n s (omega arith) (omega arith))

  -- and heights that are made up so are these lengths
  pub reached : (h : ℕ → ℕ) → AreHeights edges h → (n x : ℕ) → g x ≤ n → h x ≡ longest_within n edges x
  reached h are zero x le =
      let none : sources_of edges x ≡ [] = no_source x le (sources_of edges x) (enters_of edges x) in
      are x ∙ ap (above h) none
  reached h are (suc n) x le =
      are x ∙ above_alike h (longest_within n edges) (sources_of edges x) (λ s c.
      let l = lower x s (enters_of edges x s c) in
      reached h are n s (omega arith))

module _ (positions : ℕ) (edges : List Edge) (ends : EndsWithin positions edges) (free : HasNoLoop edges) where
  bounded : (x : ℕ) → height positions edges ends free x ≤ positions
  bounded x =
      let c = count_by-le-length (λ y. leads_within positions edges y x) (range_with_len 0 positions) in
      let l = length-range_with_len 0 positions in
      omega arith

  pub longest_are_heights : AreHeights edges (longest positions edges)
  longest_are_heights x =
      let b = bounded x in
      settled edges (height positions edges ends free) (rises positions edges ends free) positions (suc positions) x b (omega arith)

  pub one_longest : (h : ℕ → ℕ) → AreHeights edges h → (x : ℕ) → h x ≡ longest positions edges x
  one_longest h are x =
      reached edges (height positions edges ends free) (rises positions edges ends free) h are positions x (bounded x)

-- no way within a bound has more edges
fold_most : (a most : ℕ) (xs : List ℕ) → a ≤ most → ((x : ℕ) → Contains xs x → x ≤ most) → fold max a xs ≤ most
fold_most a most [] le each = le
fold_most a most (x ∷ xs) le each =
    let first : x ≤ most = each x (at_head x xs x refl) in
    fold_most (max a x) most xs (omega arith) (λ y h. each y (in_rest x xs y h))

raised : (f : ℕ → ℕ) (most : ℕ) → ((x : ℕ) → f x ≤ most) → (xs : List ℕ) (y : ℕ) → Contains (map (λ x. f x + 1) xs) y → y ≤ suc most
raised f most each [] y h = absurd (in_none y h)
raised f most each (x ∷ xs) y h = elim (head_or_rest (f x + 1) (map (λ x. f x + 1) xs) y h) [
  | inl e ↦ let l = each x in omega arith
  | inr r ↦ raised f most each xs y r
]

pub longest_bounded : (n : ℕ) (edges : List Edge) (x : ℕ) → longest_within n edges x ≤ n
longest_bounded zero edges x = omega arith
longest_bounded (suc n) edges x =
    fold_most 0 (suc n) (map (λ s. longest_within n edges s + 1) (sources_of edges x)) (omega arith)
    (raised (longest_within n edges) n (λ s. longest_bounded n edges s) (sources_of edges x))

-- no way leads past the last position
pub longest_past : (positions : ℕ) (edges : List Edge) → EndsWithin positions edges → (n x : ℕ) → positions ≤ x → longest_within n edges x ≡ 0
longest_past positions edges ends zero x le = refl
longest_past positions edges ends (suc n) x le =
    ap (above (longest_within n edges)) (none (sources_of edges x) (enters_of edges x))
  where
    none : (xs : List ℕ) → ((s : ℕ) → Contains xs s → Enters edges x s) → xs ≡ []
    none [] each = refl
    none (s ∷ xs) each =
        let e = each s (at_head s xs s refl) in
        let w = ends e.edge e.among in
        let t = e.to in
        absurd (let f : ⊥ = omega arith in f)
