-- Texts that grow by the line of the next number.
use Rattle.std.proofs.Common.{arith, ◌≡◌, ◌≤◌, ◌+◌, ◌-◌, ℕ, List, [], ◌∷◌, ◌++◌, refl, sym, ap, ◌∙◌, map-id, append-nil}
use Rattle.std.proofs.lemmas.Grind.{flat_map-append}
use Rattle.std.proofs.lemmas.List.{append_assoc}
use Rattle.std.proofs.lemmas.List.FromFn.{map-range_with_len_more}
use Rattle.std.specs.List.{flat_map, range_with_len}
use Rattle.cases.specs.Case.{lines}

-- numbers in a row, one more
range_more : (first count next : ℕ) → first + count ≡ next → range_with_len first (count + 1) ≡ range_with_len first count ++ next ∷ []
range_more first count next at =
    sym (map-id (range_with_len first (count + 1)))
    ∙ (map-range_with_len_more (λ (k : ℕ). k) first count next at ∙ ap (λ ks. ks ++ next ∷ []) (map-id (range_with_len first count)))

-- no line yet
pub lines_begin : (line : ℕ → List ℕ) (first : ℕ) (old : List ℕ) → old ++ lines line first first ≡ old
unfolding lines
lines_begin line first old =
    let none : first - first ≡ 0 = omega arith in
    ap (λ count. old ++ flat_map line (range_with_len first count)) none ∙ append-nil old

-- the line of the next number
pub lines_more : (line : ℕ → List ℕ) (first next : ℕ) (old before after : List ℕ) → first ≤ next → before ≡ old ++ lines line first next
    → after ≡ before ++ line next → after ≡ old ++ lines line first (next + 1)
unfolding lines
lines_more line first next old before after low was push =
    let count : next + 1 - first ≡ next - first + 1 = omega arith in
    let at : first + (next - first) ≡ next = omega arith in
    let so_far = range_with_len first (next - first) in
    let more : flat_map line (range_with_len first (next + 1 - first)) ≡ flat_map line so_far ++ line next
    = ap (λ k. flat_map line (range_with_len first k)) count
    ∙ (ap (flat_map line) (range_more first (next - first) next at)
    ∙ (flat_map-append line so_far (next ∷ []) ∙ ap (λ t. flat_map line so_far ++ t) (append-nil (line next)))) in
    push ∙ (ap (λ t. t ++ line next) was ∙ (append_assoc old (flat_map line so_far) (line next) ∙ ap (λ t. old ++ t) (sym more)))

-- four texts, one behind the other
module _ (old one two three four first second third fourth : List ℕ) where
  pub four_more : one ≡ old ++ first → two ≡ one ++ second → three ≡ two ++ third → four ≡ three ++ fourth
      → four ≡ old ++ (first ++ second ++ third ++ fourth)
  four_more a b c d = d ∙ ap (λ t. t ++ fourth) (c ∙ ap (λ t. t ++ third) (b ∙ ap (λ t. t ++ second) a)) ∙ simp append_assoc
