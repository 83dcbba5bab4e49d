-- The bits of a word, and the words of a set of nodes.
use Rattle.std.proofs.Common.{◌≡◌, ◌≢◌, ◌⊎◌, inl, inr, ℕ, suc, zero, ◌+◌, ◌-◌, ◌*◌, ◌/◌, ◌%◌, ◌^◌, ◌<◌, ◌≤◌, max, min, nat_eq, nat_lt, if◌then◌else◌, ℤ, pos, int_lt, Bool, true, false, not, ◌&&◌, ◌||◌, List, length, get_or, set, replicate, w64, refl, sym, ap, subst, ◌∙◌, arith}
use Rattle.std.specs.Int.{bit_at, bit_not, is_negative}
use Rattle.std.specs.Int.Bits.{bit_or, bit_and}
use Rattle.std.proofs.lemmas.Nat.Bits.{bit_at-lt, bit_at_or, bit_at_and, bit_at_cat_low, bit_at_cat_high, bit_at-zero, bit_at_above, bit_at_set_same, bit_at_set_other, bit_at_clear_same, bit_at_clear_other}
use Rattle.std.proofs.lemmas.Bool.{cases_eq, cases_lt, eq-eqb, ne_eqb}
use Rattle.std.proofs.lemmas.List.{get_or-replicate, get_or_past, length-replicate, get_or-set_same, get_or-set_other}
use Rattle.std.proofs.lemmas.Nat.{shl_whole, pow_pos, div_below, mod_below, div-add-mod'}
use Rattle.std.proofs.lemmas.Int.{ints}
use Rattle.std.proofs.Math.Bool.{or-false}
use Rattle.score.specs.Choice.{has_enough}
use Rattle.score.specs.Inner.Choice.{SaysEnough}
use Rattle.score.specs.NodeSet.{is_set}

one_of : (x y : ℕ) → x < 2 → y < 2 → nat_eq (max x y) 1 ≡ (nat_eq x 1 || nat_eq y 1)
one_of zero zero p q = refl
one_of zero (suc zero) p q = refl
one_of (suc zero) zero p q = refl
one_of (suc zero) (suc zero) p q = refl
one_of (suc (suc x)) y p q = absurd (omega (arith, p))
one_of x (suc (suc y)) p q = absurd (omega (arith, q))

both_of : (x y : ℕ) → x < 2 → y < 2 → nat_eq (min x y) 1 ≡ (nat_eq x 1 && nat_eq y 1)
both_of zero zero p q = refl
both_of zero (suc zero) p q = refl
both_of (suc zero) zero p q = refl
both_of (suc zero) (suc zero) p q = refl
both_of (suc (suc x)) y p q = absurd (omega (arith, p))
both_of x (suc (suc y)) p q = absurd (omega (arith, q))

-- the bits of two words together, and those that both have
pub set_in_either : (a b k : ℕ) → is_set (bit_or a b) k ≡ (is_set a k || is_set b k)
set_in_either a b k = ap (λ x. nat_eq x 1) (bit_at_or a b k) ∙ one_of (bit_at a k) (bit_at b k) (bit_at-lt a k) (bit_at-lt b k)

pub set_in_both : (a b k : ℕ) → is_set (bit_and a b) k ≡ (is_set a k && is_set b k)
set_in_both a b k = ap (λ x. nat_eq x 1) (bit_at_and a b k) ∙ both_of (bit_at a k) (bit_at b k) (bit_at-lt a k) (bit_at-lt b k)

-- the bits of a word of j bits that is shifted by s
module _ (x j s : ℕ) (small : x < 2 ^ j) (room : j + s ≤ 64) where
  whole : (x * 2 ^ s) % 2 ^ 64 ≡ x * 2 ^ s + 0
  whole = shl_whole x j s 64 small room ∙ (omega arith)

  pub shifted_below : (k : ℕ) → k < s → is_set ((x * 2 ^ s) % 2 ^ 64) k ≡ false
  shifted_below k low = ap (λ n. is_set n k) whole ∙ ap (λ n. nat_eq n 1) (bit_at_cat_low x s 0 k low ∙ bit_at-zero k)

  pub shifted_from : (k : ℕ) → s ≤ k → is_set ((x * 2 ^ s) % 2 ^ 64) k ≡ is_set x (k - s)
  shifted_from k high = ap (λ n. is_set n k) whole ∙ ap (λ n. nat_eq n 1) (bit_at_cat_high x s 0 k (pow_pos s) high)

-- no bit of words that are all 0 is set
pub none_set : (m k : ℕ) → is_set (get_or (replicate 4 0) m 0) k ≡ false
none_set m k = ap (λ w. is_set w k) (zero_at (cases_lt m 4)) ∙ ap (λ b. nat_eq b 1) (bit_at-zero k)
  where
    zero_at : (m < 4) ⊎ (4 ≤ m) → ◌≡◌ {A = ℕ} (get_or (replicate 4 0) m 0) 0
    zero_at (inl h) = get_or-replicate 4 m 0 0 h
    zero_at (inr h) =
        let z : ℕ = 0 in
        let long = length-replicate 4 z in
        get_or_past (replicate 4 z) m z (omega arith)

-- a node is its word and its place there
same_node : (n node : ℕ) → n / 64 ≡ node / 64 → n % 64 ≡ node % 64 → n ≡ node
same_node n node p q = omega (arith, div-add-mod' n 64, div-add-mod' node 64)

-- a number by its word and its place there
pub word_and_place : (n : ℕ) → (n / 64 * 64 + n % 64 ≡ n) × (n % 64 < 64)
word_and_place n = (div-add-mod' n 64, mod_below n 64 (omega arith))

-- of four words no bit from 256 on is set
pub within_set : (words : List ℕ) → length words ≡ 4 → (n : ℕ) → 256 ≤ n → is_set (get_or words (n / 64) 0) (n % 64) ≡ false
within_set words long n high =
    let f = word_and_place n in
    ap (λ w. is_set w (n % 64)) (get_or_past words (n / 64) 0 (omega (arith, long, high, f))) ∙ ap (λ b. nat_eq b 1) (bit_at-zero (n % 64))

-- of words in which the bit of a node was set, or cleared
module _ (words : List ℕ) (node : ℕ) (long : length words ≡ 4) (within : node < 256) where
  abbrev old : ℕ
  old = get_or words (node / 64) 0

  inside : node / 64 < length words
  inside = let d = div_below node 64 4 (omega arith) (omega arith) in omega arith

  low : node % 64 < 64
  low = mod_below node 64 (omega arith)

  abbrev word_with : ℕ
  word_with = bit_or (get_or words (node / 64) 0) (1 * 2 ^ (node % 64) % 2 ^ 64)

  abbrev word_without : ℕ
  word_without = bit_and (get_or words (node / 64) 0) (bit_not w64 (1 * 2 ^ (node % 64) % 2 ^ 64))

  -- a word elsewhere is the same, in whatever way this one changed
  elsewhere : (word n : ℕ) → n / 64 ≢ node / 64 → get_or (set words (node / 64) word) (n / 64) 0 ≡ get_or words (n / 64) 0
  elsewhere word n other = get_or-set_other words (node / 64) (n / 64) word 0 other

  here : (word n : ℕ) → n / 64 ≡ node / 64 → get_or (set words (node / 64) word) (n / 64) 0 ≡ word
  here word n same = ap (λ m. get_or (set words (node / 64) word) m 0) same ∙ get_or-set_same words (node / 64) word 0 inside

  pub with_node : (n : ℕ) → is_set (get_or (set words (node / 64) (bit_or (get_or words (node / 64) 0) (1 * 2 ^ (node % 64) % 2 ^ 64))) (n / 64) 0) (n % 64)
      ≡ (nat_eq n node || is_set (get_or words (n / 64) 0) (n % 64))
  with_node n = elim (cases_eq (n / 64) (node / 64)) [
    | inl same ↦ elim (cases_eq (n % 64) (node % 64)) [
      | inl also ↦
          let e = same_node n node same also in
          ap (λ w. is_set w (n % 64)) (here word_with n same)
          ∙ ap (λ k. is_set word_with k) also
          ∙ ap (λ b. nat_eq b 1) (bit_at_set_same w64 old (node % 64) low)
          ∙ sym (ap (λ b. b || is_set (get_or words (n / 64) 0) (n % 64)) (eq-eqb n node e))
      | inr other ↦
          ap (λ w. is_set w (n % 64)) (here word_with n same)
          ∙ ap (λ b. nat_eq b 1) (bit_at_set_other w64 old (node % 64) low (n % 64) other)
          ∙ ap (λ m. is_set (get_or words m 0) (n % 64)) (sym same)
          ∙ sym (ap (λ b. b || is_set (get_or words (n / 64) 0) (n % 64)) (ne_eqb n node (λ e. other (ap (λ m. m % 64) e))))
    ]
    | inr other ↦
        ap (λ w. is_set w (n % 64)) (elsewhere word_with n other)
        ∙ sym (ap (λ b. b || is_set (get_or words (n / 64) 0) (n % 64)) (ne_eqb n node (λ e. other (ap (λ m. m / 64) e))))
  ]

  pub without_node : (n : ℕ) → is_set (get_or (set words (node / 64) (bit_and (get_or words (node / 64) 0) (bit_not w64 (1 * 2 ^ (node % 64) % 2 ^ 64)))) (n / 64) 0) (n % 64)
      ≡ (not (nat_eq n node) && is_set (get_or words (n / 64) 0) (n % 64))
  without_node n = elim (cases_eq (n / 64) (node / 64)) [
    | inl same ↦ elim (cases_eq (n % 64) (node % 64)) [
      | inl also ↦
          let e = same_node n node same also in
          ap (λ w. is_set w (n % 64)) (here word_without n same)
          ∙ ap (λ k. is_set word_without k) also
          ∙ ap (λ b. nat_eq b 1) (bit_at_clear_same w64 old (node % 64) low)
          ∙ sym (ap (λ b. not b && is_set (get_or words (n / 64) 0) (n % 64)) (eq-eqb n node e))
      | inr other ↦
          ap (λ w. is_set w (n % 64)) (here word_without n same)
          ∙ ap (λ b. nat_eq b 1) (bit_at_clear_other w64 old (node % 64) low (n % 64) (mod_below n 64 (omega arith)) other)
          ∙ ap (λ m. is_set (get_or words m 0) (n % 64)) (sym same)
          ∙ sym (ap (λ b. not b && is_set (get_or words (n / 64) 0) (n % 64)) (ne_eqb n node (λ e. other (ap (λ m. m % 64) e))))
    ]
    | inr other ↦
        ap (λ w. is_set w (n % 64)) (elsewhere word_without n other)
        ∙ sym (ap (λ b. not b && is_set (get_or words (n / 64) 0) (n % 64)) (ne_eqb n node (λ e. other (ap (λ m. m / 64) e))))
  ]

-- the word of more nodes, by the bits of so many further ones
module _ (totals : List ℤ) (first at word bits count : ℕ) (from : first ≤ at) (room : at + count ≤ first + 64) (small : bits < 2 ^ count)
    (each : (k : ℕ) → k < count → is_set bits k ≡ has_enough totals (at + k)) (says : SaysEnough totals first at word) where
  abbrev s : ℕ
  s = at - first

  abbrev moved : ℕ
  moved = (bits * 2 ^ s) % 2 ^ 64

  abbrev good_at : ℕ → Bool
  good_at k = has_enough totals (first + k)

  either : (k : ℕ) (x y z : Bool) → is_set word k ≡ x → is_set moved k ≡ y → (x || y) ≡ z → is_set (bit_or word moved) k ≡ z
  either k x y z p q r = set_in_either word moved k ∙ (ap (λ b. b || is_set moved k) p ∙ (ap (λ b. x || b) q ∙ r))

  pub more : SaysEnough totals first (at + count) (bit_or word moved)
  more k low = go (cases_lt k s)
    where
      beyond : s ≤ k → is_set word k ≡ false
      beyond high = says k low ∙ ap (λ b. b && good_at k) (let f : nat_lt (first + k) at ≡ false = grind (arith, high) in f)

      go_on : s ≤ k → (k < s + count) ⊎ (s + count ≤ k) → is_set (bit_or word moved) k ≡ (nat_lt (first + k) (at + count) && good_at k)
      go_on high (inl inside) =
          let same : at + (k - s) ≡ first + k = omega (arith, high) in
          either k false (good_at k) _ (beyond high)
          (shifted_from bits count s small (omega arith) k high ∙ (each (k - s) (omega (arith, inside)) ∙ ap (has_enough totals) same))
          (sym (ap (λ b. b && good_at k) (let t : nat_lt (first + k) (at + count) ≡ true = grind (arith, inside) in t)))
      go_on high (inr above) =
          either k false false _ (beyond high)
          (shifted_from bits count s small (omega arith) k high ∙ ap (λ b. nat_eq b 1) (bit_at_above bits count (k - s) small (omega (arith, above))))
          (sym (ap (λ b. b && good_at k) (let f : nat_lt (first + k) (at + count) ≡ false = grind (arith, above) in f)))

      go : (k < s) ⊎ (s ≤ k) → is_set (bit_or word moved) k ≡ (nat_lt (first + k) (at + count) && good_at k)
      go (inl below) =
          either k (good_at k) false _ (says k low ∙ ap (λ b. b && good_at k) (let t : nat_lt (first + k) at ≡ true = grind (arith, below) in t))
          (shifted_below bits count s small (omega arith) k below)
          (or-false (good_at k) ∙ sym (ap (λ b. b && good_at k) (let t : nat_lt (first + k) (at + count) ≡ true = grind (arith, below) in t)))
      go (inr high) = go_on high (cases_lt k (s + count))

-- what is less than 0 is negative
pub below_zero : (x : ℤ) → int_lt x (pos 0) ≡ is_negative x
below_zero x = grind (arith, ints)

-- the bit of a total
pub bit_is : (total : ℤ) (bit : ℕ) → bit ≡ (if is_negative total then 0 else 1) → (bit < 2) × (is_set bit 0 ≡ not (is_negative total))
bit_is total bit is = go (is_negative total) is
  where
    go : (b : Bool) → bit ≡ (if b then 0 else 1) → (bit < 2) × (is_set bit 0 ≡ not b)
    go true e = subst (λ n. (n < 2) × (is_set n 0 ≡ false)) (sym e) (omega arith, refl)
    go false e = subst (λ n. (n < 2) × (is_set n 0 ≡ true)) (sym e) (omega arith, refl)

-- of words in which one was cut down to what is enough there
module _ (kept within : List ℕ) (totals : List ℤ) (place word : ℕ) (long : length kept ≡ 4) (inside : place < 4)
    (says : SaysEnough totals (64 * place) (length totals) word)
    (there : (n : ℕ) → is_set (get_or within (n / 64) 0) (n % 64) ≡ true → n < length totals) where
  abbrev cut : List ℕ
  cut = set kept place (bit_and (get_or within place 0) word)

  pub other_word : (n : ℕ) → n / 64 ≢ place → is_set (get_or cut (n / 64) 0) (n % 64) ≡ is_set (get_or kept (n / 64) 0) (n % 64)
  other_word n other = ap (λ w. is_set w (n % 64)) (get_or-set_other kept place (n / 64) (bit_and (get_or within place 0) word) 0 other)

  unasked : (a b c : Bool) → (a ≡ true → b ≡ true) → (a && (b && c)) ≡ (a && c)
  unasked false b c h = refl
  unasked true b c h = ap (λ x. x && c) (h refl)

  pub this_word : (n : ℕ) → n / 64 ≡ place → is_set (get_or cut (n / 64) 0) (n % 64) ≡ (is_set (get_or within (n / 64) 0) (n % 64) && has_enough totals n)
  this_word n same =
      let low = mod_below n 64 (omega arith) in
      let is : 64 * place + n % 64 ≡ n = omega (arith, same, div-add-mod' n 64) in
      ap (λ m. is_set (get_or cut m 0) (n % 64)) same
      ∙ ap (λ w. is_set w (n % 64)) (get_or-set_same kept place (bit_and (get_or within place 0) word) 0 (omega (arith, long, inside)))
      ∙ set_in_both (get_or within place 0) word (n % 64)
      ∙ ap (λ b. is_set (get_or within place 0) (n % 64) && b) (says (n % 64) low ∙ ap (λ m. nat_lt m (length totals) && has_enough totals m) is)
      ∙ ap (λ m. is_set (get_or within m 0) (n % 64) && (nat_lt n (length totals) && has_enough totals n)) (sym same)
      ∙ unasked _ _ _ (λ e. let l = there n e in let t : nat_lt n (length totals) ≡ true = grind (arith, l) in t)
