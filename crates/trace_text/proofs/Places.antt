-- The places of the numbers that were found, in ascending order.
use Rattle.std.proofs.Common.{arith, ◌≡◌, ◌≢◌, ◌⊎◌, inl, inr, ◌<◌, ◌≤◌, ◌+◌, ◌-◌, ◌==◌, ◌||◌, ℕ, suc, zero, Bool, true, false, Some, List, ◌∷◌, ◌++◌, length, take, drop, set, get_or, slice_get, refl, sym, ap, subst, ◌∙◌}
use Rattle.std.specs.List.{range_with_len}
use Rattle.std.proofs.Math.Bool.{or-false, or_assoc}
use Rattle.std.proofs.lemmas.Bool.{cases_eq, ne_eqb, or_right}
use Rattle.std.proofs.lemmas.List.{drop_more, get_or_push, get_or-set_same, get_or-set_other, get_or-take, length_push, length-set, length-take-le}
use Rattle.std.proofs.lemmas.List.Folds.{list_any_more}
use Rattle.std.proofs.lemmas.List.FromFn.{get_or-range_with_len, length-range_with_len}
use Rattle.std.proofs.lemmas.List.Sums.{count_by-le-length, length-filter}
use Rattle.std.proofs.lemmas.Option.{get_or_from_slice_get, slice_get_within}
use Rattle.lemmas.proofs.Booleans.{number_itself}
use Rattle.lemmas.proofs.Counts.{count_one_more}
use Rattle.lemmas.proofs.Members.{of_filter, of_range, slice_get_left}
use Rattle.edges.specs.Sources.{is_in_list}
use Rattle.listed.specs.Flags.{is_marked}
use Rattle.listed.specs.Sets.{is_member, members}
use Rattle.listed.proofs.Blocks.{block, block_split}
use Rattle.cluster_types.proofs.Walks.{with_marked, without}
use Rattle.trace_text.specs.Inner.Walk.{AreBehind, IsLastFound, NoneFound, found_below}

module _ (found : List Bool) where
  -- those below a position, and those from there on
  pub parts : (x : ℕ) → x ≤ length found → members found ≡ found_below found x ++ block found x (length found - x)
  parts x le =
      let whole : length found ≡ x + (length found - x) = omega arith in
      let from : 0 + x ≡ x = omega arith in
      ap (found_below found) whole ∙ (block_split found 0 x (length found - x) ∙ ap (λ k. found_below found x ++ block found k (length found - x)) from)

  number_below : (to i number : ℕ) → slice_get (found_below found to) i ≡ Some number → number ≤ to
  number_below to i number is =
      let among = (of_filter (is_member found) (range_with_len 1 to) number
      (i, slice_get_within (found_below found to) i number is, get_or_from_slice_get (found_below found to) i number number is)).among in
      let low = of_range 1 to number among in
      omega arith

  -- The last that was found from a position on and below another, or none.

  none_more : (low n : ℕ) → ((x : ℕ) → low ≤ x → x < n → is_marked found x ≡ false) → is_marked found n ≡ false
      → (x : ℕ) → low ≤ x → x < n + 1 → is_marked found x ≡ false
  none_more low n none here x ge lt = on (cases_eq x n) where
    on : (x ≡ n) ⊎ (x ≢ n) → is_marked found x ≡ false
    on (inl same) = rw same here
    on (inr other) = none x ge (omega arith)

  abbrev Searched : ℕ → ℕ → Type 0
  Searched from to = NoneFound found from to ⊎ ((number : ℕ) × IsLastFound found from to number)

  one_more : (from n : ℕ) → from ≤ n → (here : Bool) → is_marked found n ≡ here → Searched from n → Searched from (n + 1)
  one_more from n ge true here before =
      let back : n + 1 - 1 ≡ n = omega arith in
      inr (
        n + 1,
        record {
          above = omega arith;
          high = omega arith;
          is = rw back here;
          none = λ x low lt. absurd (let f : ⊥ = omega arith in f);
          last = rw back (sym (with_marked found n (found_below found n) refl here));
        },
      )
  one_more from n ge false here (inl before) = inl (record {
    none = none_more from n before.none here;
    same = sym (without found n (found_below found n) refl here) ∙ before.same;
  })
  one_more from n ge false here (inr (number, before)) = inr (
    number,
    record {
      above = before.above;
      high = let high = before.high in omega arith;
      is = before.is;
      none = none_more number n before.none here;
      last = sym (without found n (found_below found n) refl here) ∙ before.last;
    },
  )

  searched : (from n : ℕ) → Searched from (from + n)
  searched from zero =
      let same : from + zero ≡ from = omega arith in
      inl (record { none = λ x ge lt. absurd (let f : ⊥ = omega arith in f); same = ap (found_below found) same })
  searched from (suc n) =
      let next : from + n + 1 ≡ from + suc n = omega arith in
      subst (Searched from) next (one_more from (from + n) (omega arith) (is_marked found (from + n)) refl (searched from n))

  module _ (from to behind : ℕ) (low : from ≤ to) (high : to ≤ length found) (places : AreBehind found to behind) where
    found_to : Searched from to
    found_to = let whole : from + (to - from) ≡ to = omega arith in subst (Searched from) whole (searched from (to - from))

    -- all of them stand behind
    pub all_behind : length (members found) ≤ behind → NoneFound found from to
    all_behind le = on found_to where
      on : Searched from to → NoneFound found from to
      on (inl none) = none
      on (inr (number, last)) =
          let size = ap length last.last ∙ length_push (found_below found (number - 1)) number in
          absurd (let f : ⊥ = omega arith in f)

    -- this one stands before them
    pub found_before : (number : ℕ) → behind < length (members found) → slice_get (members found) (length (members found) - 1 - behind) ≡ Some number
        → ((number ≤ from) × NoneFound found from to) ⊎ ((from < number) × IsLastFound found from to number)
    found_before number lt is = on found_to where
      here : slice_get (found_below found to) (length (found_below found to) - 1) ≡ Some number
      here =
          let place : length (members found) - 1 - behind ≡ length (found_below found to) - 1 = omega arith in
          let there : length (found_below found to) - 1 < length (found_below found to) = omega arith in
          sym (slice_get_left (found_below found to) (block found to (length found - to)) (length (found_below found to) - 1) there)
          ∙ (ap (λ (ks : List ℕ). slice_get ks (length (found_below found to) - 1)) (sym (parts to high)) ∙ (ap (slice_get (members found)) (sym place) ∙ is))

      on : Searched from to → ((number ≤ from) × NoneFound found from to) ⊎ ((from < number) × IsLastFound found from to number)
      on (inl none) =
          let there = ap (λ (ks : List ℕ). slice_get ks (length (found_below found to) - 1)) (sym none.same) ∙ here in
          inl (number_below from (length (found_below found to) - 1) number there, none)
      on (inr (k, last)) =
          let size = ap length last.last ∙ length_push (found_below found (k - 1)) k in
          let read = get_or_from_slice_get (found_below found to) (length (found_below found to) - 1) number 0 here in
          let at : get_or (found_below found to) (length (found_below found to) - 1) 0 ≡ k
          = ap (λ (ks : List ℕ). get_or ks (length (found_below found to) - 1) 0) last.last
          ∙ get_or_push (found_below found (k - 1)) k 0 (length (found_below found to) - 1) (omega arith) in
          let same : k ≡ number = sym at ∙ read in
          inr (subst (λ n. (from < n) × IsLastFound found from to n) same (last.above, last))

    -- fewer stand behind it than there are positions
    pub few_behind : (number : ℕ) → IsLastFound found from to number → behind < length found
    few_behind number last =
        let size = ap length last.last ∙ length_push (found_below found (number - 1)) number in
        let some = length-filter (is_member found) (range_with_len 1 (length found)) in
        let most = count_by-le-length (is_member found) (range_with_len 1 (length found)) in
        let numbers = length-range_with_len 1 (length found) in
        omega arith

  -- without one of them there are fewer
  pub fewer : (number : ℕ) → 0 < number → number ≤ length found → is_member found number ≡ true
      → length (members (set found (number - 1) false)) < length (members found)
  fewer number low high is =
      let size = length-set found (number - 1) false in
      let numbers = length-range_with_len 1 (length found) in
      let place : 1 + (number - 1) ≡ number = omega arith in
      let less = count_one_more (is_member (set found (number - 1) false)) (is_member found) still (range_with_len 1 (length found)) (number - 1) number
      (omega arith) (get_or-range_with_len 1 (length found) (number - 1) number (omega arith) ∙ place)
      (get_or-set_same found (number - 1) false false (omega arith)) is in
      let now = length-filter (is_member (set found (number - 1) false)) (range_with_len 1 (length found)) in
      let was = length-filter (is_member found) (range_with_len 1 (length found)) in
      rw size (omega arith)
    where
      still : (j : ℕ) → is_member (set found (number - 1) false) j ≡ true → is_member found j ≡ true
      still j h = on (cases_eq (j - 1) (number - 1)) where
        on : (j - 1 ≡ number - 1) ⊎ (j - 1 ≢ number - 1) → is_member found j ≡ true
        on (inl same) =
            let gone : is_member (set found (number - 1) false) j ≡ false
            = ap (λ i. get_or (set found (number - 1) false) i false) same ∙ get_or-set_same found (number - 1) false false (omega arith) in
            cc
        on (inr other) = sym (get_or-set_other found (number - 1) (j - 1) false false other) ∙ h

  -- with one position more
  with_one : (x y : ℕ) → x < length found → is_marked (set found (x + 1 - 1) true) y ≡ (is_marked found y || y == x)
  with_one x y lt = let back : x + 1 - 1 ≡ x = omega arith in rw back (on (cases_eq y x)) where
    on : (y ≡ x) ⊎ (y ≢ x) → is_marked (set found x true) y ≡ (is_marked found y || y == x)
    on (inl same) = rw same (get_or-set_same found x true false lt ∙ sym (or_right (is_marked found x) (x == x) (number_itself x)))
    on (inr other) =
        get_or-set_other found x y true false other ∙ sym (ap (λ b. is_marked found y || b) (ne_eqb y x other) ∙ or-false (is_marked found y))

  -- and with the next of some positions
  pub with_next : (old : List Bool) (xs : List ℕ) (i : ℕ) → i < length xs → get_or xs i 0 < length found
      → ((y : ℕ) → is_marked found y ≡ (is_marked old y || is_in_list (take i xs) y))
      → (y : ℕ) → is_marked (set found (get_or xs i 0 + 1 - 1) true) y ≡ (is_marked old y || is_in_list (take (i + 1) xs) y)
  with_next old xs i lt within so_far y =
      with_one (get_or xs i 0) y within
      ∙ (ap (λ b. b || y == get_or xs i 0) (so_far y)
      ∙ (or_assoc (is_marked old y) (is_in_list (take i xs) y) (y == get_or xs i 0) ∙ ap (λ b. is_marked old y || b) (sym (list_any_more (◌==◌ y) xs i 0 lt))))

-- the next of the first so many
pub next_told : (xs : List ℕ) (count told number : ℕ) → told < count → count ≤ length xs → slice_get xs told ≡ Some number
    → drop told (take count xs) ≡ number ∷ drop (told + 1) (take count xs)
next_told xs count told number lt le is =
    let size = length-take-le count xs le in
    let read : get_or (take count xs) told number ≡ number = get_or-take count xs told number lt ∙ get_or_from_slice_get xs told number number is in
    drop_more (take count xs) told number (omega arith) ∙ ap (λ k. k ∷ drop (told + 1) (take count xs)) read
