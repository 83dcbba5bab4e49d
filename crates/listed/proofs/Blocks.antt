-- What a node counts: the members among the leaves below it.
use Rattle.std.proofs.Common.{arith, ◌≡◌, ◌<◌, ◌≤◌, ◌+◌, ◌-◌, ◌*◌, ℕ, suc, zero, Bool, true, false, List, [], ◌∷◌, ◌++◌, length, filter, cond, slice_index_or, refl, sym, ap, ◌∙◌, ◌/◌, ◌≢◌, ◌⊎◌, inl, inr, length-append}
use Rattle.std.specs.List.{range_with_len}
use Rattle.std.proofs.Math.Nat.{add-mul, mul-add, le-mul_of_pos_right}
use Rattle.std.proofs.lemmas.Bool.{cases_eq}
use Rattle.std.proofs.lemmas.List.FromFn.{length-range_with_len}
use Rattle.std.proofs.lemmas.List.Sums.{length-filter, count_by-le-length}
use Rattle.std.proofs.lemmas.List.{get_or_past, append-nil}
use Rattle.std.proofs.lemmas.List.Elements.{filter-append}
use Rattle.listed.specs.Sets.{is_member, members}
use Rattle.listed.specs.Counting.{Counts, width, most_counted}

abbrev pub block : List Bool → ℕ → ℕ → List ℕ
block flags at w = filter (is_member flags) (range_with_len (at + 1) w)

shifted : (a b n : ℕ) → a ≡ b → range_with_len a n ≡ range_with_len b n
shifted a b n e = ap (λ k. range_with_len k n) e

range_split : (a n m : ℕ) → range_with_len a (n + m) ≡ range_with_len a n ++ range_with_len (a + n) m
range_split a zero m = ap (λ k. range_with_len a k) (let e : zero + m ≡ m = omega arith in e) ∙ shifted a (a + zero) m (omega arith)
range_split a (suc n) m =
    ap (λ k. range_with_len a k) (let e : suc n + m ≡ suc (n + m) = omega arith in e)
    ∙ ap (◌∷◌ a) (range_split (a + 1) n m ∙ ap (λ xs. range_with_len (a + 1) n ++ xs) (shifted (a + 1 + n) (a + suc n) m (omega arith)))

pub block_split : (flags : List Bool) (at n m : ℕ) → block flags at (n + m) ≡ block flags at n ++ block flags (at + n) m
block_split flags at n m =
    ap (filter (is_member flags)) (range_split (at + 1) n m)
    ∙ filter-append (is_member flags) (range_with_len (at + 1) n) (range_with_len (at + 1 + n) m)
    ∙ ap (λ xs. block flags at n ++ filter (is_member flags) xs) (shifted (at + 1 + n) (at + n + 1) m (omega arith))

-- past the last flag there are no members
past_on : (flags : List Bool) (x : ℕ) (xs : List ℕ) (b : Bool) → is_member flags x ≡ b → b ≡ false → filter (is_member flags) xs ≡ []
    → filter (is_member flags) (x ∷ xs) ≡ []
past_on flags x xs true e f rest = cc
past_on flags x xs false e f rest = rw e rest

pub none_past : (flags : List Bool) (a n : ℕ) → length flags < a → filter (is_member flags) (range_with_len a n) ≡ []
none_past flags a zero past = refl
none_past flags a (suc n) past =
    past_on flags a (range_with_len (a + 1) n) (is_member flags a) refl (get_or_past flags (a - 1) false (omega arith))
    (none_past flags (a + 1) n (omega arith))

pub all_below : (flags : List Bool) (leaves : ℕ) → length flags ≤ leaves → block flags 0 leaves ≡ members flags
all_below flags leaves room =
    ap (block flags 0) (let e : leaves ≡ length flags + (leaves - length flags) = omega arith in e)
    ∙ block_split flags 0 (length flags) (leaves - length flags)
    ∙ ap (λ xs. members flags ++ xs) (none_past flags (0 + length flags + 1) (leaves - length flags) (omega arith))
    ∙ append-nil (members flags)

pub some_wide : (h : ℕ) → 0 < width h
some_wide zero = omega arith
some_wide (suc h) = let s = some_wide h in omega arith

one_on : (flags : List Bool) (at : ℕ) (b : Bool) → slice_index_or flags at false ≡ b → block flags at 1 ≡ cond b ((at + 1) ∷ []) []
one_on flags at b e =
    let same : is_member flags (at + 1) ≡ b = ap (λ k. slice_index_or flags k false) (let f : at + 1 - 1 ≡ at = omega arith in f) ∙ e in
    on b same where
      on : (b : Bool) → is_member flags (at + 1) ≡ b → block flags at 1 ≡ cond b ((at + 1) ∷ []) []
      on true s = rw s refl
      on false s = rw s refl

pub one_leaf : (flags : List Bool) (at : ℕ) → block flags at 1 ≡ cond (slice_index_or flags at false) ((at + 1) ∷ []) []
one_leaf flags at = one_on flags at (slice_index_or flags at false) refl

pub doubled : (node w : ℕ) → (node + node) * w ≡ node * (w + w)
doubled node w = add-mul node node w ∙ sym (mul-add node w w)

pub doubled_more : (node w : ℕ) → (node + node + 1) * w ≡ node * (w + w) + w
doubled_more node w =
    add-mul (node + node) 1 w ∙ (let d = doubled node w in let o : 1 * w ≡ w = omega arith in let r : (node + node) * w + 1 * w ≡ node * (w + w) + w = omega arith in r)

module _ (flags : List Bool) (counts : List ℕ) (leaves height : ℕ) (c : Counts flags counts leaves height) where
  above : (h node at : ℕ) → node * width (suc h) ≡ leaves + at → at + width (suc h) ≤ leaves → (0 < node) × (node < leaves)
  above h node at is within =
      let w = some_wide h in
      let d : node + node ≤ (node + node) * width h = le-mul_of_pos_right (node + node) w in
      let e = doubled node (width h) in
      (some node is within, omega arith) where
        some : (node : ℕ) → node * width (suc h) ≡ leaves + at → at + width (suc h) ≤ leaves → 0 < node
        some zero is within =
            let z : zero * width (suc h) ≡ 0 = omega arith in
            let w = some_wide h in
            absurd (let f : ⊥ = omega arith in f)
        some (suc n) is within = omega arith

  leaf_counts : (at : ℕ) (b : Bool) → slice_index_or flags at false ≡ b → slice_index_or counts (leaves + at) 0 ≡ cond b 1 0
      → slice_index_or counts (leaves + at) 0 ≡ length (block flags at 1)
  leaf_counts at true e n = n ∙ sym (ap length (one_on flags at true e))
  leaf_counts at false e n = n ∙ sym (ap length (one_on flags at false e))

  pub counted_block : (h node at : ℕ) → node * width h ≡ leaves + at → at + width h ≤ leaves
      → slice_index_or counts node 0 ≡ length (block flags at (width h))
  counted_block zero node at is within =
      let e : node ≡ leaves + at = omega arith in
      let l = c.counted at (omega arith) in
      rw e (leaf_counts at (slice_index_or flags at false) refl l)
  counted_block (suc h) node at is within =
      let a = above h node at is within in
      let d = doubled node (width h) in
      let m = doubled_more node (width h) in
      let l = counted_block h (node + node) at (omega arith) (omega arith) in
      let r = counted_block h (node + node + 1) (at + width h) (omega arith) (omega arith) in
      let s = c.tree.sums node a.0 a.1 in
      let p = ap length (block_split flags at (width h) (width h)) in
      let q = length-append (block flags at (width h)) (block flags (at + width h) (width h)) in
      omega arith

  pub counted_all : slice_index_or counts 1 0 ≡ length (members flags)
  counted_all =
      let s = c.shape in
      let b = counted_block height 1 0 (omega arith) (omega arith) in
      b ∙ ap (λ w. length (block flags 0 w)) (sym s) ∙ ap length (all_below flags leaves c.room)

  -- no node counts more than the root
  below_half : (i j : ℕ) → j ≡ i / 2 → 0 < j → j < leaves → slice_index_or counts j 0 ≤ slice_index_or counts 1 0
      → slice_index_or counts i 0 ≤ slice_index_or counts 1 0
  below_half i j is low high rest = sides (cases_eq i (j + j)) where
    sums : slice_index_or counts j 0 ≡ slice_index_or counts (j + j) 0 + slice_index_or counts (j + j + 1) 0
    sums = c.tree.sums j low high

    sides : (i ≡ j + j) ⊎ (i ≢ j + j) → slice_index_or counts i 0 ≤ slice_index_or counts 1 0
    sides (inl e) = rw e (let s = sums in omega arith)
    sides (inr d) = let e : i ≡ j + j + 1 = omega arith in rw e (let s = sums in omega arith)

  below_on : (fuel i : ℕ) → i ≤ suc fuel → 0 < i → i < leaves + leaves
      → ((j : ℕ) → j ≤ fuel → 0 < j → j < leaves + leaves → slice_index_or counts j 0 ≤ slice_index_or counts 1 0)
      → (i ≡ 1) ⊎ (i ≢ 1) → slice_index_or counts i 0 ≤ slice_index_or counts 1 0
  below_on fuel i le some lt rest (inl e) = rw e (omega arith)
  below_on fuel i le some lt rest (inr d) =
      below_half i (i / 2) refl (omega arith) (omega arith) (rest (i / 2) (omega arith) (omega arith) (omega arith))

  below_root : (fuel i : ℕ) → i ≤ fuel → 0 < i → i < leaves + leaves → slice_index_or counts i 0 ≤ slice_index_or counts 1 0
  below_root zero i le some lt = absurd (let f : ⊥ = omega arith in f)
  below_root (suc fuel) i le some lt = below_on fuel i le some lt (below_root fuel) (cases_eq i 1)

  pub few_all : length (members flags) ≤ length flags
  few_all =
      let e = length-filter (is_member flags) (range_with_len 1 (length flags)) in
      let l = count_by-le-length (is_member flags) (range_with_len 1 (length flags)) in
      let r = length-range_with_len 1 (length flags) in
      omega arith

  pub few_counted : (node : ℕ) → 0 < node → node < leaves + leaves → slice_index_or counts node 0 ≤ most_counted
  few_counted node some lt =
      let b = below_root node node (omega arith) some lt in
      let a = counted_all in
      let f = few_all in
      let n = c.few in
      omega arith
