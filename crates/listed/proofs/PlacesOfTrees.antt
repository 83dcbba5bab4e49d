-- How a member is found by its place: from the root down, to the side that has it.
use Rattle.std.proofs.Common.{arith, ◌≡◌, ◌<◌, ◌≤◌, ◌+◌, ◌-◌, ◌*◌, ℕ, suc, Bool, true, false, List, [], ◌∷◌, ◌++◌, Some, length, cond, slice_index_or, slice_get, refl, sym, ap, ◌∙◌, ◌⊎◌, inl, inr, length-append}
use Rattle.std.proofs.Math.Nat.{le-mul_of_pos_right}
use Rattle.std.proofs.lemmas.Bool.{cases_lt}
use Rattle.std.proofs.lemmas.List.{get_or_past, get_or-append_right}
use Rattle.std.proofs.lemmas.Option.{slice_get-get_or}
use Rattle.lemmas.proofs.Members.{slice_get_left}
use Rattle.listed.specs.Sets.{members}
use Rattle.listed.specs.Counting.{Counts, width}
use Rattle.listed.proofs.Blocks.{block, block_split, all_below, some_wide, one_leaf, doubled, doubled_more, counted_block}

-- the member at the place stands below the node, with so many before it there
pub record Looks (flags : List Bool) (leaves h node left place : ℕ) : Type 0 where
  pub at : ℕ
  pub stands : node * width h ≡ leaves + at
  pub within : at + width h ≤ leaves
  pub few : left < length (block flags at (width h))
  pub same : slice_get (members flags) place ≡ slice_get (block flags at (width h)) left

slice_get_right : (xs ys : List ℕ) (i : ℕ) → length xs ≤ i → i - length xs < length ys → slice_get (xs ++ ys) i ≡ slice_get ys (i - length xs)
slice_get_right xs ys i ge lt =
    let l = length-append xs ys in
    slice_get-get_or (xs ++ ys) i 0 (omega arith)
    ∙ ap Some (get_or-append_right xs ys (length xs) i 0 refl ge)
    ∙ sym (slice_get-get_or ys (i - length xs) 0 lt)

module _ (flags : List Bool) (counts : List ℕ) (leaves height : ℕ) (c : Counts flags counts leaves height) where
  pub looks_begin : (place : ℕ) → place < length (members flags) → Looks flags leaves height 1 place place
  looks_begin place lt =
      let s = c.shape in
      let all : block flags 0 (width height) ≡ members flags = ap (block flags 0) (sym s) ∙ all_below flags leaves c.room in
      record {
        at = 0;
        stands = omega arith;
        within = omega arith;
        few = rw all lt;
        same = rw all refl;
      }

  module _ (h node left place : ℕ) (l : Looks flags leaves (suc h) node left place) where
    left_block : slice_index_or counts (node + node) 0 ≡ length (block flags l.at (width h))
    left_block =
        let w = l.within in
        let s = l.stands in
        let d = doubled node (width h) in
        counted_block flags counts leaves height c h (node + node) l.at (omega arith) (omega arith)

    split : block flags l.at (width h + width h) ≡ block flags l.at (width h) ++ block flags (l.at + width h) (width h)
    split = block_split flags l.at (width h) (width h)

    pub looks_left : (n : ℕ) → n ≡ node + node → left < slice_index_or counts n 0 → Looks flags leaves h n left place
    looks_left n is lt =
        let w = l.within in
        let s = l.stands in
        let d = doubled node (width h) in
        let b : left < length (block flags l.at (width h)) = let e = left_block in let f : left < slice_index_or counts (node + node) 0 = rw is at lt in omega arith in
        record {
          at = l.at;
          stands = rw is (omega arith);
          within = omega arith;
          few = b;
          same = l.same ∙ ap (λ xs. slice_get xs left) split ∙ slice_get_left _ _ left b;
        }

    pub looks_right : (n below : ℕ) → n ≡ node + node + 1 → below ≡ slice_index_or counts (node + node) 0 → below ≤ left
        → Looks flags leaves h n (left - below) place
    looks_right n below is from le =
        let w = l.within in
        let s = l.stands in
        let d = doubled_more node (width h) in
        let e : below ≡ length (block flags l.at (width h)) = from ∙ left_block in
        let f = l.few in
        let g = ap length split in
        let j = length-append (block flags l.at (width h)) (block flags (l.at + width h) (width h)) in
        let few : left - below < length (block flags (l.at + width h) (width h)) = omega arith in
        record {
          at = l.at + width h;
          stands = rw is (omega arith);
          within = omega arith;
          few = few;
          same = l.same ∙ ap (λ xs. slice_get xs left) split ∙ slice_get_right (block flags l.at (width h)) _ left (omega arith) (rw e at few) ∙ ap (slice_get (block flags (l.at + width h) (width h))) (let k : left - length (block flags l.at (width h)) ≡ left - below = omega arith in k);
        }

    -- the node stands above the leaves
    pub looks_above : node + node + 1 < leaves + leaves
    looks_above =
        let w = l.within in
        let s = l.stands in
        let v = some_wide h in
        let d : node + node ≤ (node + node) * width h = le-mul_of_pos_right (node + node) (some_wide h) in
        let e = doubled node (width h) in
        omega arith

-- a leaf was reached
pub record IsFound (flags : List Bool) (leaves node place number : ℕ) : Type 0 where
  pub from : leaves ≤ node
  pub is : number ≡ node - leaves + 1
  pub to : number ≤ length flags
  pub found : slice_get (members flags) place ≡ Some number

pub found : (flags : List Bool) (leaves node left place : ℕ) → Looks flags leaves 0 node left place → IsFound flags leaves node place (node - leaves + 1)
found flags leaves node left place l = on (slice_index_or flags l.at false) refl where
  on : (b : Bool) → slice_index_or flags l.at false ≡ b → IsFound flags leaves node place (node - leaves + 1)
  on true e =
      let s : node * 1 ≡ leaves + l.at = l.stands in
      let one : block flags l.at 1 ≡ (l.at + 1) ∷ [] = one_leaf flags l.at ∙ ap (λ b. cond b ((l.at + 1) ∷ []) []) e in
      let few : left < length (block flags l.at 1) = l.few in
      let f : left < 1 = rw one at few in
      let same : slice_get (members flags) place ≡ slice_get (block flags l.at 1) left = l.same in
      let zeroth : left ≡ 0 = omega arith in
      let at : l.at + 1 ≡ node - leaves + 1 = omega arith in
      record {
        from = omega arith;
        is = refl;
        to = stands (cases_lt l.at (length flags)) e (omega arith);
        found = same ∙ ap (slice_get (block flags l.at 1)) zeroth ∙ ap (λ xs. slice_get xs 0) one ∙ ap Some at;
      } where
        stands : (l.at < length flags) ⊎ (length flags ≤ l.at) → slice_index_or flags l.at false ≡ true → l.at + 1 ≡ node - leaves + 1 → node - leaves + 1 ≤ length flags
        stands (inl lt) e at = omega arith
        stands (inr ge) e at = let p = get_or_past flags l.at false ge in cc
  on false e =
      let none : block flags l.at 1 ≡ [] = one_leaf flags l.at ∙ ap (λ b. cond b ((l.at + 1) ∷ []) []) e in
      let few : left < length (block flags l.at 1) = l.few in
      let f : left < 0 = rw none at few in
      absurd (let g : ⊥ = omega arith in g)
