-- The leaves of names that are there, and of rules that name them.
use Rattle.std.proofs.Common.{◌≡◌, ◌<◌, ℕ, nat_lt, ◌&&◌, Bool, true, false, List, [], ◌∷◌, length, is_none, cond, refl, inl, inr, ◌⊎◌, Contains}
use Rattle.std.specs.Prelude.{Option, Some, None}
use Rattle.std.specs.List.{list_any}
use Rattle.std.specs.Option.{option_and_then, option_map_or}
use Rattle.std.proofs.lemmas.Bool.{ltb-true, or_parts}
use Rattle.lemmas.proofs.Members.{head_or_rest, in_none}
use Rattle.cluster_model.specs.declared.resolution.directory.Directory.{Directory}
use Rattle.cluster_model.specs.declared.expansion.spans.Ends.{Ends}
use Rattle.cluster_model.specs.SuccessivePairs.{pairs_after, successive}
use Rattle.cluster_model.specs.Inner.Directories.{first_named, if_there, is_unknown, last_named}
use Rattle.cluster_model.specs.Inner.Tables.{lookup}

-- both ends of what is there are leaves
record AreLeaves (d : Directory) (found : Option Ends) : Type 0 where
  pub first : option_map_or (λ (ends : Ends). ends.first) found 0 < length d.leaves
  pub last : option_map_or (λ (ends : Ends). ends.last) found 0 < length d.leaves

ends-there : (d : Directory) (found : Option Ends) → is_none (option_and_then (if_there d) found) ≡ false
    → AreLeaves d (option_and_then (if_there d) found)
ends-there d None h = cc
ends-there d (Some ends) h = on (nat_lt ends.first (length d.leaves)) (nat_lt ends.last (length d.leaves)) refl refl h where
  on : (a b : Bool) → nat_lt ends.first (length d.leaves) ≡ a → nat_lt ends.last (length d.leaves) ≡ b
      → is_none (cond (a && b) (Some ends) None) ≡ false → AreLeaves d (cond (a && b) (Some ends) None)
  on true true e f h = record { first = ltb-true ends.first (length d.leaves) e; last = ltb-true ends.last (length d.leaves) f }
  on true false e f h = cc
  on false b e f h = cc

pub first-there : (d : Directory) (name : List ℕ) → is_unknown d name ≡ false → first_named d name < length d.leaves
first-there d name h = let t = ends-there d (lookup d.resources name) h in t.first

pub last-there : (d : Directory) (name : List ℕ) → is_unknown d name ≡ false → last_named d name < length d.leaves
last-there d name h = let t = ends-there d (lookup d.resources name) h in t.last

module _ {X : Type 0} (p : X → Bool) where
  -- neither of the pair passes the test
  pub record Neither (pair : X × X) : Type 0 where
    pub before : p pair.0 ≡ false
    pub after : p pair.1 ≡ false

  after-none : (x : X) (xs : List X) → p x ≡ false → list_any p xs ≡ false → (pair : X × X) → Contains (pairs_after x xs) pair → Neither pair
  after-none x [] e h pair k = absurd (in_none pair k)
  after-none x (y ∷ ys) e h pair k =
      on (head_or_rest (x, y) (pairs_after y ys) pair k) (after-none y ys (or_parts (p y) (list_any p ys) h).0 (or_parts (p y) (list_any p ys) h).1 pair) where
        here : Neither (x, y)
        here = record { before = e; after = (or_parts (p y) (list_any p ys) h).0 }

        on : ((x, y) ≡ pair) ⊎ Contains (pairs_after y ys) pair → (Contains (pairs_after y ys) pair → Neither pair) → Neither pair
        on (inl same) next = rw same at here
        on (inr r) next = next r

  -- where no element passes the test, none of a successive pair does
  pub pairs-none : (xs : List X) → list_any p xs ≡ false → (pair : X × X) → Contains (successive xs) pair → Neither pair
  pairs-none [] h pair k = absurd (in_none pair k)
  pairs-none (x ∷ xs) h pair k = after-none x xs (or_parts (p x) (list_any p xs) h).0 (or_parts (p x) (list_any p xs) h).1 pair k
