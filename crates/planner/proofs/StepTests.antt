-- Tests of lists, and what passes them.
use Rattle.std.proofs.Common.{◌≡◌, ◌≢◌, ℕ, Bool, true, false, cond, Some, List, [], ◌∷◌, refl, sym, ap, subst, ◌⊎◌, inl, inr, Contains, Any}
use Rattle.std.specs.Prelude.{find}
use Rattle.std.specs.List.{list_any}
use Rattle.std.proofs.lemmas.Bool.{cases_eq}
use Rattle.std.proofs.lemmas.List.Folds.{Any-from_list_any}
use Rattle.lemmas.proofs.Members.{at_head, head_or_rest, in_none, in_rest}
use Rattle.lemmas.proofs.Searches.{passes_by}
use Rattle.cluster_types.specs.declared.leaf.Op.{Op}
use Rattle.cluster_types.specs.Precedence.{is_same_op}
use Rattle.cluster_types.proofs.OpLaws.{op_itself}
use Rattle.loops.proofs.StepPlaces.{same_op}
use Rattle.planner.specs.Inner.Actions.{includes_op, is_filled}

-- an element that passes, where some does
pub record Passing {X : Type 0} (p : X → Bool) (xs : List X) : Type 0 where
  pub member : X
  pub among : Contains xs member
  pub passes : p member ≡ true

pub some_of : {X : Type 0} (p : X → Bool) (xs : List X) → list_any p xs ≡ true → Passing p xs
some_of p xs h = on (Any-from_list_any p xs h) where
  on : Any (λ x. p x ≡ true) xs → Passing p xs
  on (k, x, l, at, e) = record { member = x; among = (k, l, at); passes = e }

pub has_it : (o : Op) (os : List Op) → Contains os o → includes_op o os ≡ true
has_it o os h = passes_by (is_same_op o) os o h (op_itself o)

pub it_is : (o : Op) (os : List Op) → includes_op o os ≡ true → Contains os o
it_is o os h = let f = some_of (is_same_op o) os h in subst (Contains os) (sym (same_op o f.member f.passes)) f.among

pub filled : (os : List Op) (o : Op) → Contains os o → is_filled os ≡ true
filled [] o h = absurd (in_none o h)
filled (p ∷ os) o h = refl

pub first_step : (os : List Op) → is_filled os ≡ true → (o : Op) × Contains os o
first_step [] h = cc
first_step (o ∷ os) h = (o, at_head o os o refl)

-- what is found stands in the list and passes
pub record FoundAt {X : Type 0} (p : X → Bool) (xs : List X) (x : X) : Type 0 where
  pub among : Contains xs x
  pub passes : p x ≡ true

pub found_is : {X : Type 0} (p : X → Bool) (xs : List X) (x : X) → find p xs ≡ Some x → FoundAt p xs x
found_is p [] x h = cc
found_is p (y ∷ xs) x h = on (p y) refl h (found_is p xs x) where
  on : (b : Bool) → p y ≡ b → cond b (Some y) (find p xs) ≡ Some x → (find p xs ≡ Some x → FoundAt p xs x) → FoundAt p (y ∷ xs) x
  on true e f next = let s : y ≡ x = cc in record { among = at_head y xs x s; passes = rw (← s) e }
  on false e f next = let n = next f in record { among = in_rest y xs x n.among; passes = n.passes }

-- what alone passes is found
pub only_found : (p : ℕ → Bool) (xs : List ℕ) (n : ℕ) → Contains xs n → p n ≡ true → ((k : ℕ) → Contains xs k → k ≢ n → p k ≡ false) → find p xs ≡ Some n
only_found p [] n h e others = absurd (in_none n h)
only_found p (y ∷ xs) n h e others = on (cases_eq y n) (λ rest. only_found p xs n rest e (λ k c. others k (in_rest y xs k c))) where
  on : (y ≡ n) ⊎ (y ≢ n) → (Contains xs n → find p xs ≡ Some n) → find p (y ∷ xs) ≡ Some n
  on (inl s) next = let t : p y ≡ true = rw (← s) at e in rw t (ap Some s)
  on (inr d) next =
      let f : p y ≡ false = others y (at_head y xs y refl) d in
      let rest : Contains xs n = elim (head_or_rest y xs n h) [ inl s ↦ absurd (d s) | inr r ↦ r ] in
      rw f (next rest)
