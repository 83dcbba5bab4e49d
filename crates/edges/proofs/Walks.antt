-- Where from each position of a set an edge leads to one of the set, edges lead from a position back to it.
use Rattle.std.proofs.Common.{arith, ◌≡◌, ◌<◌, ◌≤◌, ◌+◌, ◌==◌, ◌||◌, ℕ, suc, zero, Bool, true, false, List, [], ◌∷◌, length, refl, Contains}
use Rattle.std.specs.List.{IsDistinct}
use Rattle.std.proofs.lemmas.Bool.{eqb-true}
use Rattle.std.proofs.lemmas.Map.Keys.{IsDistinct-cons}
use Rattle.std.proofs.lemmas.Map.Steps.{length-le_from_distinct_below}
use Rattle.edges.specs.declared.edge.Edge.{Edge}
use Rattle.edges.specs.Inner.ShortWays.{HasShortLoop, leads_within}
use Rattle.edges.specs.Loops.{HasLoop}
use Rattle.edges.specs.Sources.{is_in_list}
use Rattle.edges.proofs.Leading.{leads-from_computed, leads_directly, leads_further, leads_longer}
use Rattle.edges.proofs.Members.{none_all}

-- an edge leads from the position to one of the set
pub record GoesOn (edges : List Edge) (S : ℕ → Type 0) (x : ℕ) : Type 0 where
  pub edge : Edge
  pub among : Contains edges edge
  pub from : edge.before ≡ x
  pub to : S edge.after

-- a way through positions that differ, which has come to x
pub record Walked (positions : ℕ) (edges : List Edge) (seen : List ℕ) (x : ℕ) : Type 0 where
  pub distinct : IsDistinct ◌==◌ (x ∷ seen)
  pub below : (y : ℕ) → is_in_list (x ∷ seen) y ≡ true → y < positions
  pub led : (y : ℕ) → is_in_list seen y ≡ true → leads_within (length seen) edges y x ≡ true

short : (positions : ℕ) (edges : List Edge) (seen : List ℕ) (x : ℕ) → Walked positions edges seen x → suc (length seen) ≤ positions
short positions edges seen x w = length-le_from_distinct_below (x ∷ seen) positions w.distinct w.below

module _ (positions : ℕ) (edges : List Edge) (seen : List ℕ) (x : ℕ) (w : Walked positions edges seen x) (e : Edge)
    (c : Contains edges e) (from : e.before ≡ x) where
  -- the edge leads back to where the way has been
  closes_on : (same : Bool) → (e.after == x) ≡ same → same || is_in_list seen e.after ≡ true → HasShortLoop positions edges
  closes_on true at h =
      let back : e.after ≡ x = grind arith in
      let le = short positions edges seen x w in
      let d : leads_within 1 edges x x ≡ true = rw (from, back) at (leads_directly 0 edges e c) in
      record { at = x; leads = leads_longer 1 positions edges x x (omega arith) d }
  closes_on false at h =
      let le = short positions edges seen x w in
      let led : leads_within (length seen) edges e.after e.before ≡ true = rw from (w.led e.after h) in
      record {
        at =
            e.after;
        leads = leads_longer (suc (length seen)) positions edges e.after e.after le
            (leads_further (length seen) edges e.after e c led);
      }

  led_on : (y : ℕ) (same : Bool) → (y == x) ≡ same → same || is_in_list seen y ≡ true → leads_within (suc (length seen)) edges y e.after ≡ true
  led_on y true at h = let back : y ≡ e.before = grind arith in rw back (leads_directly (length seen) edges e c)
  led_on y false at h = leads_further (length seen) edges y e c (rw from (w.led y h))

  -- the edge leads to where the way hasn't been
  goes_on : e.after < positions → is_in_list (x ∷ seen) e.after ≡ false → Walked positions edges (x ∷ seen) e.after
  goes_on lt new = record {
    distinct = IsDistinct-cons ◌==◌ e.after (x ∷ seen) (none_all e.after (x ∷ seen) new) w.distinct;
    below = λ y. below_on y (y == e.after) refl;
    led = λ y. led_on y (y == x) refl;
  } where
    below_on : (y : ℕ) (same : Bool) → (y == e.after) ≡ same → same || is_in_list (x ∷ seen) y ≡ true → y < positions
    below_on y true at h = let back : y ≡ e.after = grind arith in rw back lt
    below_on y false at h = w.below y h

pub loop_of_short : (most : ℕ) (edges : List Edge) → HasShortLoop most edges → HasLoop edges
loop_of_short most edges l = record { at = l.at; leads = leads-from_computed most edges l.at l.at l.leads }

pub alone : (x : ℕ) → IsDistinct ◌==◌ (x ∷ [])
unfolding IsDistinct
alone x = (tt, tt)

module _ (positions : ℕ) (edges : List Edge) (S : ℕ → Type 0) (within : (x : ℕ) → S x → x < positions)
    (next : (x : ℕ) → S x → GoesOn edges S x) where
  walk_on : (x : ℕ) (seen : List ℕ) → Walked positions edges seen x → (n : GoesOn edges S x) → (b : Bool) → is_in_list (x ∷ seen) n.edge.after ≡ b
      → (S n.edge.after → Walked positions edges (x ∷ seen) n.edge.after → HasShortLoop positions edges) → HasShortLoop positions edges
  walk_on x seen w n true h further = closes_on positions edges seen x w n.edge n.among n.from (n.edge.after == x) refl h
  walk_on x seen w n false h further = further n.to (goes_on positions edges seen x w n.edge n.among n.from (within n.edge.after n.to) h)

  walk : (fuel : ℕ) (x : ℕ) (seen : List ℕ) → S x → Walked positions edges seen x → positions < fuel + suc (length seen)
      → HasShortLoop positions edges
  walk zero x seen s w more = let le = short positions edges seen x w in absurd (let f : ⊥ = omega arith in f)
  walk (suc fuel) x seen s w more =
      let n = next x s in
      walk_on x seen w n (is_in_list (x ∷ seen) n.edge.after) refl (λ t v. walk fuel n.edge.after (x ∷ seen) t v (omega arith))

  begun_below : (x y : ℕ) → S x → (same : Bool) → (y == x) ≡ same → same || false ≡ true → y < positions
  begun_below x y s true at h = let e : y ≡ x = eqb-true y x at in rw e (within x s)
  begun_below x y s false at h = cc

  pub short_loop_of_set : (x : ℕ) → S x → HasShortLoop positions edges
  short_loop_of_set x s = walk positions x [] s (record {
    distinct = alone x;
    below = λ y. begun_below x y s (y == x) refl;
    led = λ y h. cc;
  }) (omega arith)

  pub loop_of_set : (x : ℕ) → S x → HasLoop edges
  loop_of_set x s = loop_of_short positions edges (short_loop_of_set x s)
