-- Where the flag of a decision is kept, and how flags change.
use Rattle.std.proofs.Common.{◌≡◌, ℕ, ◌*◌, ◌<◌, ◌≤◌, ◌==◌, Bool, true, false, ◌&&◌, ◌||◌, if◌then◌else◌, Some, List, length, get_or, replicate, set, unwrap_or, refl, sym, ap, ◌∙◌, eqb-true, arith}
use Rattle.std.proofs.Math.Bool.{and-false, and-true, or-false}
use Rattle.std.proofs.lemmas.Bool.{false_from_ne_true}
use Rattle.std.proofs.lemmas.List.{get_or-replicate, length-replicate, length-set}
use Rattle.std.proofs.lemmas.Option.{slice_get-get_or}
use Rattle.lemmas.proofs.Booleans.{cond-or, equal_turned}
use Rattle.cluster_types.specs.declared.placement.Decision.{Decision}
use Rattle.cluster_types.specs.declared.placement.Decision.TheVariants.{Place, Promote}
use Rattle.cluster_types.specs.Decisions.{is_same_decision, leaf_of}
use Rattle.cluster_types.proofs.TableCells.{get-at, same_place}
use Rattle.placement.specs.Inner.Flags.{AreFlags, flag_at, slot_of}

-- two decisions have one slot where they are one
pub same-slot : (d e : Decision) → (slot_of d == slot_of e) ≡ is_same_decision d e
same-slot (Place r) (Place s) = same_place 2 r 0 s 0 (omega arith) (omega arith) (r == s) refl ∙ and-true (r == s)
same-slot (Promote r) (Promote s) = same_place 2 r 1 s 1 (omega arith) (omega arith) (r == s) refl ∙ and-true (r == s)
same-slot (Place r) (Promote s) = same_place 2 r 0 s 1 (omega arith) (omega arith) (r == s) refl ∙ and-false (r == s)
same-slot (Promote r) (Place s) = same_place 2 r 1 s 0 (omega arith) (omega arith) (r == s) refl ∙ and-false (r == s)

pub slot-within : (leaves : ℕ) (d : Decision) → leaf_of d < leaves → slot_of d < leaves * 2
slot-within leaves (Place r) low = omega (arith, low)
slot-within leaves (Promote r) low = omega (arith, low)

module _ (leaves : ℕ) (passes : Decision → Bool) (flags : List Bool) (are : AreFlags leaves passes flags) where
  -- what is read is what the test says
  pub flag-is : (d : Decision) → leaf_of d < leaves → flag_at flags d ≡ passes d
  flag-is d low = ap (λ f. unwrap_or f false) (are.each d low)

  -- the same flags by a test that says the same
  pub flags-same : (other : Decision → Bool) → ((d : Decision) → leaf_of d < leaves → passes d ≡ other d) → AreFlags leaves other flags
  flags-same other same = record { size = are.size; each = λ d low. are.each d low ∙ ap Some (same d low) }

  module _ (x : Decision) (wanted : Bool) where
    abbrev with_one : Decision → Bool
    with_one d = passes d || (wanted && is_same_decision x d)

    -- it isn't wanted
    pub raised-none : wanted ≡ false → AreFlags leaves with_one flags
    raised-none e = flags-same with_one (λ d low. sym (ap (λ b. passes d || (b && is_same_decision x d)) e ∙ or-false (passes d)))

    -- it has no slot
    pub raised-out : length flags ≤ slot_of x → AreFlags leaves with_one flags
    raised-out high = flags-same with_one (λ d low.
        let within = slot-within leaves d low in
        let size = are.size in
        let other : (slot_of x == slot_of d) ≡ false = false_from_ne_true (slot_of x == slot_of d) (λ h. let e : slot_of x ≡ slot_of d = eqb-true (slot_of x) (slot_of d) h in absurd (let f : ⊥ = omega (arith, e, within, size, high) in f)) in
        sym (ap (λ b. passes d || (wanted && b)) (sym (same-slot x d) ∙ other) ∙ (ap (λ b. passes d || b) (and-false wanted) ∙ or-false (passes d))))

    -- it gets its flag
    pub raised : wanted ≡ true → slot_of x < length flags → AreFlags leaves with_one (set flags (slot_of x) true)
    raised e low = record {
      size = length-set flags (slot_of x) true ∙ are.size;
      each = λ d leaf.
          let within = slot-within leaves d leaf in
          let size = are.size in
          let inside : slot_of d < length flags = omega (arith, within, size) in
          slice_get-get_or (set flags (slot_of x) true) (slot_of d) false (omega (arith, inside, length-set flags (slot_of x) true))
          ∙ ap Some (get-at flags (slot_of d) (slot_of x) true false low (slot_of d == slot_of x) refl
          ∙ (ap (λ b. if b then true else get_or flags (slot_of d) false) (equal_turned (slot_of d) (slot_of x) ∙ same-slot x d)
          ∙ (cond-or (is_same_decision x d) (get_or flags (slot_of d) false)
          ∙ (ap (λ b. b || is_same_decision x d) (kept d leaf inside) ∙ ap (λ b. passes d || (b && is_same_decision x d)) (sym e)))));
    }
      where
        kept : (d : Decision) → leaf_of d < leaves → slot_of d < length flags → get_or flags (slot_of d) false ≡ passes d
        kept d leaf inside = ap (λ f. unwrap_or f false) (sym (slice_get-get_or flags (slot_of d) false inside) ∙ are.each d leaf)

-- no flags
pub none-raised : (leaves slots : ℕ) → slots ≡ leaves * 2 → AreFlags leaves (λ d. false) (replicate slots false)
none-raised leaves slots size = record {
  size = length-replicate slots false ∙ size;
  each = λ d low.
      let within : slot_of d < slots = (let w = slot-within leaves d low in omega (arith, w, size)) in
      slice_get-get_or (replicate slots false) (slot_of d) false (omega (arith, within, length-replicate slots false))
      ∙ ap Some (get_or-replicate slots (slot_of d) false false within);
}
