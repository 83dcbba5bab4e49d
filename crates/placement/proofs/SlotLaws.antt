-- Keys in the slots of decisions, and how they change.
use Rattle.std.proofs.Common.{arith, ◌≡◌, ◌==◌, ◌||◌, ◌+◌, ◌*◌, ◌<◌, ◌≤◌, ℕ, Bool, true, false, if◌then◌else◌, Option, Some, None, List, length, get_or, replicate, set, take, unwrap_or, refl, sym, ap, ◌∙◌, eqb-true}
use Rattle.std.proofs.Math.Bool.{or-false, or-true}
use Rattle.std.proofs.lemmas.Bool.{false_from_ne_true}
use Rattle.std.proofs.lemmas.List.{get_or-replicate, length-replicate, length-set}
use Rattle.std.proofs.lemmas.List.Folds.{list_any_more}
use Rattle.std.proofs.lemmas.Option.{slice_get-get_or}
use Rattle.lemmas.proofs.Booleans.{equal_turned}
use Rattle.loops.proofs.Needs.{same_decision}
use Rattle.cluster_types.specs.declared.placement.Decision.{Decision}
use Rattle.cluster_types.specs.Decisions.{Key, is_among, is_same_decision, leaf_of}
use Rattle.cluster_types.proofs.TableCells.{get-at}
use Rattle.placement.specs.Inner.Flags.{slot_of}
use Rattle.placement.specs.Inner.Lending.{AreKeys, is_raised, slot_key_at, keys_among, with_lent}
use Rattle.placement.proofs.FlagLaws.{same-slot, slot-within}
use Rattle.placement.proofs.SameDecisions.{same-turned}

module _ (leaves : ℕ) (kept : Decision → Option Key) (slots : List (Option Key)) (are : AreKeys leaves kept slots) where
  pub kept-is : (d : Decision) → leaf_of d < leaves → slot_key_at slots d ≡ kept d
  kept-is d low = ap (λ (o : Option (Option Key)). unwrap_or o None) (are.each d low)

  pub keys-same : (other : Decision → Option Key) → ((d : Decision) → leaf_of d < leaves → kept d ≡ other d) → AreKeys leaves other slots
  keys-same other same = record { size = are.size; each = λ d low. are.each d low ∙ ap Some (same d low) }

  module _ (x : Decision) (key : Option Key) where
    abbrev with_key : Decision → Option Key
    with_key d = if is_same_decision x d then key else kept d

    -- it has no slot
    pub set-out : length slots ≤ slot_of x → AreKeys leaves with_key slots
    set-out high = keys-same with_key (λ d low.
        let within = slot-within leaves d low in
        let size = are.size in
        let other : (slot_of x == slot_of d) ≡ false = false_from_ne_true (slot_of x == slot_of d) (λ h. let e : slot_of x ≡ slot_of d = eqb-true (slot_of x) (slot_of d) h in absurd (let f : ⊥ = omega (arith, e, within, size, high) in f)) in
        sym (ap (λ (b : Bool). if b then key else kept d) (sym (same-slot x d) ∙ other)))

    -- it gets the key
    pub set-one : slot_of x < length slots → AreKeys leaves with_key (set slots (slot_of x) key)
    set-one low = record {
      size = length-set slots (slot_of x) key ∙ are.size;
      each = λ d leaf.
          let within = slot-within leaves d leaf in
          let size = are.size in
          let inside : slot_of d < length slots = omega (arith, within, size) in
          slice_get-get_or (set slots (slot_of x) key) (slot_of d) None (omega (arith, inside, length-set slots (slot_of x) key))
          ∙ ap Some (get-at slots (slot_of d) (slot_of x) key None low (slot_of d == slot_of x) refl
          ∙ (ap (λ (b : Bool). if b then key else get_or slots (slot_of d) None) (equal_turned (slot_of d) (slot_of x) ∙ same-slot x d)
          ∙ ap (λ (k : Option Key). if is_same_decision x d then key else k) (was d leaf inside)));
    }
      where
        was : (d : Decision) → leaf_of d < leaves → slot_of d < length slots → get_or slots (slot_of d) None ≡ kept d
        was d leaf inside = ap (λ (o : Option (Option Key)). unwrap_or o None) (sym (slice_get-get_or slots (slot_of d) None inside) ∙ are.each d leaf)

-- no keys
pub no-keys : (leaves slots : ℕ) → slots ≡ leaves * 2 → AreKeys leaves (λ d. None) (replicate slots None)
no-keys leaves slots size =
    let none : Option Key = None in
    record {
      size = length-replicate {A = Option Key} slots none ∙ size;
      each = λ d low.
          let within : slot_of d < slots = (let w = slot-within leaves d low in omega (arith, w, size)) in
          slice_get-get_or (replicate slots none) (slot_of d) none (omega (arith, within, length-replicate {A = Option Key} slots none))
          ∙ ap Some (get_or-replicate slots (slot_of d) none none within);
    }

-- the key of one decision more
pub key-more : (key : Decision → Key) (ds : List Decision) (i : ℕ) (z : Decision) → i < length ds → (d : Decision)
    → (if is_same_decision (get_or ds i z) d then Some (key (get_or ds i z)) else keys_among (take i ds) key d) ≡ keys_among (take (i + 1) ds) key d
key-more key ds i z low d =
    go (is_same_decision (get_or ds i z) d) refl
    ∙ sym (ap (λ (b : Bool). if b then Some (key d) else None) (list_any_more (is_same_decision d) ds i z low ∙ ap (λ (b : Bool). is_among (take i ds) d || b) (same-turned d (get_or ds i z))))
  where
    go : (same : Bool) → is_same_decision (get_or ds i z) d ≡ same
        → (if is_same_decision (get_or ds i z) d then Some (key (get_or ds i z)) else keys_among (take i ds) key d)
        ≡ (if is_among (take i ds) d || is_same_decision (get_or ds i z) d then Some (key d) else None)
    go true h =
        let is : get_or ds i z ≡ d = same_decision (get_or ds i z) d h in
        let k : key (get_or ds i z) ≡ key d = ap key is in
        let all = or-true (is_among (take i ds) d) in
        rw (h, all) (ap Some k)
    go false h = let rest = or-false (is_among (take i ds) d) in rw (h, rest) refl

-- what is lent changes a key where it is greater
pub not-raised : (own lent : Option Key) → is_raised own lent ≡ false → with_lent own lent ≡ own
not-raised None lent h = refl
not-raised (Some own) None h = refl
not-raised (Some own) (Some lent) h = rw h refl

pub raised-is : (own lent : Option Key) → is_raised own lent ≡ true → with_lent own lent ≡ lent
raised-is None lent h = cc
raised-is (Some own) None h = cc
raised-is (Some own) (Some lent) h = rw h refl

-- one decision is lent a key
module _ (leaves : ℕ) (kept : Decision → Option Key) (slots : List (Option Key)) (x : Decision) (lent : Option Key) where
  abbrev with_one : Decision → Option Key
  with_one d = if is_same_decision x d then with_lent (kept d) lent else kept d

  pub lent-nothing : AreKeys leaves kept slots → is_raised (kept x) lent ≡ false → AreKeys leaves with_one slots
  lent-nothing are none = keys-same leaves kept slots are with_one (λ d low. go d (is_same_decision x d) refl)
    where
      go : (d : Decision) (same : Bool) → is_same_decision x d ≡ same → kept d ≡ (if same then with_lent (kept d) lent else kept d)
      go d true h =
          let no : is_raised (kept d) lent ≡ false = ap (λ (y : Decision). is_raised (kept y) lent) (sym (same_decision x d h)) ∙ none in
          sym (not-raised (kept d) lent no)
      go d false h = refl

  pub lent-one : AreKeys leaves (λ d. if is_same_decision x d then lent else kept d) slots → is_raised (kept x) lent ≡ true → AreKeys leaves with_one slots
  lent-one are raised = keys-same leaves (λ d. if is_same_decision x d then lent else kept d) slots are with_one (λ d low. go d (is_same_decision x d) refl)
    where
      go : (d : Decision) (same : Bool) → is_same_decision x d ≡ same → (if same then lent else kept d) ≡ (if same then with_lent (kept d) lent else kept d)
      go d true h =
          let yes : is_raised (kept d) lent ≡ true = ap (λ (y : Decision). is_raised (kept y) lent) (sym (same_decision x d h)) ∙ raised in
          sym (raised-is (kept d) lent yes)
      go d false h = refl
