-- The rules that are harmless by the flags of leaves that get a step leave migrations be.
use Rattle.std.proofs.Common.{◌≡◌, ◌≢◌, ◌<◌, ◌==◌, ◌&&◌, ◌||◌, ◌↔◌, not, ℕ, Bool, true, false, List, length, refl, sym, ap, ◌⊎◌, inl, inr, Contains}
use Rattle.std.specs.List.{list_all}
use Rattle.std.proofs.lemmas.Bool.{and_from, both_ways, eq-eqb, eqb-true, ne_eqb}
use Rattle.std.proofs.Math.Bool.{and-false}
use Rattle.lemmas.proofs.Booleans.{later, sooner}
use Rattle.lemmas.proofs.Searches.{each_passes, all_pass}
use Rattle.cluster_types.specs.declared.cluster.Cluster.{Cluster}
use Rattle.cluster_types.specs.declared.journal.Event.{Event}
use Rattle.cluster_types.specs.declared.leaf.Op.{Op}
use Rattle.cluster_types.specs.declared.leaf.Op.TheVariants as op
use Rattle.cluster_types.specs.declared.rules.Colocation.{Colocation}
use Rattle.cluster_types.specs.declared.rules.Order.{Order}
use Rattle.cluster_types.specs.declared.rules.OrderKind.{OrderKind}
use Rattle.cluster_types.specs.declared.rules.OrderKind.TheVariants as kind
use Rattle.cluster_types.specs.Choice.{is_separation}
use Rattle.cluster_types.specs.NeededActions.{GetsStepAnywhere, IsHarmlessColocation, IsHarmlessOrder}
use Rattle.cluster_types.specs.Precedence.{is_same_op, is_serialize}
use Rattle.cluster_types.specs.Tables.{Targets}
use Rattle.loops.specs.FirstLoops.{AllJoin, AllOrder}
use Rattle.loops.proofs.StepPlaces.{same_op}
use Rattle.planner.specs.Inner.Actions.{is_undisturbed, is_harmless_colocation, is_harmless_order, keeps_first}

-- the first of an order, by tests: it is this leaf, the kind is Serialize, the word is a start, and the then gets a step
first_kept : (same s u t : Bool) → not (same && ((s || not u) && t)) ≡ true → same ≡ true → ((s ≡ false) × (u ≡ true)) ⊎ (t ≡ false)
first_kept true true u true h e = cc
first_kept true true u false h e = inr refl
first_kept true false true t h e = inl (refl, refl)
first_kept true false false true h e = cc
first_kept true false false false h e = inr refl
first_kept false s u t h e = cc

first_free : (same s u t : Bool) → (same ≡ true → ((s ≡ false) × (u ≡ true)) ⊎ (t ≡ false)) → not (same && ((s || not u) && t)) ≡ true
first_free false s u t f = refl
first_free true s u t f = on (f refl) where
  on : ((s ≡ false) × (u ≡ true)) ⊎ (t ≡ false) → not ((s || not u) && t) ≡ true
  on (inl (e, k)) = rw (e, k) refl
  on (inr e) = rw e (ap not (and-false (s || not u)))

-- its then likewise: it is this leaf, and both are one
then_kept : (same e t : Bool) → not (same && (not e && t)) ≡ true → same ≡ true → e ≡ false → t ≡ false
then_kept true false true h s d = cc
then_kept true false false h s d = refl
then_kept true true t h s d = cc
then_kept false e t h s d = cc

then_free : (same e t : Bool) → (same ≡ true → e ≡ false → t ≡ false) → not (same && (not e && t)) ≡ true
then_free false e t f = refl
then_free true true t f = refl
then_free true false t f = let g = f refl refl in rw g refl

-- a side of a colocation likewise: it is this leaf, and the two must be apart
side_kept : (same a t : Bool) → not (same && (a && t)) ≡ true → same ≡ true → a ≡ true → t ≡ false
side_kept true true true h s d = cc
side_kept true true false h s d = refl
side_kept true false t h s d = cc
side_kept false a t h s d = cc

side_free : (same a t : Bool) → (same ≡ true → a ≡ true → t ≡ false) → not (same && (a && t)) ≡ true
side_free false a t f = refl
side_free true false t f = refl
side_free true true t f = let g = f refl refl in rw g refl

serial_not : (k : OrderKind) → is_serialize k ≡ false → k ≢ kind.Serialize
serial_not kind.Mandatory h e = cc
serial_not kind.Optional h e = cc
serial_not kind.Serialize h e = cc

not_serial : (k : OrderKind) → k ≢ kind.Serialize → is_serialize k ≡ false
not_serial kind.Mandatory f = refl
not_serial kind.Optional f = refl
not_serial kind.Serialize f = absurd (f refl)

module _ (c : Cluster) (es : List Event) (targets : Targets) (touched : ℕ → Bool)
    (known : (r : ℕ) → r < length c.leaves → touched r ≡ true ↔ GetsStepAnywhere c es targets r) where
  calm : (r : ℕ) → r < length c.leaves → touched r ≡ false → ¬ GetsStepAnywhere c es targets r
  calm r lr e d = both_ways (touched r) e ((known r lr).1 d)

  untouched : (r : ℕ) → r < length c.leaves → (¬ GetsStepAnywhere c es targets r) → touched r ≡ false
  untouched r lr f = on (touched r) refl where
    on : (b : Bool) → touched r ≡ b → touched r ≡ false
    on true e = absurd (f ((known r lr).0 e))
    on false e = e

  module _ (r : ℕ) where
    order_harmless : (o : Order) → o.first < length c.leaves → o.then_leaf < length c.leaves → is_harmless_order touched r o ≡ true ↔ IsHarmlessOrder c es targets r o
    order_harmless o lf lt = (there, back) where
      there : is_harmless_order touched r o ≡ true → IsHarmlessOrder c es targets r o
      there h = record { as_first = first; as_then = other } where
        first : o.first ≡ r → ((o.kind ≢ kind.Serialize) × (o.first_op ≡ op.Start)) ⊎ (¬ GetsStepAnywhere c es targets o.then_leaf)
        first e =
            elim (first_kept (r == o.first) (is_serialize o.kind) (is_same_op o.first_op op.Start) (touched o.then_leaf)
            (sooner (not (r == o.first && keeps_first touched o)) _ h) (eq-eqb r o.first (sym e))) [
              | inl (k, w) ↦ inl (serial_not o.kind k, same_op o.first_op op.Start w)
              | inr t ↦ inr (calm o.then_leaf lt t)
            ]

        other : o.then_leaf ≡ r → o.first ≢ r → ¬ GetsStepAnywhere c es targets o.first
        other e d =
            calm o.first lf
            (then_kept (r == o.then_leaf) (o.first == o.then_leaf) (touched o.first)
            (later (not (r == o.first && keeps_first touched o)) _ h) (eq-eqb r o.then_leaf (sym e))
            (ne_eqb o.first o.then_leaf (λ s. d (rw e at s))))

      back : IsHarmlessOrder c es targets r o → is_harmless_order touched r o ≡ true
      back f =
          and_from (not (r == o.first && keeps_first touched o)) _
          (first_free (r == o.first) (is_serialize o.kind) (is_same_op o.first_op op.Start) (touched o.then_leaf) first)
          (then_free (r == o.then_leaf) (o.first == o.then_leaf) (touched o.first) other)
        where
          word : (w : Op) → w ≡ op.Start → is_same_op w op.Start ≡ true
          word w e = rw e refl

          first : (r == o.first) ≡ true → ((is_serialize o.kind ≡ false) × (is_same_op o.first_op op.Start ≡ true)) ⊎ (touched o.then_leaf ≡ false)
          first e = elim (f.as_first (sym (eqb-true r o.first e))) [
            | inl (k, w) ↦ inl (not_serial o.kind k, word o.first_op w)
            | inr d ↦ inr (untouched o.then_leaf lt d)
          ]

          other : (r == o.then_leaf) ≡ true → (o.first == o.then_leaf) ≡ false → touched o.first ≡ false
          other e d =
              let same : r ≡ o.then_leaf = eqb-true r o.then_leaf e in
              untouched o.first lf (f.as_then (sym same) (λ s. both_ways (o.first == o.then_leaf) d (eq-eqb o.first o.then_leaf (rw same at s))))

    colocation_harmless : (col : Colocation) → col.dependent < length c.leaves → col.primary < length c.leaves
        → is_harmless_colocation touched r col ≡ true ↔ IsHarmlessColocation c es targets r col
    colocation_harmless col ld lp = (there, back) where
      there : is_harmless_colocation touched r col ≡ true → IsHarmlessColocation c es targets r col
      there h = record {
        as_dependent = λ apart e. calm col.primary lp (side_kept (r == col.dependent) (is_separation col) (touched col.primary)
            (sooner (not (r == col.dependent && (is_separation col && touched col.primary))) _ h) (eq-eqb r col.dependent (sym e)) apart);
        as_primary = λ apart e. calm col.dependent ld (side_kept (r == col.primary) (is_separation col) (touched col.dependent)
            (later (not (r == col.dependent && (is_separation col && touched col.primary))) _ h) (eq-eqb r col.primary (sym e)) apart);
      }

      back : IsHarmlessColocation c es targets r col → is_harmless_colocation touched r col ≡ true
      back f =
          and_from (not (r == col.dependent && (is_separation col && touched col.primary))) _
          (side_free (r == col.dependent) (is_separation col) (touched col.primary)
          (λ e a. untouched col.primary lp (f.as_dependent a (sym (eqb-true r col.dependent e)))))
          (side_free (r == col.primary) (is_separation col) (touched col.dependent)
          (λ e a. untouched col.dependent ld (f.as_primary a (sym (eqb-true r col.primary e)))))

    -- no rule keeps the leaf from migrating
    pub record Free : Type 0 where
      pub orders : (o : Order) → Contains c.orders o → IsHarmlessOrder c es targets r o
      pub colocations : (col : Colocation) → Contains c.colocations col → IsHarmlessColocation c es targets r col

    module _ (ordered : AllOrder c) (joined : AllJoin c) where
      pub free_of : is_undisturbed c touched r ≡ true → Free
      free_of h = record {
        orders = λ o k. (
            let s = ordered o k in
            (order_harmless o s.first s.later).0 (each_passes (is_harmless_order touched r) c.orders o (sooner _ _ h) k));
        colocations = λ col k. (
            let s = joined col k in
            (colocation_harmless col s.dependent s.primary).0
            (each_passes (is_harmless_colocation touched r) c.colocations col (later (list_all (is_harmless_order touched r) c.orders) _ h) k));
      }

      pub is_free_where : Free → is_undisturbed c touched r ≡ true
      is_free_where f =
          and_from (list_all (is_harmless_order touched r) c.orders) _
          (all_pass (is_harmless_order touched r) c.orders (λ o k. let s = ordered o k in (order_harmless o s.first s.later).1 (f.orders o k)))
          (all_pass (is_harmless_colocation touched r) c.colocations (λ col k.
          let s = joined col k in
          (colocation_harmless col s.dependent s.primary).1 (f.colocations col k)))
