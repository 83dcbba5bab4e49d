-- Where of two needed actions the one must precede the other, it has the lower number.
use Rattle.std.proofs.Common.{◌≡◌, ◌↔◌, ◌<◌, ◌==◌, ◌&&◌, ◌||◌, ℕ, Bool, true, false, List, length, eqb-true, Contains, refl, subst}
use Rattle.std.specs.List.{list_any}
use Rattle.std.proofs.lemmas.Bool.{and_parts, both_ways}
use Rattle.lemmas.proofs.Booleans.{either}
use Rattle.loops.proofs.OneRanking.{valid_rise}
use Rattle.cluster_types.specs.declared.cluster.Cluster.{Cluster}
use Rattle.cluster_types.specs.declared.journal.Action.{Action}
use Rattle.cluster_types.specs.declared.journal.Action.TheVariants.{Fence, Probe, Operation, MigrateTo, MigrateFrom}
use Rattle.cluster_types.specs.declared.journal.Event.{Event}
use Rattle.cluster_types.specs.declared.leaf.Op.TheVariants as op
use Rattle.cluster_types.specs.declared.leaf.Role.TheVariants as role
use Rattle.cluster_types.specs.Fields.{is_promotable}
use Rattle.cluster_types.specs.NeededActions.{Needed, sent}
use Rattle.cluster_types.specs.Numbers.{is_place_before, is_earlier, action_place}
use Rattle.cluster_types.specs.Precedence.{comes_first_in_cell, demotes_first, fences_first, is_across, is_migrating, is_ordered, is_serialize, is_serialized, migrates_first, must_precede, parts_first, probes_first, stops_first}
use Rattle.cluster_types.specs.Tables.{Targets, holds_role}
use Rattle.cluster_types.specs.Valid.{IsValid}
use Rattle.plan_laws.proofs.CellPairs.{demotes_upward, fences_upward, in_cell_upward, probes_upward, stops_upward}
use Rattle.plan_laws.proofs.NeededActions.{found, migrates_by_taken}
use Rattle.plan_laws.proofs.OrderPairs.{ordered_upward}
use Rattle.plan_laws.proofs.Phases.{sent_is_migrating, stop_place}
use Rattle.plan_laws.proofs.Separations.{parts_upward}

module _ (c : Cluster) (es : List Event) (targets : Targets) (actions : List Action) (valid : IsValid c)
    (roles : (r n : ℕ) → r < length c.leaves → n < length c.nodes → holds_role targets r role.Promoted n ≡ true → is_promotable c r ≡ true)
    (needed : (a : Action) → Contains actions a ↔ Needed c es targets a) where
  needs : (a : Action) → Contains actions a → Needed c es targets a
  needs a k = (needed a).0 k

  -- of a migrating leaf
  taken_stop : (r f t n s : ℕ) → r ≡ s → Contains actions (MigrateFrom r f t) → (b : Bool) → is_migrating actions s ≡ b
      → is_place_before (action_place c actions (MigrateFrom r f t)) (stop_place c actions s n b) ≡ true
  taken_stop r f t n s same inx true e = refl
  taken_stop r f t n s same inx false e =
      let sends_it = (needed (MigrateTo r f t)).1 (sent r f t (migrates_by_taken c es targets r f t (needs (MigrateFrom r f t) inx))) in
      absurd (both_ways (is_migrating actions s) e (subst (λ v. is_migrating actions v ≡ true) same (sent_is_migrating c actions r f t sends_it)))

  migrates_upward : (x y : Action) → Contains actions x → migrates_first x y ≡ true → is_earlier c actions x y ≡ true
  migrates_upward (MigrateTo r f t) (MigrateFrom s g u) inx h = refl
  migrates_upward (MigrateFrom r f t) (Operation op.Stop s n i role) inx h =
      taken_stop r f t n s (eqb-true r s (and_parts (r == s) (n == f) h).0) inx (is_migrating actions s) refl
  migrates_upward (MigrateFrom r f t) (Operation op.Monitor s n i role) inx h = refl
  migrates_upward (MigrateFrom r f t) (Operation op.Start s n i role) inx h = cc
  migrates_upward (MigrateFrom r f t) (Operation op.Promote s n i role) inx h = cc
  migrates_upward (MigrateFrom r f t) (Operation op.Demote s n i role) inx h = cc
  migrates_upward (MigrateFrom r f t) (Fence n) inx h = cc
  migrates_upward (MigrateFrom r f t) (Probe s n) inx h = cc
  migrates_upward (MigrateFrom r f t) (MigrateTo s g u) inx h = cc
  migrates_upward (MigrateFrom r f t) (MigrateFrom s g u) inx h = cc
  migrates_upward (MigrateTo r f t) (Fence n) inx h = cc
  migrates_upward (MigrateTo r f t) (Probe s n) inx h = cc
  migrates_upward (MigrateTo r f t) (Operation o s n i role) inx h = cc
  migrates_upward (MigrateTo r f t) (MigrateTo s g u) inx h = cc
  migrates_upward (Fence n) y inx h = cc
  migrates_upward (Probe r n) y inx h = cc
  migrates_upward (Operation o r n i role) y inx h = cc

  -- the rules
  module _ (x y : Action) (inx : Contains actions x) (iny : Contains actions y) where
    abbrev by_order : Bool
    by_order = list_any (λ o. is_ordered actions o x y || is_serialized (is_earlier c actions) o x y) c.orders

    abbrev by_separation : Bool
    by_separation = list_any (λ col. parts_first col x y) c.colocations

    separations_upward : by_separation ≡ true → is_earlier c actions x y ≡ true
    separations_upward h =
        let col = found (λ col. parts_first col x y) c.colocations h in parts_upward c es targets actions needs col.element col.among x y iny col.passes

    orders_upward : by_order ≡ true → is_earlier c actions x y ≡ true
    orders_upward h =
        let o = found (λ o. is_ordered actions o x y || is_serialized (is_earlier c actions) o x y) c.orders h in
        either (is_ordered actions o.element x y) (is_serialized (is_earlier c actions) o.element x y) o.passes
        (ordered_upward c es targets actions (valid_rise c valid) needs o.element o.among (valid.orders o.element o.among) x y inx iny)
        (λ m. (and_parts (is_serialize o.element.kind && (is_across o.element x y || is_across o.element y x)) (is_earlier c actions x y) m).1)

    pub pairs_upward : must_precede c actions (is_earlier c actions) x y ≡ true → is_earlier c actions x y ≡ true
    pairs_upward h =
        let a = probes_first x y in let b = stops_first c x y in let d = fences_first x y in let e = comes_first_in_cell x y in let f = demotes_first x y in
        either (a || b || d || e || f || by_separation || by_order) (migrates_first x y) h
        (λ h. either (a || b || d || e || f || by_separation) by_order h
        (λ h. either (a || b || d || e || f) by_separation h
        (λ h. either (a || b || d || e) f h
        (λ h. either (a || b || d) e h
        (λ h. either (a || b) d h
        (λ h. either a b h (probes_upward c es targets actions needs (valid_rise c valid) roles x y) (stops_upward c es targets actions needs (valid_rise c valid) roles x y))
        (fences_upward c es targets actions needs (valid_rise c valid) roles x y)) (in_cell_upward c es targets actions needs (valid_rise c valid) roles x y inx iny))
        (demotes_upward c es targets actions needs (valid_rise c valid) roles x y)) separations_upward) orders_upward)
        (migrates_upward x y inx)
