-- A list of reasons, leaf by leaf.
use Rattle.std.proofs.Common.{arith, ◌≡◌, ◌<◌, ◌≤◌, ◌*◌, ℕ, Bool, false, Option, Some, None, List, inl, inr, sym, ◌∙◌, ap, subst, length, map}
use Rattle.std.specs.Prelude.{slice_get, unwrap_or}
use Rattle.std.specs.List.{range_with_len}
use Rattle.std.proofs.lemmas.Bool.{cases_lt}
use Rattle.std.proofs.lemmas.List.FromFn.{length-map-range_with_len}
use Rattle.std.proofs.lemmas.Option.{same_Some, slice_get_past}
use Rattle.lemmas.proofs.Ranges.{slice_get-range}
use Rattle.cluster_types.specs.declared.cluster.Cluster.{Cluster}
use Rattle.cluster_types.specs.declared.journal.Event.{Event}
use Rattle.cluster_types.specs.declared.journal.Promotion.{Promotion}
use Rattle.cluster_types.specs.declared.placement.NoReason.{NoReason}
use Rattle.cluster_types.specs.declared.placement.Pin.{Pin}
use Rattle.cluster_types.specs.declared.placement.Table.{Table}
use Rattle.cluster_types.specs.declared.states.States.{States}
use Rattle.cluster_types.specs.Failures.{is_fail_stopped}
use Rattle.cluster_types.specs.Held.{AreTargets}
use Rattle.cluster_types.specs.Pins.{pin_of}
use Rattle.cluster_types.specs.Reasons.{HasReason}
use Rattle.cluster_types.specs.Rights.{may_start}
use Rattle.cluster_types.specs.Tables.{targets_of}
use Rattle.cluster_types.specs.UnpackedStates.{states_of}
use Rattle.cluster_types.proofs.StatesKept.{fail_stop_kept}
use Rattle.plan_laws.proofs.TablesWithin.{kept_within}
use Rattle.placement.specs.Inner.Reads.{is_fail_stopped_in}
use Rattle.placement.specs.Inner.Reasoning.{reason_in}
use Rattle.placement.proofs.LeafReasons.{leaf_reason}

-- an element of a list by numbers
record At {X : Type 0} (f : ℕ → X) (n r : ℕ) (x : X) : Type 0 where
  pub low : r < n
  pub is : f r ≡ x

at_leaf : {X : Type 0} (f : ℕ → X) (n r : ℕ) (x : X) → slice_get (map f (range_with_len 0 n)) r ≡ Some x → At f n r x
at_leaf f n r x h = elim (cases_lt r n) [
  | inl lt ↦ record { low = lt; is = same_Some (f r) x (sym (slice_get-range f n r lt) ∙ h) }
  | inr le ↦
      let size = length-map-range_with_len f 0 n in
      let past : length (map f (range_with_len 0 n)) ≤ r = omega arith in
      let none : None ≡ Some x = sym (slice_get_past (map f (range_with_len 0 n)) r past) ∙ h in
      cc
]

module _ (c : Cluster) (es : List Event) (ps : List Promotion) (chosen targets : Table)
    (nodes : chosen.nodes ≡ length c.nodes) (size : length chosen.targets ≡ length c.leaves * length c.nodes)
    (nodes_too : targets.nodes ≡ length c.nodes) (size_too : length targets.targets ≡ length c.leaves * length c.nodes)
    (are : AreTargets c es (targets_of chosen) (targets_of targets)) (states : States) (told : states ≡ states_of c es ps)
    (pins : List (Option Pin)) (pinned : pins ≡ map (pin_of c es) (range_with_len 0 (length c.leaves)))
    (starts : Bool) (rights : starts ≡ may_start c es) where
  stopped : (r : ℕ) → r < length c.leaves → is_fail_stopped_in states r ≡ is_fail_stopped c r es
  stopped r low =
      ap (λ (s : States). is_fail_stopped_in s r) told ∙ ap (λ (o : Option Bool). unwrap_or o false) (fail_stop_kept c es ps r low)

  holds : (r : ℕ) → r < length c.leaves
      → HasReason c es (targets_of chosen) (targets_of targets) r (reason_in c states starts targets.nodes (targets_of chosen) (targets_of targets) pins r)
  holds r low =
      subst
      (λ (n : ℕ). HasReason c es (targets_of chosen) (targets_of targets) r (reason_in c states starts n (targets_of chosen) (targets_of targets) pins r))
      (sym nodes_too)
      (leaf_reason c es (targets_of chosen) (targets_of targets) (kept_within c chosen nodes size) (kept_within c targets nodes_too size_too) are r
      states starts pins pinned (stopped r low) rights)

  pub told_reason : (none : List (Option NoReason)) (leaves : ℕ) → leaves ≡ length c.leaves
      → none ≡ map (reason_in c states starts targets.nodes (targets_of chosen) (targets_of targets) pins) (range_with_len 0 leaves)
      → (r : ℕ) (reason : Option NoReason) → slice_get none r ≡ Some reason → HasReason c es (targets_of chosen) (targets_of targets) r reason
  told_reason none leaves all made r reason at =
      let f : ℕ → Option NoReason = reason_in c states starts targets.nodes (targets_of chosen) (targets_of targets) pins in
      let a : At f leaves r reason = at_leaf f leaves r reason (ap (λ (xs : List (Option NoReason)). slice_get xs r) (sym made) ∙ at) in
      let low = a.low in
      subst (HasReason c es (targets_of chosen) (targets_of targets) r) a.is (holds r (omega arith))
