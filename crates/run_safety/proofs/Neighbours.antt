-- Where two leaves must be apart and the one is given its role, the other may not hold its own.
use Rattle.std.proofs.Common.{arith, inl, inr, ◌⊎◌, ◌≡◌, ◌<◌, ◌&&◌, not, nat_lt, if◌then◌else◌, ℕ, Bool, true, false, List, length, refl}
use Rattle.std.proofs.lemmas.Bool.{and_right, both_ways, false_from_ne_true}
use Rattle.std.proofs.lemmas.Bool.Decides.{nat_tests}
use Rattle.cluster_types.specs.declared.journal.Action.TheVariants.{Fence, Probe, Operation}
use Rattle.cluster_types.specs.declared.journal.Event.{Event}
use Rattle.cluster_types.specs.declared.leaf.Op.TheVariants as op
use Rattle.cluster_types.specs.declared.leaf.Role.{Role}
use Rattle.cluster_types.specs.declared.leaf.Role.TheVariants as role
use Rattle.cluster_types.specs.declared.placement.Target.{Target}
use Rattle.cluster_types.specs.declared.placement.Target.TheVariants as target
use Rattle.cluster_types.specs.declared.states.CellState.TheVariants as cell
use Rattle.cluster_types.specs.CellStates.{cell_state}
use Rattle.cluster_types.specs.Fields.{is_promotable}
use Rattle.cluster_types.specs.Journals.{Orderly}
use Rattle.cluster_types.specs.May.{may_be_running, may_be_promoted, is_left_promoted}
use Rattle.cluster_types.specs.NodeStates.{is_online}
use Rattle.cluster_types.specs.Pins.{is_pinned, is_unprobed_state}
use Rattle.cluster_types.specs.Safety.{may_have_role}
use Rattle.cluster_types.specs.Steps.{Transition, journal, has_succeeded}
use Rattle.cluster_types.specs.Tables.{Targets, holds_role, is_promoted_target, is_somewhere}
use Rattle.cluster_types.proofs.MayLaws.{may-promoted}
use Rattle.plan_laws.proofs.CellStates.{says_of}
use Rattle.plan_laws.proofs.CellSteps.{is_promoted_state, promoted_state}
use Rattle.run_safety.proofs.Calm.{Calm}
use Rattle.run_safety.proofs.Carried.{Carries, IsSound}
use Rattle.run_safety.proofs.Demoted.{elsewhere_down, demoted_by, stays_down, not_left, not_promoted}
use Rattle.run_safety.proofs.Elsewhere.{elsewhere_off, shut_by, stays_off}
use Rattle.run_safety.proofs.Needing.{Done, state, probe_needed}
use Rattle.run_safety.proofs.Truths.{refuse, own_cell}

both_true : (a b c d e f : Bool) → a ≡ true → b ≡ true → c ≡ true → d ≡ true → a && b && c && d && e && f ≡ false → e && f ≡ false
both_true true true true true e f g h i j k = k
both_true false b c d e f g h i j k = cc
both_true true false c d e f g h i j k = cc
both_true true true false d e f g h i j k = cc
both_true true true true false e f g h i j k = cc

-- what stays has a target, which is promoted where it may be
pinned_nowhere : (stays up : Bool) (u : Target) → u ≡ (if stays then (if up then target.Promoted else target.Started) else target.Nowhere) → is_somewhere u ≡ false → stays ≡ false
pinned_nowhere false up u e h = refl
pinned_nowhere true true u e h = refuse (is_somewhere u) h (rw e refl)
pinned_nowhere true false u e h = refuse (is_somewhere u) h (rw e refl)

pinned_down : (stays up : Bool) (u : Target) → u ≡ (if stays then (if up then target.Promoted else target.Started) else target.Nowhere) → is_promoted_target u ≡ false
    → (stays ≡ false) ⊎ (up ≡ false)
pinned_down false up u e h = inl refl
pinned_down true false u e h = inr refl
pinned_down true true u e h = refuse (is_promoted_target u) h (rw e refl)

module _ (t : Transition) (targets : Targets) (carries : Carries t targets) (sound : IsSound t targets) (orderly : Orderly t.planned_at)
    (since : List Event) (calm : Calm t since) (s n : ℕ) (h : s < length t.cluster.leaves) (l : n < length t.cluster.nodes) (online : is_online t.cluster n t.planned_at ≡ true)
    (probed : Done t since (Probe s n)) (stopped : Done t since (Operation op.Stop s n 0 role.Started))
    (fenced : Done t since (Fence n)) where
  -- of a pinned leaf without a target there: it may not run there, or is asked first
  abbrev Unasked : Type 0
  Unasked = (is_unprobed_state (state t s n) ≡ true) ⊎ (may_be_running t.cluster s n t.planned_at ≡ false)

  unasked : is_pinned t.cluster t.planned_at s ≡ true
      → nat_lt s (length t.cluster.leaves) && nat_lt n (length t.cluster.nodes) && is_pinned t.cluster t.planned_at s && is_online t.cluster n t.planned_at
      && may_be_running t.cluster s n t.planned_at && not (is_unprobed_state (cell_state t.cluster s n t.planned_at)) ≡ false → Unasked
  unasked pin none =
      by (may_be_running t.cluster s n t.planned_at) refl (is_unprobed_state (state t s n)) refl
      (both_true (nat_lt s (length t.cluster.leaves)) (nat_lt n (length t.cluster.nodes)) (is_pinned t.cluster t.planned_at s) (is_online t.cluster n t.planned_at) _ _
      (grind (arith, nat_tests)) (grind (arith, nat_tests)) pin online none)
    where
      by : (on : Bool) → may_be_running t.cluster s n t.planned_at ≡ on → (unprobed : Bool) → is_unprobed_state (state t s n) ≡ unprobed → on && not unprobed ≡ false → Unasked
      by false e u f g = inr e
      by true e true f g = inl f
      by true e false f g = absurd (let f : ⊥ = cc in f)

  plain_state : may_be_running t.cluster s n t.planned_at ≡ false → is_promoted_state (state t s n) ≡ false
  plain_state off =
      false_from_ne_true (is_promoted_state (state t s n)) (λ e.
      both_ways (may_be_running t.cluster s n t.planned_at) off
      (may-promoted t.cluster s n t.planned_at (says_of t.cluster s n t.planned_at cell.Promoted (promoted_state (state t s n) e)).4))

  unprobed_plain : is_unprobed_state (state t s n) ≡ true → is_promoted_state (state t s n) ≡ false
  unprobed_plain u =
      false_from_ne_true (is_promoted_state (state t s n)) (λ e.
      let same : state t s n ≡ cell.Promoted = promoted_state (state t s n) e in both_ways (is_unprobed_state (state t s n)) (rw same refl) u)

  probe_done : (u : is_unprobed_state (state t s n) ≡ true)
      → has_succeeded t since (carries.numbered (Probe s n) (probe_needed t targets s n h l u)).number ≡ true
  probe_done u = probed (carries.numbered (Probe s n) (probe_needed t targets s n h l u))

  pub runs_not : is_somewhere (targets s n) ≡ false → may_be_running t.cluster s n (journal t since) ≡ false
  runs_not nowhere = by (is_pinned t.cluster t.planned_at s) refl
    where
      by : (pinned : Bool) → is_pinned t.cluster t.planned_at s ≡ pinned → may_be_running t.cluster s n (journal t since) ≡ false
      by false free = elsewhere_off t targets carries s n nowhere since calm h l free orderly (inl online) probed stopped fenced
      by true pin = of (unasked pin (pinned_nowhere _ (may_be_promoted t.cluster s n t.planned_at) (targets s n) (sound.pinned s n h l pin) nowhere))
        where
          of : Unasked → may_be_running t.cluster s n (journal t since) ≡ false
          of (inl u) =
              shut_by t targets carries s n nowhere (Probe s n) (carries.numbered (Probe s n) (probe_needed t targets s n h l u)) (own_cell s n)
              (λ p. refuse (is_promoted_state (state t s n)) (unprobed_plain u) p) since calm (probe_done u)
          of (inr off) = stays_off t targets carries s n nowhere (plain_state off) off since calm

  pub promoted_not : is_promoted_target (targets s n) ≡ false → Done t since (Operation op.Demote s n 0 role.Started)
      → may_be_promoted t.cluster s n (journal t since) ≡ false
  promoted_not untargeted demoted = able_or_not (is_promotable t.cluster s) refl
    where
      down : is_promotable t.cluster s ≡ true → (pinned : Bool) → is_pinned t.cluster t.planned_at s ≡ pinned → is_left_promoted t.cluster s n (journal t since) ≡ false
      down promotable false free =
          elsewhere_down t targets carries s n untargeted since calm h l free orderly (inl online) promotable probed stopped demoted fenced
      down promotable true pin = of (pinned_down _ (may_be_promoted t.cluster s n t.planned_at) (targets s n) (sound.pinned s n h l pin) untargeted)
        where
          asked : Unasked → is_left_promoted t.cluster s n (journal t since) ≡ false
          asked (inl u) =
              demoted_by t targets carries s n untargeted (Probe s n) (carries.numbered (Probe s n) (probe_needed t targets s n h l u)) (own_cell s n) refl since calm (probe_done u)
          asked (inr off) = stays_down t targets carries s n untargeted (not_left t targets carries s n untargeted t.planned_at promotable (not_promoted t targets carries s n untargeted t.planned_at off)) since calm

          of : (nat_lt s (length t.cluster.leaves) && nat_lt n (length t.cluster.nodes) && is_pinned t.cluster t.planned_at s && is_online t.cluster n t.planned_at
              && may_be_running t.cluster s n t.planned_at && not (is_unprobed_state (cell_state t.cluster s n t.planned_at)) ≡ false)
              ⊎ (may_be_promoted t.cluster s n t.planned_at ≡ false) → is_left_promoted t.cluster s n (journal t since) ≡ false
          of (inl none) = asked (unasked pin none)
          of (inr no_longer) = stays_down t targets carries s n untargeted (not_left t targets carries s n untargeted t.planned_at promotable no_longer) since calm

      able_or_not : (b : Bool) → is_promotable t.cluster s ≡ b → may_be_promoted t.cluster s n (journal t since) ≡ false
      able_or_not false e = rw e refl
      able_or_not true e = and_right (is_promotable t.cluster s) (is_left_promoted t.cluster s n (journal t since)) (down e (is_pinned t.cluster t.planned_at s) refl)

  -- what takes the role, or asks for it, comes first: then it may not be held
  pub holds_not : (held : Role) → holds_role targets s held n ≡ false → (held ≡ role.Promoted → Done t since (Operation op.Demote s n 0 role.Started))
      → may_have_role t.cluster s held n (journal t since) ≡ false
  holds_not role.Started none demoted = runs_not none
  holds_not role.Promoted none demoted = promoted_not none (demoted refl)
