-- Once all have succeeded, a leaf may be promoted on an online node just where its target says so.
use Rattle.std.proofs.Common.{inl, inr, ◌⊎◌, ◌≡◌, ◌<◌, ◌≤◌, if◌then◌else◌, ℕ, Bool, true, false, List, [], ◌∷◌, ◌++◌, length, refl, sym, subst}
use Rattle.std.specs.Prelude.{Some, Contains}
use Rattle.std.proofs.lemmas.Bool.{not-true, and_from}
use Rattle.lemmas.proofs.Booleans.{later, number_itself}
use Rattle.cluster_types.specs.declared.journal.Action.{Action}
use Rattle.cluster_types.specs.declared.journal.Action.TheVariants.{Fence, Probe, Operation}
use Rattle.cluster_types.specs.declared.journal.Event.{Event}
use Rattle.cluster_types.specs.declared.journal.Event.TheVariants.{Ended}
use Rattle.cluster_types.specs.declared.leaf.Op.{Op}
use Rattle.cluster_types.specs.declared.leaf.Op.TheVariants as op
use Rattle.cluster_types.specs.declared.leaf.Role.TheVariants as role
use Rattle.cluster_types.specs.declared.placement.Target.{Target}
use Rattle.cluster_types.specs.declared.placement.Target.TheVariants as target
use Rattle.cluster_types.specs.declared.states.CellState.{CellState}
use Rattle.cluster_types.specs.declared.states.CellState.TheVariants as cell
use Rattle.cluster_types.specs.Fields.{is_promotable}
use Rattle.cluster_types.specs.Journals.{Orderly}
use Rattle.cluster_types.specs.May.{may_be_promoted, is_left_promoted}
use Rattle.cluster_types.specs.NeededActions.{Cycled, runs, steps_of, is_monitor_for}
use Rattle.cluster_types.specs.NodeStates.{is_online}
use Rattle.cluster_types.specs.Pins.{is_pinned, is_unprobed_state}
use Rattle.cluster_types.specs.Steps.{Transition, action_at, has_succeeded, journal}
use Rattle.cluster_types.specs.Tables.{Targets, is_promoted_target}
use Rattle.plan_laws.proofs.CellStates.{says_of, blocked_pins}
use Rattle.plan_laws.proofs.CellSteps.{is_step}
use Rattle.run_safety.proofs.Calm.{Calm}
use Rattle.run_safety.proofs.Carried.{HasNumber, Carries, IsSound}
use Rattle.run_safety.proofs.Deciding.{cycled_or_not, either_way}
use Rattle.run_safety.proofs.Leads.{Must, by_probe, by_cell, by_demote}
use Rattle.run_safety.proofs.Needing.{state, IsNeeded, step_needed, uncycled_idle}
use Rattle.run_safety.proofs.Neighbours.{promoted_not}
use Rattle.run_safety.proofs.PromotedEffects.{up_begun, up_done, up_waited, up_turned}
use Rattle.run_safety.proofs.PromotedSteps.{is_fresh, promote_of, promote_of_cycled, no_step, pinned_up}
use Rattle.run_safety.proofs.PromotedTakers.{is_a_step, is_taker, is_watch, taken_or_not, Takes, Gets, is_probe}
use Rattle.run_safety.proofs.RunsAt.{done}
use Rattle.run_safety.proofs.Touching.{takes_promoted}
use Rattle.run_safety.proofs.Truths.{refuse}
use Rattle.run_safety.proofs.Turning.{turned, unturned}

module _ (t : Transition) (targets : Targets) (carries : Carries t targets) (sound : IsSound t targets) (orderly : Orderly t.planned_at)
    (since : List Event) (calm : Calm t since) (all : (k : ℕ) → 0 < k → k ≤ length t.actions → has_succeeded t since k ≡ true)
    (r n : ℕ) (h : r < length t.cluster.leaves) (l : n < length t.cluster.nodes) (online : is_online t.cluster n t.planned_at ≡ true) where
  abbrev IsUp : List Event → Type 0
  IsUp es = is_left_promoted t.cluster r n es ≡ true

  module _ (wanted : targets r n ≡ target.Promoted) where
    unwatched : {R : Type 0} → is_monitor_for role.Started (targets r n) ≡ true → R
    unwatched e = refuse (is_monitor_for role.Started (targets r n)) (rw wanted refl) e

    raised : IsNeeded t targets (Operation op.Promote r n 0 role.Started) → IsUp (journal t since)
    raised needed =
        turned t IsUp number.number (Operation op.Promote r n 0 role.Started) number.is
        (λ es o m ok. up_turned t.cluster r n es number.number m (Operation op.Promote r n 0 role.Started) o (rw (number_itself r) (rw (number_itself n) refl)))
        (λ es j y is up. inr (up_begun t.cluster r n es j y up))
        (λ es j m y o is ok up. taken_or_not t targets carries sound r n online ((t.precedes j number.number ≡ true) ⊎ IsUp (es ++ Ended j y o m ∷ [])) j y is
        (λ e. inr (up_done t.cluster r n es j m y o ok e up)) (λ takes. inl (first j y is takes)))
        (λ es s up. up_waited t.cluster r n es s up) since calm (done t targets carries sound orderly since calm all (Operation op.Promote r n 0 role.Started) number)
      where
        number : HasNumber t (Operation op.Promote r n 0 role.Started)
        number = carries.numbered (Operation op.Promote r n 0 role.Started) needed

        precedes : (j : ℕ) (y z : Action) → action_at t j ≡ Some y → y ≡ z → Must t z (Operation op.Promote r n 0 role.Started) → t.precedes j number.number ≡ true
        precedes j y z is same must = carries.precede j number.number z (Operation op.Promote r n 0 role.Started) (subst (λ w. action_at t j ≡ Some w) same is) number.is must

        step_first : (o : Op) → is_taker o ≡ true → Must t (Operation o r n 0 role.Started) (Operation op.Promote r n 0 role.Started)
        step_first op.Start e = by_cell t (Operation op.Start r n 0 role.Started) (Operation op.Promote r n 0 role.Started) (rw (number_itself r) (rw (number_itself n) refl))
        step_first op.Stop e = by_demote t (Operation op.Stop r n 0 role.Started) (Operation op.Promote r n 0 role.Started) (number_itself r)
        step_first op.Demote e = by_demote t (Operation op.Demote r n 0 role.Started) (Operation op.Promote r n 0 role.Started) (rw (number_itself r) refl)
        step_first op.Promote e = cc
        step_first op.Monitor e = cc

        first : (j : ℕ) (y : Action) → action_at t j ≡ Some y → Takes t targets r n y → t.precedes j number.number ≡ true
        first j y is (is_probe same u) = precedes j y (Probe r n) is same (by_probe t (Probe r n) (Operation op.Promote r n 0 role.Started) (number_itself r))
        first j y is (is_a_step o same takes g) = precedes j y (Operation o r n 0 role.Started) is same (step_first o takes)
        first j y is (is_watch e) = unwatched e

    remains : IsUp t.planned_at → is_unprobed_state (state t r n) ≡ false → ((o : Op) → Gets t targets r n o → ⊥) → IsUp (journal t since)
    remains up probed never =
        unturned t IsUp (λ es j y is was. up_begun t.cluster r n es j y was)
        (λ es j m y o is ok was. up_done t.cluster r n es j m y o ok (taken_or_not t targets carries sound r n online (takes_promoted r n y ≡ false) j y is (λ e. e) (none y)) was)
        (λ es s was. up_waited t.cluster r n es s was) since calm up
      where
        none : (y : Action) → Takes t targets r n y → takes_promoted r n y ≡ false
        none y (is_probe same u) = refuse (is_unprobed_state (state t r n)) probed u
        none y (is_a_step o same takes g) = absurd (never o g)
        none y (is_watch e) = unwatched e

    left_up : may_be_promoted t.cluster r n t.planned_at ≡ true → IsUp t.planned_at
    left_up e = later (is_promotable t.cluster r) _ e

    needs_promote : Gets t targets r n op.Promote → IsUp (journal t since)
    needs_promote g = raised (step_needed t targets r n op.Promote (λ e. let f : ⊥ = cc in f) h l g)

    is_up : IsUp (journal t since)
    is_up = by (is_pinned t.cluster t.planned_at r) refl
      where
        fresh : is_pinned t.cluster t.planned_at r ≡ false → is_fresh (state t r n) ≡ true → (cycled : Bool)
            → Contains (if is_pinned t.cluster t.planned_at r then [] else steps_of (state t r n) (targets r n) cycled) op.Promote
        fresh free e cycled =
            subst (λ z. Contains (if is_pinned t.cluster t.planned_at r then [] else steps_of (state t r n) z cycled) op.Promote) (sym wanted)
            (promote_of (is_pinned t.cluster t.planned_at r) (state t r n) cycled free e)

        idle : is_pinned t.cluster t.planned_at r ≡ false → is_fresh (state t r n) ≡ true → runs (state t r n) ≡ false → IsUp (journal t since)
        idle free e still = needs_promote (inr (uncycled_idle t targets r n still, fresh free e false))

        promoted : is_pinned t.cluster t.planned_at r ≡ false → state t r n ≡ cell.Promoted → Cycled t.cluster t.planned_at targets r n ⊎ (Cycled t.cluster t.planned_at targets r n → ⊥)
            → IsUp (journal t since)
        promoted free e (inl g) =
            needs_promote (inl (
              g,
              subst (λ z. Contains (if is_pinned t.cluster t.planned_at r then [] else steps_of (state t r n) z true) op.Promote) (sym wanted)
                  (promote_of_cycled (is_pinned t.cluster t.planned_at r) (state t r n) free e),
            ))
        promoted free e (inr uncycled) = remains (left_up (says_of t.cluster r n t.planned_at cell.Promoted e).4) (rw e refl) never
          where
            never : (o : Op) → Gets t targets r n o → ⊥
            never o (inl g) = uncycled g.0
            never o (inr g) =
                no_step (is_pinned t.cluster t.planned_at r) (state t r n) o e
                (subst (λ z. Contains (if is_pinned t.cluster t.planned_at r then [] else steps_of (state t r n) z false) o) wanted g.1)

        by_state : is_pinned t.cluster t.planned_at r ≡ false → (s : CellState) → state t r n ≡ s → IsUp (journal t since)
        by_state free cell.Unprobed e = idle free (rw e refl) (rw e refl)
        by_state free cell.Off e = idle free (rw e refl) (rw e refl)
        by_state free cell.Failed e = idle free (rw e refl) (rw e refl)
        by_state free cell.On e = needs_promote (either_way t targets carries r n h l free (rw e refl) op.Promote (fresh free (rw e refl)))
        by_state free cell.Promoted e = promoted free e (cycled_or_not t targets carries r n h l free (rw e refl))
        by_state free cell.Away e = refuse (is_online t.cluster n t.planned_at) (says_of t.cluster r n t.planned_at cell.Away e) online
        by_state free cell.Blocked e = refuse (is_pinned t.cluster t.planned_at r) free (blocked_pins t.cluster r n t.planned_at l (rw e refl))

        by : (b : Bool) → is_pinned t.cluster t.planned_at r ≡ b → IsUp (journal t since)
        by false e = by_state e (state t r n) refl
        by true e =
            let both = pinned_up _ (may_be_promoted t.cluster r n t.planned_at) (targets r n) (sound.pinned r n h l e) wanted in
            remains (left_up both.1) (not-true (is_unprobed_state (state t r n)) (later _ _ both.0))
            (λ o g. refuse (is_pinned t.cluster t.planned_at r) (is_step t.cluster t.planned_at targets r n o g).unpinned e)

  pub promoted_as_targeted : may_be_promoted t.cluster r n (journal t since) ≡ is_promoted_target (targets r n)
  promoted_as_targeted = by (targets r n) refl
    where
      unpromoted : is_promoted_target (targets r n) ≡ false → may_be_promoted t.cluster r n (journal t since) ≡ false
      unpromoted e =
          promoted_not t targets carries sound orderly since calm r n h l online (done t targets carries sound orderly since calm all (Probe r n))
          (done t targets carries sound orderly since calm all (Operation op.Stop r n 0 role.Started)) (done t targets carries sound orderly since calm all (Fence n)) e
          (done t targets carries sound orderly since calm all (Operation op.Demote r n 0 role.Started))

      by : (u : Target) → targets r n ≡ u → may_be_promoted t.cluster r n (journal t since) ≡ is_promoted_target (targets r n)
      by target.Nowhere e = rw e (unpromoted (rw e refl))
      by target.Started e = rw e (unpromoted (rw e refl))
      by target.Promoted e = rw e (and_from (is_promotable t.cluster r) _ (sound.promotable r n h l (rw e refl)) (is_up e))
