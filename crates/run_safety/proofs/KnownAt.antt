-- In a calm transition no failure comes: nodes that were online stay online, and no cell becomes blocked.
use Rattle.std.proofs.Common.{arith, inr, ◌≡◌, ◌<◌, ◌≤◌, ◌+◌, ◌*◌, ◌&&◌, nat_lt, if◌then◌else◌, ℕ, Bool, true, false, List, [], ◌∷◌, length, refl, ap, ◌∙◌}
use Rattle.std.specs.Prelude.{Option, Some, None, is_none}
use Rattle.std.specs.List.{list_any, last_or, filter}
use Rattle.std.specs.Option.{option_map_or}
use Rattle.std.proofs.lemmas.Bool.{both_ways, false_from_ne_true}
use Rattle.std.proofs.lemmas.Bool.Decides.{nat_tests}
use Rattle.std.proofs.lemmas.List.Sums.{sum_by-append}
use Rattle.lemmas.proofs.Ranges.{any-same}
use Rattle.lemmas.proofs.Booleans.{number_itself}
use Rattle.cluster_types.specs.declared.journal.Action.TheVariants.{Probe}
use Rattle.cluster_types.specs.declared.journal.Event.{Event}
use Rattle.cluster_types.specs.declared.journal.Event.TheVariants.{Wait, Begin, Ended}
use Rattle.cluster_types.specs.declared.states.CellState.{CellState}
use Rattle.cluster_types.specs.declared.states.CellState.TheVariants as cell
use Rattle.cluster_types.specs.CellStates.{is_blocked, last_outcome, asks_for_block}
use Rattle.cluster_types.specs.Failures.{ended_at, failures_in_force, is_failure, is_forgotten, outcomes}
use Rattle.cluster_types.specs.Fields.{failure_timeout}
use Rattle.cluster_types.specs.Journals.{joined, last_sign, moment_of, seconds_of}
use Rattle.cluster_types.specs.NodeStates.{is_online, has_failure_to_fence, asks_for_fence}
use Rattle.cluster_types.specs.Pins.{is_pinned, is_unprobed_state}
use Rattle.cluster_types.specs.Steps.{Transition, journal}
use Rattle.cluster_types.specs.Tables.{Targets}
use Rattle.plan_laws.proofs.CellStates.{says_of, blocked_pins}
use Rattle.run_safety.proofs.Calm.{Calm}
use Rattle.run_safety.proofs.Carried.{HasNumber, Carries}
use Rattle.run_safety.proofs.Needing.{Done, state, probe_needed}
use Rattle.run_safety.proofs.Outcomes.{IsSeen, none_more, success_fails_not, seen_more, seen_here}
use Rattle.run_safety.proofs.Signs.{online_joined}
use Rattle.run_safety.proofs.Truths.{refuse}
use Rattle.run_safety.proofs.Turning.{turned, unturned}

-- what is forgotten stays forgotten
forgotten_later : (timeout now after : ℕ) (failures : List Event) → now ≤ after → is_forgotten timeout now failures ≡ true → is_forgotten timeout after failures ≡ true
forgotten_later timeout now after failures le h = by (nat_lt 0 timeout) (last_or None failures) h
  where
    by : (some : Bool) (o : Option Event) → some && option_map_or (λ e. nat_lt (1000 * ended_at e + timeout) (1000 * now)) o false ≡ true
        → some && option_map_or (λ e. nat_lt (1000 * ended_at e + timeout) (1000 * after)) o false ≡ true
    by false o h = cc
    by true None h = cc
    by true (Some e) h = grind (arith, nat_tests)

no_outcomes : (xs : List Event) → is_none (last_or None xs) ≡ true → xs ≡ []
no_outcomes [] h = refl
no_outcomes (x ∷ xs) h = absurd (never x xs h)
  where
    never : (x : Event) (xs : List Event) → is_none (last_or (Some x) xs) ≡ true → ⊥
    never x [] h = let f : ⊥ = cc in f
    never x (y ∷ ys) h = never y ys h

module _ (t : Transition) (since : List Event) (calm : Calm t since) where
  -- the failures in force are those of before
  pub failures_same : (r n : ℕ) → failures_in_force t.cluster r n (journal t since) ≡ failures_in_force t.cluster r n t.planned_at
  failures_same r n =
      unturned t (λ es. failures_in_force t.cluster r n es ≡ failures_in_force t.cluster r n t.planned_at)
      (λ es j y is same. none_more t.cluster r n es (Begin j y) refl refl ∙ same)
      (λ es j m y o is ok same. none_more t.cluster r n es (Ended j y o m) refl (success_fails_not t.cluster r n j m y o ok) ∙ same)
      (λ es s same. none_more t.cluster r n es (Wait s) refl refl ∙ same) since calm refl

  -- a node that was online and is still there is online
  pub online_still : (n : ℕ) → is_online t.cluster n t.planned_at ≡ true → last_sign n (journal t since) ≡ Some joined → is_online t.cluster n (journal t since) ≡ true
  online_still n was there = rw there (rw (blamed ∙ blameless) refl)
    where
      blamed : has_failure_to_fence t.cluster n (journal t since) ≡ has_failure_to_fence t.cluster n t.planned_at
      blamed =
          any-same (λ r. list_any (asks_for_fence t.cluster) (failures_in_force t.cluster r n (journal t since)))
          (λ r. list_any (asks_for_fence t.cluster) (failures_in_force t.cluster r n t.planned_at)) (length t.cluster.leaves)
          (λ r low. ap (list_any (asks_for_fence t.cluster)) (failures_same r n))

      blameless : has_failure_to_fence t.cluster n t.planned_at ≡ false
      blameless =
          false_from_ne_true (has_failure_to_fence t.cluster n t.planned_at) (λ e.
          both_ways (is_online t.cluster n t.planned_at) (rw (online_joined t.cluster n t.planned_at was) (rw e refl)) was)

  -- a cell that wasn't blocked isn't
  pub unblocked_still : (r n : ℕ) → is_blocked t.cluster r n t.planned_at ≡ false → is_blocked t.cluster r n (journal t since) ≡ false
  unblocked_still r n was = by (is_forgotten (failure_timeout t.cluster r) (moment_of t.planned_at) before) refl (is_forgotten (failure_timeout t.cluster r) (moment_of (journal t since)) before) refl
    where
      before : List Event
      before = failures_in_force t.cluster r n t.planned_at

      later : moment_of t.planned_at ≤ moment_of (journal t since)
      later = let sum = sum_by-append seconds_of t.planned_at since in omega (arith, sum)

      by : (f : Bool) → is_forgotten (failure_timeout t.cluster r) (moment_of t.planned_at) (failures_in_force t.cluster r n t.planned_at) ≡ f
          → (g : Bool) → is_forgotten (failure_timeout t.cluster r) (moment_of (journal t since)) (failures_in_force t.cluster r n t.planned_at) ≡ g
          → is_blocked t.cluster r n (journal t since) ≡ false
      by f e true g = rw (failures_same r n) (rw g refl)
      by false e false g = rw (failures_same r n) (rw g (rw e at was))
      by true e false g =
          refuse (is_forgotten (failure_timeout t.cluster r) (moment_of (journal t since)) (failures_in_force t.cluster r n t.planned_at)) g
          (forgotten_later (failure_timeout t.cluster r) (moment_of t.planned_at) (moment_of (journal t since)) (failures_in_force t.cluster r n t.planned_at) later e)

  module _ (targets : Targets) (carries : Carries t targets) (r n : ℕ) (h : r < length t.cluster.leaves) (l : n < length t.cluster.nodes)
      (free : is_pinned t.cluster t.planned_at r ≡ false) (online : is_online t.cluster n t.planned_at ≡ true) where
    -- what isn't pinned wasn't blocked
    pub unblocked : is_blocked t.cluster r n (journal t since) ≡ false
    unblocked = unblocked_still r n (by (state t r n) refl)
      where
        unseen : is_none (last_outcome t.cluster r n t.planned_at) ≡ true → is_blocked t.cluster r n t.planned_at ≡ false
        unseen none =
            let empty : outcomes t.cluster r n t.planned_at ≡ [] = no_outcomes (outcomes t.cluster r n t.planned_at) none in
            let no_failures : failures_in_force t.cluster r n t.planned_at ≡ [] = ap (filter is_failure) empty in
            rw no_failures (nothing (is_forgotten (failure_timeout t.cluster r) (moment_of t.planned_at) []))
          where
            nothing : (b : Bool) → option_map_or (asks_for_block t.cluster) (last_or None (if b then [] else [])) false ≡ false
            nothing true = refl
            nothing false = refl

        by : (s : CellState) → state t r n ≡ s → is_blocked t.cluster r n t.planned_at ≡ false
        by cell.Unprobed e = unseen (says_of t.cluster r n t.planned_at cell.Unprobed e).1
        by cell.Failed e = (says_of t.cluster r n t.planned_at cell.Failed e).2
        by cell.Promoted e = (says_of t.cluster r n t.planned_at cell.Promoted e).2
        by cell.On e = (says_of t.cluster r n t.planned_at cell.On e).2
        by cell.Off e = (says_of t.cluster r n t.planned_at cell.Off e).2
        by cell.Blocked e = refuse (is_pinned t.cluster t.planned_at r) free (blocked_pins t.cluster r n t.planned_at l (rw e refl))
        by cell.Away e = refuse (is_online t.cluster n t.planned_at) (says_of t.cluster r n t.planned_at cell.Away e) online

    -- something is known of the cell, once its probe has succeeded
    pub seen : Done t since (Probe r n) → IsSeen t.cluster r n (journal t since)
    seen probed = by (state t r n) refl
      where
        was : IsSeen t.cluster r n t.planned_at → IsSeen t.cluster r n (journal t since)
        was known =
            unturned t (IsSeen t.cluster r n) (λ es j y is known. seen_more t.cluster r n es (Begin j y) refl known)
            (λ es j m y o is ok known. seen_more t.cluster r n es (Ended j y o m) refl known)
            (λ es s known. seen_more t.cluster r n es (Wait s) refl known) since calm known

        asked : is_unprobed_state (state t r n) ≡ true → IsSeen t.cluster r n (journal t since)
        asked u =
            let number : HasNumber t (Probe r n) = carries.numbered (Probe r n) (probe_needed t targets r n h l u) in
            turned t (IsSeen t.cluster r n) number.number (Probe r n) number.is
            (λ es o m ok. seen_here t.cluster r n es (Ended number.number (Probe r n) o m) refl (rw (number_itself r) (rw (number_itself n) refl)))
            (λ es j y is known. inr (seen_more t.cluster r n es (Begin j y) refl known))
            (λ es j m y o is ok known. inr (seen_more t.cluster r n es (Ended j y o m) refl known))
            (λ es s known. seen_more t.cluster r n es (Wait s) refl known) since calm (probed number)

        by : (s : CellState) → state t r n ≡ s → IsSeen t.cluster r n (journal t since)
        by cell.Unprobed e = asked (rw e refl)
        by cell.Failed e = was (says_of t.cluster r n t.planned_at cell.Failed e).1
        by cell.Promoted e = was (says_of t.cluster r n t.planned_at cell.Promoted e).1
        by cell.On e = was (says_of t.cluster r n t.planned_at cell.On e).1
        by cell.Off e = was (says_of t.cluster r n t.planned_at cell.Off e).1
        by cell.Blocked e = refuse (is_pinned t.cluster t.planned_at r) free (blocked_pins t.cluster r n t.planned_at l (rw e refl))
        by cell.Away e = refuse (is_online t.cluster n t.planned_at) (says_of t.cluster r n t.planned_at cell.Away e) online
