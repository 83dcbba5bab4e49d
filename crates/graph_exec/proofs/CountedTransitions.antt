-- How many transitions a run has begun, told from its lines.
use Rattle.std.proofs.Common.{◌≡◌, ◌≤◌, ◌+◌, ℕ, zero, Bool, List, [], ◌∷◌, ◌++◌, length, slice_get, refl, arith}
use Rattle.std.specs.Prelude.{Option, Some, None, unwrap_or}
use Rattle.std.specs.List.{flat_map, range_with_len}
use Rattle.lemmas.proofs.Counts.{count-append, count-cons}
use Rattle.cluster_types.specs.declared.cluster.Cluster.{Cluster}
use Rattle.cluster_types.specs.declared.journal.Action.TheVariants.{Operation}
use Rattle.cluster_types.specs.declared.journal.Answer.{Answer}
use Rattle.cluster_types.specs.declared.journal.Event.{Event}
use Rattle.cluster_types.specs.declared.journal.Event.TheVariants.{Begin, Ended}
use Rattle.cluster_types.specs.declared.journal.Outcome.TheVariants.{Code, TimedOut, Gone}
use Rattle.cluster_types.specs.declared.journal.Promotion.{Promotion}
use Rattle.cluster_types.specs.declared.leaf.Op.TheVariants.{Monitor}
use Rattle.cluster_types.specs.declared.placement.NoReason.{NoReason}
use Rattle.cluster_types.specs.declared.placement.Pin.{Pin}
use Rattle.cluster_types.specs.declared.placement.Target.{Target}
use Rattle.cluster_types.specs.declared.placement.Target.TheVariants as target
use Rattle.cluster_types.specs.declared.run.Passed.{Passed}
use Rattle.cluster_types.specs.declared.run.PassedEnd.{PassedEnd}
use Rattle.cluster_types.specs.declared.run.PassedEnd.TheVariants.{Complete, Aborted, Cut}
use Rattle.cluster_types.specs.declared.run.RunLine.{RunLine}
use Rattle.cluster_types.specs.declared.run.RunLine.TheVariants as line
use Rattle.cluster_types.specs.Runs.{RunStanding, due, amid, idle, RunsOn, plans, goes, completes, aborts, answers, Runs, here, one_more}
use Rattle.cluster_types.specs.Tables.{targets_of}
use Rattle.cluster_types.specs.Texts.{all_passed_lines, begin_of, between, end_lines, event_lines, goal_lines, lacking_lines, leaf_lines, passed_lines, pin_lines, target_lines}
use Rattle.run_safety.specs.TwoRuns.{transition_number_at}
use Rattle.graph_exec.specs.WatcherLines.{begins_transition, transitions_in}

-- the number of the transition that is planned next
abbrev pub next_number : RunStanding → ℕ
next_number (due k es) = k
next_number (amid k t since) = k + 1
next_number (idle k es) = k + 1

number_within : (at : RunStanding) → next_number at ≤ transition_number_at at + 1
number_within (due k es) = omega arith
number_within (amid k t since) = omega arith
number_within (idle k es) = omega arith

flat_none : {X : Type 0} (f : X → List RunLine) → ((x : X) → transitions_in (f x) ≡ 0) → (xs : List X) → transitions_in (flat_map f xs) ≡ 0
flat_none f none [] = refl
flat_none f none (x ∷ xs) =
    let e = count-append begins_transition (f x) (flat_map f xs) in let first = none x in let more = flat_none f none xs in omega arith

event_none : (e : Event) → transitions_in (event_lines e) ≡ 0
event_none (Begin k a) = refl
event_none (Ended zero (Operation Monitor r n interval role) (Code code) moment) = refl
event_none (Ended k a (Code code) moment) = refl
event_none (Ended k a TimedOut moment) = refl
event_none (Ended k a Gone moment) = refl
event_none _ = refl

module _ (c : Cluster) where
  pin_none : (r : ℕ) (pin : Option Pin) → transitions_in (pin_lines c r pin) ≡ 0
  pin_none r None = refl
  pin_none r (Some pin) = refl

  goal_none : (r n : ℕ) (goal : Target) → transitions_in (goal_lines c r n goal) ≡ 0
  goal_none r n target.Nowhere = refl
  goal_none r n target.Started = refl
  goal_none r n target.Promoted = refl

  lacking_none : (r : ℕ) (reason : Option NoReason) → transitions_in (lacking_lines c r reason) ≡ 0
  lacking_none r None = refl
  lacking_none r (Some reason) = refl

  leaf_none : (pins : List (Option Pin)) (goals : ℕ → ℕ → Target) (reasons : List (Option NoReason)) (r : ℕ) → transitions_in (leaf_lines c pins goals reasons r) ≡ 0
  leaf_none pins goals reasons r =
      let pinned = pin_lines c r (unwrap_or (slice_get pins r) None) in
      let placed = flat_map (λ n. goal_lines c r n (goals r n)) (range_with_len 0 (length c.nodes)) in
      let lacking = lacking_lines c r (unwrap_or (slice_get reasons r) None) in
      let all = count-append begins_transition (pinned ++ placed) lacking in
      let front = count-append begins_transition pinned placed in
      let first = pin_none r (unwrap_or (slice_get pins r) None) in
      let middle = flat_none (λ n. goal_lines c r n (goals r n)) (λ n. goal_none r n (goals r n)) (range_with_len 0 (length c.nodes)) in
      let last = lacking_none r (unwrap_or (slice_get reasons r) None) in
      omega arith

  target_none : (pins : List (Option Pin)) (goals : ℕ → ℕ → Target) (reasons : List (Option NoReason)) → transitions_in (target_lines c pins goals reasons) ≡ 0
  target_none pins goals reasons = flat_none (leaf_lines c pins goals reasons) (leaf_none pins goals reasons) (range_with_len 0 (length c.leaves))

  events_none : (es : List Event) → transitions_in (flat_map event_lines es) ≡ 0
  events_none es = flat_none event_lines event_none es

  end_none : (k : ℕ) (end : PassedEnd) → transitions_in (end_lines c k end) ≡ 0
  end_none k Complete = refl
  end_none k Aborted = refl
  end_none k Cut = refl

  -- a transition that is kept has one such line
  passed_one : (es : List Event) (k : ℕ) (p : Passed) → transitions_in (passed_lines c es k p) ≡ 1
  passed_one es k p =
      let goals = target_lines c p.pins (targets_of p.table) p.none in
      let told = flat_map event_lines (between p.begins_at p.ends_at es) in
      let head = count-cons begins_transition (line.Transition k) goals in
      let all = count-append begins_transition ((line.Transition k ∷ goals) ++ told) (end_lines c k p.end) in
      let front = count-append begins_transition (line.Transition k ∷ goals) told in
      let none = target_none p.pins (targets_of p.table) p.none in
      let silent = events_none (between p.begins_at p.ends_at es) in
      let end = end_none k p.end in
      omega arith

  pub passed_counted : (es : List Event) (k : ℕ) (passed : List Passed) → transitions_in (all_passed_lines c es k passed) ≡ length passed
  passed_counted es k [] = refl
  passed_counted es k (p ∷ more) =
      let told = flat_map event_lines (between p.ends_at (begin_of c es more) es) in
      let later = all_passed_lines c es (k + 1) more in
      let all = count-append begins_transition (passed_lines c es k p ++ told) later in
      let front = count-append begins_transition (passed_lines c es k p) told in
      let one = passed_one es k p in
      let silent = events_none (between p.ends_at (begin_of c es more) es) in
      let rest = passed_counted es (k + 1) more in
      omega arith

  module _ (promotions : List Promotion) (whole : Bool) where
    step_counted : (at next : RunStanding) (rest left : Option (List Answer)) (lines : List RunLine) → RunsOn c promotions whole at rest lines next left
        → next_number next ≡ next_number at + transitions_in lines
    step_counted _ _ rest _ _ (plans k es _ placed actions plan) =
        let goals = target_lines c placed.pins (targets_of placed.table) placed.none in
        let head = count-cons begins_transition (line.Transition k) goals in
        let none = target_none placed.pins (targets_of placed.table) placed.none in
        omega arith
    step_counted _ _ rest left _ (goes k t since events _ _ step) = let none = events_none events in omega arith
    step_counted _ _ rest _ _ (completes k t since _ ended unaborted) = omega arith
    step_counted _ _ rest _ _ (aborts k t since _ ended aborted) = omega arith
    step_counted _ _ rest left _ (answers k es _ _ given said applies) = omega arith

    pub runs_counted : (at later : RunStanding) (rest left : Option (List Answer)) (lines : List RunLine) → Runs c promotions whole at rest lines later left
        → next_number later ≡ next_number at + transitions_in lines
    runs_counted at _ rest _ _ (here _ _) = omega arith
    runs_counted at later rest left _ (one_more _ next _ _ middle _ lines more step runs) =
        let both = count-append begins_transition lines more in
        let first = step_counted at next rest middle lines step in
        let then = runs_counted next later middle left more runs in
        omega arith

    -- a step comes no further than to where the next transition is due
    step_within : (at next : RunStanding) (rest left : Option (List Answer)) (lines : List RunLine) → RunsOn c promotions whole at rest lines next left
        → next_number next ≡ transition_number_at at + 1
    step_within _ _ rest _ _ (plans k es _ placed actions plan) = refl
    step_within _ _ rest left _ (goes k t since events _ _ step) = refl
    step_within _ _ rest _ _ (completes k t since _ ended unaborted) = refl
    step_within _ _ rest _ _ (aborts k t since _ ended aborted) = refl
    step_within _ _ rest left _ (answers k es _ _ given said applies) = refl

    -- a run from the first transition on
    module _ (es : List Event) (rest left : Option (List Answer)) (lines : List RunLine) where
      pub few_made : (most : ℕ) (journal : List Event) → Runs c promotions whole (due 1 es) rest lines (due (most + 1) journal) left → transitions_in lines ≤ most
      few_made most journal runs = let counted = runs_counted (due 1 es) (due (most + 1) journal) rest left lines runs in omega arith

      -- it hasn't come behind the transition of a number that is allowed
      module _ (number most : ℕ) (allowed : number ≤ most) where
        pub few_begin : (at : RunStanding) → Runs c promotions whole (due 1 es) rest lines at left → transition_number_at at ≤ number → transitions_in lines ≤ most
        few_begin at runs few =
            let counted = runs_counted (due 1 es) at rest left lines runs in
            let within = number_within at in
            omega (arith, counted, within, few, allowed)

        pub few_begin_on : (at next : RunStanding) (middle : Option (List Answer)) (call : List RunLine) → Runs c promotions whole (due 1 es) rest lines at middle
            → RunsOn c promotions whole at middle call next left → transition_number_at at ≤ number → transitions_in (lines ++ call) ≤ most
        few_begin_on at next middle call runs step few =
            let counted = runs_counted (due 1 es) at rest middle lines runs in
            let more = step_counted at next middle left call step in
            let within = step_within at next middle left call step in
            let both = count-append begins_transition lines call in
            omega (arith, counted, more, within, both, few, allowed)
