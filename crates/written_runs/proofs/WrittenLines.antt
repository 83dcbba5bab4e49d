-- All lines of a run are of its cluster, and so they are read again.
use Rattle.std.proofs.Common.{arith, ◌≡◌, ◌<◌, ◌≤◌, ◌+◌, ◌^◌, Bool, Option, Some, List, [], ◌∷◌, ◌++◌, length, Contains, refl, subst}
use Rattle.std.specs.List.{AllByRecursion, flat_map}
use Rattle.lemmas.proofs.Members.{all_append}
use Rattle.cluster_types.specs.declared.cluster.Cluster.{Cluster}
use Rattle.cluster_types.specs.declared.journal.Action.{Action}
use Rattle.cluster_types.specs.declared.journal.Answer.{Answer}
use Rattle.cluster_types.specs.declared.journal.Event.{Event}
use Rattle.cluster_types.specs.declared.journal.Promotion.{Promotion}
use Rattle.cluster_types.specs.declared.run.RunLine.{RunLine}
use Rattle.cluster_types.specs.declared.run.RunLine.TheVariants as line
use Rattle.cluster_types.specs.Runs.{RunStanding, due, amid, idle, RunsOn, plans, goes, completes, aborts, answers, Runs, here, one_more}
use Rattle.cluster_types.specs.Steps.{Transition, idling}
use Rattle.cluster_types.specs.Tables.{targets_of}
use Rattle.cluster_types.specs.Texts.{event_lines, target_lines}
use Rattle.cluster_types.specs.Valid.{IsValid}
use Rattle.run_safety.specs.TwoRuns.{transition_number_at}
use Rattle.run_safety.proofs.Counted.{few_transitions}
use Rattle.input_reading.specs.PrintedLines.{IsActionOf, IsLineOf}
use Rattle.input_reading.specs.ResultFields.{AnswerFieldsFit}
use Rattle.written_runs.specs.Fitting.{AnswersFit, IntervalsFit}
use Rattle.written_runs.proofs.FewActions.{few_planned}
use Rattle.written_runs.proofs.PlannedActions.{needed_fits}
use Rattle.written_runs.proofs.StepLines.{answer_fits, behind_fits, front_fits, left_fits, said_fits, step_fits, step_leaves}
use Rattle.written_runs.proofs.TargetLines.{targets_fit}

-- a transition of the cluster, whose actions are numbered in 32 bits
record IsOf (c : Cluster) (t : Transition) : Type 0 where
  cluster : t.cluster ≡ c
  few : length t.actions < 2 ^ 32
  ours : (a : Action) → Contains t.actions a → IsActionOf t.cluster a

module _ (c : Cluster) (valid : IsValid c) (intervals : IntervalsFit c) (promotions : List Promotion) (whole : Bool) where
  -- where the run of a cluster may stand
  abbrev Stands : RunStanding → Type 0
  Stands (due k es) = 0 < k
  Stands (amid k t since) = (0 < k) × IsOf c t
  Stands (idle k es) = 0 < k

  still_stands : (at next : RunStanding) (rest left : Option (List Answer)) (lines : List RunLine) → RunsOn c promotions whole at rest lines next left → Stands at → Stands next
  still_stands _ _ rest _ _ (plans k es _ placed actions plan) low = (
    low,
    record {
      cluster = refl;
      few = few_planned c es promotions placed actions valid plan;
      ours = λ a h. needed_fits c valid intervals es (targets_of placed.table) a ((plan.numbered.needed a).0 h);
    },
  )
  still_stands _ _ rest left _ (goes k t since events _ _ step) stands = stands
  still_stands _ _ rest _ _ (completes k t since _ ended unaborted) stands = stands.0
  still_stands _ _ rest _ _ (aborts k t since _ ended aborted) stands = let low = stands.0 in omega arith
  still_stands _ _ rest left _ (answers k es _ _ given said applies) low = omega (arith, low)

  grows : (at next : RunStanding) (rest left : Option (List Answer)) (lines : List RunLine) → RunsOn c promotions whole at rest lines next left → transition_number_at at ≤ transition_number_at next
  grows _ _ rest _ _ (plans k es _ placed actions plan) = omega arith
  grows _ _ _ _ _ _ = omega arith

  grow : (at later : RunStanding) (rest left : Option (List Answer)) (lines : List RunLine) → Runs c promotions whole at rest lines later left → transition_number_at at ≤ transition_number_at later
  grow at _ rest _ _ (here _ _) = omega arith
  grow at later rest left _ (one_more _ next _ _ middle _ lines more step runs) =
      let first = grows at next rest middle lines step in
      let then = grow next later middle left more runs in
      omega arith

  prints : (at next : RunStanding) (rest left : Option (List Answer)) (lines : List RunLine) → RunsOn c promotions whole at rest lines next left → Stands at → AnswersFit rest lines
      → transition_number_at next < 2 ^ 32 → AllByRecursion (IsLineOf c) lines
  prints _ _ rest _ _ (plans k es _ placed actions plan) low fit few = (record { low = low; high = few }, targets_fit c valid es promotions placed plan.goals)
  prints _ _ rest left _ (goes k t since events _ _ step) stands fit few =
      let of = stands.1 in
      subst (λ z. AllByRecursion (IsLineOf z) (flat_map event_lines events)) of.cluster (step_fits t since of.few of.ours whole events rest left step fit)
  prints _ _ rest _ _ (completes k t since _ ended unaborted) stands fit few = (record { low = stands.0; high = few }, tt)
  prints _ _ rest _ _ (aborts k t since _ ended aborted) stands fit few = (record { low = stands.0; high = omega (arith, few) }, tt)
  prints _ _ rest left _ (answers k es _ _ given said applies) low fit few =
      (answer_fits (idling c es) [] (omega arith) given applies (said_fits whole rest left (Some given) said given refl fit), tt)

  leaves : (at next : RunStanding) (rest left : Option (List Answer)) (lines : List RunLine) → RunsOn c promotions whole at rest lines next left → Stands at → (more : List RunLine)
      → AnswersFit rest (lines ++ more) → AnswersFit left more
  leaves _ _ rest _ _ (plans k es _ placed actions plan) low more fit =
      behind_fits rest (line.Transition k ∷ target_lines c placed.pins (targets_of placed.table) placed.none) more fit
  leaves _ _ rest left _ (goes k t since events _ _ step) stands more fit =
      let of = stands.1 in step_leaves t since of.few of.ours whole events rest left step more fit
  leaves _ _ rest _ _ (completes k t since _ ended unaborted) stands more fit = behind_fits rest (line.Complete k ∷ []) more fit
  leaves _ _ rest _ _ (aborts k t since _ ended aborted) stands more fit = behind_fits rest (line.Aborted k ∷ []) more fit
  leaves _ _ rest left _ (answers k es _ _ given said applies) low more fit = left_fits whole rest left (Some given) said (line.Taken given ∷ []) more fit

  all_written : (at later : RunStanding) (rest left : Option (List Answer)) (lines : List RunLine) → Runs c promotions whole at rest lines later left → Stands at → AnswersFit rest lines
      → transition_number_at later < 2 ^ 32 → AllByRecursion (IsLineOf c) lines
  all_written at _ rest _ _ (here _ _) stands fit few = tt
  all_written at later rest left _ (one_more _ next _ _ middle _ lines more step runs) stands fit few =
      let up = grow next later middle left more runs in
      all_append (IsLineOf c) lines more (prints at next rest middle lines step stands (front_fits rest lines more fit) (omega (arith, up, few)))
      (all_written next later middle left more runs (still_stands at next rest middle lines step stands) (leaves at next rest middle lines step stands more fit) few)

  -- from the first transition on
  pub run_written : (es : List Event) (at : RunStanding) (rest left : Option (List Answer)) (lines : List RunLine) → Runs c promotions whole (due 1 es) rest lines at left
      → AnswersFit rest lines → transition_number_at at < 2 ^ 32 → AllByRecursion (IsLineOf c) lines
  run_written es at rest left lines runs fit few = all_written (due 1 es) at rest left lines runs (omega arith) fit few

  -- where the answers to come are told, there are no more transitions than answers, and one
  pub told_written : (es : List Event) (at : RunStanding) (given : List Answer) (left : Option (List Answer)) (lines : List RunLine)
      → Runs c promotions whole (due 1 es) (Some given) lines at left → AllByRecursion AnswerFieldsFit given → length given + 1 < 2 ^ 32 → AllByRecursion (IsLineOf c) lines
  told_written es at given left lines runs fit few =
      let most = few_transitions c promotions whole es (Some given) left lines tt at runs in
      run_written es at (Some given) left lines runs fit (omega (arith, most, few))
