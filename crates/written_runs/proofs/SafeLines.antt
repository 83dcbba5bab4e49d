-- The lines of a run are safe by themselves.
use Rattle.std.proofs.Common.{◌≡◌, ◌+◌, ℕ, Bool, Option, None, List, [], ◌∷◌, ◌++◌, append-nil, refl, sym, ◌∙◌, subst}
use Rattle.std.specs.List.{AllByRecursion, flat_map}
use Rattle.std.proofs.lemmas.Bool.{eq-eqb}
use Rattle.std.proofs.lemmas.Option.{IfSome_then}
use Rattle.cluster_types.specs.declared.cluster.Cluster.{Cluster}
use Rattle.cluster_types.specs.declared.journal.Action.{Action}
use Rattle.cluster_types.specs.declared.journal.Action.TheVariants.{MigrateTo, MigrateFrom}
use Rattle.cluster_types.specs.declared.journal.Answer.{Answer}
use Rattle.cluster_types.specs.declared.journal.Answer.TheVariants as answer
use Rattle.cluster_types.specs.declared.journal.Event.{Event}
use Rattle.cluster_types.specs.declared.journal.Event.TheVariants.{Begin}
use Rattle.cluster_types.specs.declared.journal.Promotion.{Promotion}
use Rattle.cluster_types.specs.declared.leaf.Op.TheVariants as op
use Rattle.cluster_types.specs.declared.run.RunLine.{RunLine}
use Rattle.cluster_types.specs.declared.run.RunLine.TheVariants as line
use Rattle.cluster_types.specs.AnswersThatApply.{is_number_of}
use Rattle.cluster_types.specs.Journals.{in_flight_by_begin}
use Rattle.cluster_types.specs.Plans.{transition_of}
use Rattle.cluster_types.specs.Precedence.{op_cell}
use Rattle.cluster_types.specs.Runs.{RunStanding, due, amid, idle, RunsOn, plans, goes, completes, aborts, answers, Runs, here, journal_at}
use Rattle.cluster_types.specs.Safety.{IsSafe, IsSafeRun}
use Rattle.cluster_types.specs.Steps.{Transition, GoesBySteps, StepsOn, here as none_yet, begins, takes, is_silent, answer_events, journal, idling, silent_code}
use Rattle.cluster_types.specs.Tables.{targets_of}
use Rattle.cluster_types.specs.Texts.{event_lines, target_lines}
use Rattle.cluster_types.proofs.SourceLaws.{goes-more, step-untold}
use Rattle.run_safety.proofs.Along.{along}
use Rattle.run_safety.proofs.InFlight.{among_flying}
use Rattle.run_safety.proofs.Printed.{answer_line, end_line}
use Rattle.run_safety.proofs.Rests.{none_flies}
use Rattle.run_safety.proofs.SoFar.{runs_more}
use Rattle.written_runs.specs.OverLines.{AreLinesSafe, IsSafeBegin, LinesTell}
use Rattle.written_runs.proofs.Telling.{IsOfPlanning, nothing_told, plan_lines, tell_more, told_idle, told_step}

module _ (c : Cluster) (promotions : List Promotion) (whole : Bool) (first : List Event) (rest : Option (List Answer)) (at_first : in_flight_by_begin first ≡ []) where
  -- amid a transition, it went on from a plan for a journal with nothing in flight
  data UnderWay : RunStanding → Type 0 where
    is_due : (k : ℕ) (es : List Event) → UnderWay (due k es)
    is_idle : (k : ℕ) (es : List Event) → UnderWay (idle k es)
    went_on : (k : ℕ) (es : List Event) (actions : List Action) (since : List Event) → in_flight_by_begin es ≡ []
        → GoesBySteps (transition_of c es actions) whole [] None since None → UnderWay (amid k (transition_of c es actions) since)

  -- what the lines up to a place of the run tell
  record Told (at : RunStanding) (left : Option (List Answer)) (lines : List RunLine) : Type 0 where
    runs : Runs c promotions whole (due 1 first) rest lines at left
    under : UnderWay at
    told : LinesTell c first lines (journal_at at)

  goes_told : (k : ℕ) (t : Transition) (since events : List Event) (behind left : Option (List Answer)) (before : List RunLine) → UnderWay (amid k t since)
      → StepsOn t whole since behind events left → LinesTell c first before (journal t since)
      → UnderWay (amid k t (since ++ events)) × LinesTell c first (before ++ flat_map event_lines events) (journal t (since ++ events))
  goes_told _ _ _ events behind left before (went_on k es actions since none so_far) step told =
      let t = transition_of c es actions in (
        went_on k es actions (since ++ events) none (goes-more t whole [] since events None None None so_far (step-untold t whole since events behind left step)),
        tell_more c first (journal t since) (journal t (since ++ events)) before (flat_map event_lines events) told (told_step t none whole since so_far events behind left step),
      )

  one_told : (at next : RunStanding) (behind left : Option (List Answer)) (before lines : List RunLine) → RunsOn c promotions whole at behind lines next left
      → Told at behind before → Told next left (before ++ lines)
  one_told at next behind left before lines step so_far =
      record { runs = runs_more c promotions whole (due 1 first) at next rest behind left before lines so_far.runs step; under = (by at next behind left lines step so_far).0; told = (by at next behind left lines step so_far).1 }
    where
      by : (at next : RunStanding) (behind left : Option (List Answer)) (lines : List RunLine) → RunsOn c promotions whole at behind lines next left
          → Told at behind before → UnderWay next × LinesTell c first (before ++ lines) (journal_at next)
      by _ _ behind _ _ (plans k es _ placed actions plan) so_far = (
        went_on k es actions [] (none_flies c promotions whole first (due k es) rest behind before at_first so_far.runs tt) (none_yet [] None),
        tell_more c first es (es ++ []) before (line.Transition k ∷ target_lines c placed.pins (targets_of placed.table) placed.none) so_far.told
            (subst (λ z. LinesTell c es (line.Transition k ∷ target_lines c placed.pins (targets_of placed.table) placed.none) z) (sym (append-nil es))
            (nothing_told c es (line.Transition k ∷ target_lines c placed.pins (targets_of placed.table) placed.none) (plan_lines c placed.pins (targets_of placed.table) placed.none k))),
      )
      by _ _ behind left _ (goes k t since events _ _ step) so_far = goes_told k t since events behind left before so_far.under step so_far.told
      by _ _ behind _ _ (completes k t since _ over unaborted) so_far =
          (is_idle k (journal t since), tell_more c first (journal t since) (journal t since) before (line.Complete k ∷ []) so_far.told refl)
      by _ _ behind _ _ (aborts k t since _ over aborted) so_far =
          (is_due (k + 1) (journal t since), tell_more c first (journal t since) (journal t since) before (line.Aborted k ∷ []) so_far.told refl)
      by _ _ behind left _ (answers k es _ _ given said applies) so_far = (
        is_due (k + 1) (es ++ answer_events (idling c es) [] given),
        tell_more c first es (es ++ answer_events (idling c es) [] given) before (line.Taken given ∷ []) so_far.told
            (told_idle c es (none_flies c promotions whole first (idle k es) rest behind before at_first so_far.runs tt) given),
      )

  told_first : Told (due 1 first) rest []
  told_first = record { runs = here (due 1 first) rest; under = is_due 1 first; told = refl }

  pub told_run : (at : RunStanding) (left : Option (List Answer)) (lines : List RunLine) → Runs c promotions whole (due 1 first) rest lines at left
      → LinesTell c first lines (journal_at at)
  told_run at left lines runs = (along c promotions whole Told one_told (due 1 first) at rest left [] lines runs told_first).told

-- a line that stands in two lists that are joined stands in the one or in the other
split_lines : {R : Type 0} (xs ys before after : List RunLine) (l : RunLine) → xs ++ ys ≡ before ++ l ∷ after
    → ((rest : List RunLine) → xs ≡ before ++ l ∷ rest → R) → ((front : List RunLine) → before ≡ xs ++ front → ys ≡ front ++ l ∷ after → R) → R
split_lines [] ys before after l q left right = right before refl q
split_lines (x ∷ xs) ys [] after l q left right = left xs (let same : x ≡ l = cc in cc)
split_lines (x ∷ xs) ys (b ∷ bs) after l q left right =
    let head : x ≡ b = cc in
    let tail : xs ++ ys ≡ bs ++ l ∷ after = cc in
    split_lines xs ys bs after l tail (λ rest p. left rest (let g : x ∷ xs ≡ b ∷ (bs ++ l ∷ rest) = cc in g))
    (λ front p r. right front (let g : b ∷ bs ≡ x ∷ (xs ++ front) = cc in g) r)

-- no begin stands among the lines of a plan, nor where an answer alone stands
none_planned : {R : Type 0} (lines front after : List RunLine) (k : ℕ) (a : Action) → AllByRecursion IsOfPlanning lines → lines ≡ front ++ line.Begin k a ∷ after → R
none_planned [] [] after k a h e = absurd (let f : ⊥ = cc in f)
none_planned [] (x ∷ front) after k a h e = absurd (let f : ⊥ = cc in f)
none_planned (l ∷ lines) [] after k a h e = let same : l ≡ line.Begin k a = cc in absurd (subst IsOfPlanning same h.0)
none_planned (l ∷ lines) (x ∷ front) after k a h e = none_planned lines front after k a h.1 (let tail : lines ≡ front ++ line.Begin k a ∷ after = cc in tail)

none_taken : {R : Type 0} (given : Answer) (front after : List RunLine) (k : ℕ) (a : Action) → line.Taken given ∷ [] ≡ front ++ line.Begin k a ∷ after → R
none_taken given [] after k a e = absurd (let f : ⊥ = cc in f)
none_taken given (x ∷ []) after k a e = absurd (let f : ⊥ = cc in f)
none_taken given (x ∷ y ∷ front) after k a e = absurd (let f : ⊥ = cc in f)

begun_alone : {R : Type 0} (k j : ℕ) (a b : Action) (front after : List RunLine) → line.Begin k a ∷ [] ≡ front ++ line.Begin j b ∷ after → (front ≡ [] → a ≡ b → R) → R
begun_alone k j a b [] after e f = f refl cc
begun_alone k j a b (x ∷ []) after e f = absurd (let g : ⊥ = cc in g)
begun_alone k j a b (x ∷ y ∷ front) after e f = absurd (let g : ⊥ = cc in g)

module _ (c : Cluster) (promotions : List Promotion) (whole : Bool) (first : List Event) (rest : Option (List Answer)) (at_first : in_flight_by_begin first ≡ [])
    (safe : IsSafeRun c promotions whole first rest) where
  -- what the lines tell, and that they are safe
  record ToldSafe (at : RunStanding) (left : Option (List Answer)) (lines : List RunLine) : Type 0 where
    told : Told c promotions whole first rest at_first at left lines
    are_safe : AreLinesSafe c first lines

  safe_begin : (es : List Event) (actions : List Action) (since : List Event) (k : ℕ) (a : Action) (before : List RunLine)
      → LinesTell c first before (journal (transition_of c es actions) since) → IsSafe (transition_of c es actions) (since ++ Begin k a ∷ [])
      → IsSafeBegin c first before a
  safe_begin es actions since k a before told is = record {
    copies_at_start = IfSome_then (op_cell op.Start a) (is.copies since [] k a refl).0 (λ at fewer. record { journal = journal (transition_of c es actions) since; told = told; holds = fewer });
    copies_at_promote = IfSome_then (op_cell op.Promote a) (is.copies since [] k a refl).1 (λ at fewer. record { journal = journal (transition_of c es actions) since; told = told; holds = fewer });
    promoted_copies = IfSome_then (op_cell op.Promote a) (is.promotions since [] k a refl) (λ at fewer. record { journal = journal (transition_of c es actions) since; told = told; holds = fewer });
    alone = record { journal = journal (transition_of c es actions) since; told = told; holds = is.migrations since [] k a refl };
    apart = record { journal = journal (transition_of c es actions) since; told = told; holds = λ col among apart. is.neighbours since [] k a refl col among apart };
  }

  goes_safe : (k : ℕ) (t : Transition) (since events : List Event) (behind left : Option (List Answer)) (before front after : List RunLine) (j : ℕ) (b : Action)
      → UnderWay c promotions whole first rest at_first (amid k t since) → StepsOn t whole since behind events left → LinesTell c first before (journal t since) → IsSafe t (since ++ events)
      → flat_map event_lines events ≡ front ++ line.Begin j b ∷ after → IsSafeBegin c first (before ++ front) b
  goes_safe _ _ _ _ behind _ before front after j b (went_on k es actions since none so_far) (begins _ i a begin) told is e =
      begun_alone i j a b front after e (λ none_before same.
      subst (λ z. IsSafeBegin c first (before ++ z) b) (sym none_before)
      (subst (λ z. IsSafeBegin c first z b) (sym (append-nil before))
      (subst (λ z. IsSafeBegin c first before z) same (safe_begin es actions since i a before told is))))
  goes_safe _ _ _ _ behind left before front after j b (went_on k es actions since none so_far) (takes _ _ given said taken) told is e =
      none_taken given front after j b (sym (answer_line (transition_of c es actions) since given taken.applies) ∙ e)
  goes_safe _ _ _ _ behind left before front after j b (went_on k es actions since none so_far) (is_silent _ _ i a said ends) told is e =
      let t = transition_of c es actions in
      none_taken (answer.End i (silent_code a)) front after j b
      (sym (end_line t since i (silent_code a) (among_flying t since i a (is_number_of i) (eq-eqb i i refl) ends.action ends.in_flight)) ∙ e)

  one_safe : (at next : RunStanding) (behind left : Option (List Answer)) (before lines : List RunLine) → RunsOn c promotions whole at behind lines next left
      → ToldSafe at behind before → ToldSafe next left (before ++ lines)
  one_safe at next behind left before lines step so_far =
      let told = one_told c promotions whole first rest at_first at next behind left before lines step so_far.told in
      record {
        told = told;
        are_safe = λ b after k a q. split_lines before lines b after (line.Begin k a) q (λ more p. so_far.are_safe b more k a p)
            (λ front p r. subst (λ z. IsSafeBegin c first z a) (sym p) (by at next behind left lines step so_far.told told front after k a r));
      }
    where
      by : (at next : RunStanding) (behind left : Option (List Answer)) (lines : List RunLine) → RunsOn c promotions whole at behind lines next left
          → Told c promotions whole first rest at_first at behind before → Told c promotions whole first rest at_first next left (before ++ lines) → (front after : List RunLine) (j : ℕ) (b : Action) → lines ≡ front ++ line.Begin j b ∷ after
          → IsSafeBegin c first (before ++ front) b
      by _ _ behind _ _ (plans k es _ placed actions plan) old new front after j b e =
          none_planned (line.Transition k ∷ target_lines c placed.pins (targets_of placed.table) placed.none) front after j b (plan_lines c placed.pins (targets_of placed.table) placed.none k) e
      by _ _ behind left _ (goes k t since events _ _ step) old new front after j b e =
          goes_safe k t since events behind left before front after j b old.under step old.told (safe (amid k t (since ++ events)) (before ++ flat_map event_lines events) left new.runs).1 e
      by _ _ behind _ _ (completes k t since _ over unaborted) old new front after j b e = none_planned (line.Complete k ∷ []) front after j b (tt, tt) e
      by _ _ behind _ _ (aborts k t since _ over aborted) old new front after j b e = none_planned (line.Aborted k ∷ []) front after j b (tt, tt) e
      by _ _ behind left _ (answers k es _ _ given said applies) old new front after j b e = none_taken given front after j b e

  no_begin_yet : AreLinesSafe c first []
  no_begin_yet before after k a q = none_planned [] before after k a tt q

  pub safe_lines : (at : RunStanding) (left : Option (List Answer)) (lines : List RunLine) → Runs c promotions whole (due 1 first) rest lines at left → AreLinesSafe c first lines
  safe_lines at left lines runs =
      (along c promotions whole ToldSafe one_safe (due 1 first) at rest left [] lines runs
      (record { told = told_first c promotions whole first rest at_first; are_safe = no_begin_yet })).are_safe
