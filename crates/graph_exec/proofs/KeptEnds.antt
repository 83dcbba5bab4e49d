-- What comes of a question while nothing is to be done, and how a run ends, where it is kept.
use Rattle.std.proofs.Common.{arith, ◌≡◌, ◌<◌, ◌≤◌, ◌+◌, ℕ, Bool, true, false, List, [], ◌∷◌, ◌++◌, length, append-nil, refl, sym, ap, ◌∙◌, subst}
use Rattle.std.specs.Prelude.{Option, Some, None, Result, Ok, Err}
use Rattle.std.specs.List.{AllByRecursion, flat_map}
use Rattle.lemmas.proofs.Booleans.{fails_too}
use Rattle.cluster_types.specs.declared.cluster.Cluster.{Cluster}
use Rattle.cluster_types.specs.declared.journal.Answer.{Answer}
use Rattle.cluster_types.specs.declared.journal.Event.{Event}
use Rattle.cluster_types.specs.declared.journal.Journal.{Journal}
use Rattle.cluster_types.specs.declared.journal.Promotion.{Promotion}
use Rattle.cluster_types.specs.declared.run.Passed.{Passed}
use Rattle.cluster_types.specs.declared.run.Run.{Run}
use Rattle.cluster_types.specs.declared.run.RunLine.{RunLine}
use Rattle.cluster_types.specs.declared.run.RunLine.TheVariants as line
use Rattle.cluster_types.specs.Journals.{Orderly}
use Rattle.cluster_types.specs.Runs.{RunStanding, due, idle, answers, Runs, here, journal_at}
use Rattle.cluster_types.specs.Safety.{IsAtRest, IsSafeRun}
use Rattle.cluster_types.specs.Sources.{Says, told}
use Rattle.cluster_types.specs.Steps.{Applies, answer_events, idling}
use Rattle.cluster_types.specs.Texts.{all_passed_lines, event_lines}
use Rattle.graph_exec.specs.KnownJournals.{KnownJournalOf}
use Rattle.graph_exec.specs.SourceDuties.{TakesAnswers}
use Rattle.graph_exec.proofs.Said.{taken_one}
use Rattle.run_safety.specs.KeptLines.{AreWithin}
use Rattle.run_safety.proofs.Kept.{between_passed}
use Rattle.run_safety.proofs.Printed.{answer_line}
use Rattle.run_safety.proofs.Rests.{at_rest, in_order}
use Rattle.run_safety.proofs.SoFar.{runs_joined, runs_once}
use Rattle.graph_exec.specs.declared.run.stop.ReplayStop.{ReplayStop}
use Rattle.graph_exec.specs.declared.run.stop.ReplayStop.TheVariants as stop
use Rattle.graph_exec.specs.Inner.KeptTransitions.{IsUnanswered, KeepsEnd, KeepsPassed, KeepsTo, TookIdle, kept_end}
use Rattle.graph_exec.specs.KeptRuns.{IsPassedOfPlan, KeepsAs, KeepsPlans}
use Rattle.graph_exec.specs.Replays.{Setting, AgreesWith, IsReplayExpected, IsJournalKept, OfMade}
use Rattle.graph_exec.specs.Inner.Turns.{IsSaid, journal_back, plain_of}
use Rattle.graph_exec.proofs.Joined.{said_none, said_then}
use Rattle.graph_exec.proofs.KeptPlans.{each_more, within_each}
use Rattle.graph_exec.proofs.Quiet.{stays_said}
use Rattle.graph_exec.proofs.Whole.{events_in}

-- events behind the last of some transitions add their lines
lines_behind : (c : Cluster) (es ys : List Event) (passed : List Passed) → 0 < length passed → AreWithin (length es) passed
    → all_passed_lines c (es ++ ys) 1 passed ≡ all_passed_lines c es 1 passed ++ flat_map event_lines ys
lines_behind c es ys [] some within = absurd (let f : ⊥ = omega arith in f)
lines_behind c es ys (p ∷ ps) some within = between_passed es ys c 1 p ps within

module _ (s : Setting) (es : List Event) (first : Option (List Answer)) where
  -- nothing is said of what was said
  unsaid : (rest : Option (List Answer)) (over : Bool) (passed : List Passed) (at : RunStanding) → KeepsPassed s es first rest over passed at → KeepsPassed s es first rest true passed at
  unsaid rest over passed at keeps = record { runs = keeps.runs; said = λ steady open_still. absurd (let f : ⊥ = cc in f); each = keeps.each }

  module _ (rest left : Option (List Answer)) (over : Bool) (passed : List Passed) (k : ℕ) (j : KnownJournalOf) (same : j.cluster ≡ s.cluster)
      (keeps : KeepsPassed s es first rest over passed (idle k j.events)) where
    -- an answer is entered
    pub kept_answered : (over_now : Bool) → (s.steady ≡ true → over ≡ true → over_now ≡ true) → 0 < length passed → (given : Answer) → Says s.whole rest (Some given) left
        → (next : KnownJournalOf) → TookIdle j next given → KeepsPassed s es first left over_now passed (due (k + 1) next.events)
    kept_answered over_now stays some given said next took =
        let applies = subst (λ (c : Cluster). Applies (idling c j.events) [] given) same took.applies in
        let added = answer_events (idling s.cluster j.events) [] given in
        let later = due (k + 1) (j.events ++ added) in
        let events : j.events ++ added ≡ next.events =
        sym (ap (λ (x : KnownJournalOf). x.events) took.goes_on ∙ ap (λ (c : Cluster). j.events ++ answer_events (idling c j.events) [] given) same) in
        let so_far = all_passed_lines s.cluster j.events 1 passed in
        let lines : so_far ++ line.Taken given ∷ [] ≡ all_passed_lines s.cluster (j.events ++ added) 1 passed =
        ap (λ (x : List RunLine). so_far ++ x) (sym (answer_line (idling s.cluster j.events) [] given applies))
        ∙ sym (lines_behind s.cluster j.events added passed some (within_each s.cluster s.promotions j.events passed keeps.each)) in
        let there : KeepsPassed s es first left over_now passed later = record {
          runs = subst (λ (x : List RunLine). Runs s.cluster s.promotions s.whole (due 1 es) first x later left) lines
              (runs_joined s.cluster s.promotions s.whole (due 1 es) (idle k j.events) later first rest left so_far (line.Taken given ∷ []) keeps.runs
              (runs_once s.cluster s.promotions s.whole (idle k j.events) later rest left (line.Taken given ∷ []) (answers k j.events rest left given said applies)));
          said = λ steady open_still. subst (λ (x : List RunLine). IsSaid s (due 1 es) later x first left) lines
              (said_then s (due 1 es) (idle k j.events) later so_far (line.Taken given ∷ []) first rest left (keeps.said steady (fails_too over over_now (stays steady) open_still)) (record {
                answers = given ∷ [];
                runs = λ ys. runs_once s.cluster s.promotions false (idle k j.events) later (Some (given ∷ ys)) (Some ys) (line.Taken given ∷ [])
                    (answers k j.events (Some (given ∷ ys)) (Some ys) given (told given ys) applies);
                taken = taken_one s.whole rest left given (Some given) refl said;
              }));
          each = each_more s.cluster s.promotions j.events added passed keeps.each;
        } in
        subst (λ (x : List Event). KeepsPassed s es first left over_now passed (due (k + 1) x)) events there

    -- none comes that applies
    pub kept_unanswered : (like : j.promotions ≡ s.promotions) (end : Result Journal (ReplayStop Journal)) → IsUnanswered s.whole j rest left over end → KeepsEnd s es first left passed end
    kept_unanswered like (Ok journal) w =
        let stays = stays_said s.whole rest left None refl w.said in
        record {
          last = idle k j.events;
          keeps = subst (λ (x : Option (List Answer)). KeepsPassed s es first x true passed (idle k j.events)) (sym stays) (unsaid rest over passed (idle k j.events) keeps);
          over = subst (λ (x : Option (List Answer)). Says s.whole x None left) (sym stays) w.said;
          leaves = w.leaves ∙ ap (λ (x : List Promotion). record { events = j.events; promotions = x }) like;
        }
    kept_unanswered like (Err (stop.Unexpected journal given)) w = record {
      last = idle k j.events;
      unread = rest;
      keeps = unsaid rest over passed (idle k j.events) keeps;
      cut = record {
        asking = tt;
        said = w.said;
        refused = subst (λ (c : Cluster). ¬ Applies (idling c j.events) [] given) same w.refused.refused;
      };
      leaves = w.leaves ∙ ap plain_of w.refused.same ∙ ap (λ (x : List Promotion). record { events = j.events; promotions = x }) like;
    }
    kept_unanswered like (Err (stop.SourceFault journal)) w = record {
      last = idle k j.events;
      keeps = record {
        runs = subst (λ (x : Option (List Answer)). Runs s.cluster s.promotions s.whole (due 1 es) first (all_passed_lines s.cluster j.events 1 passed) (idle k j.events) x)
            (sym w.left_is) keeps.runs;
        said = λ steady open_still. subst (λ (x : Option (List Answer)). IsSaid s (due 1 es) (idle k j.events) (all_passed_lines s.cluster j.events 1 passed) first x)
            (sym w.left_is) (keeps.said steady w.not_over);
        each = keeps.each;
      };
      asking = tt;
      leaves = w.leaves ∙ ap (λ (x : List Promotion). record { events = j.events; promotions = x }) like;
    }
    kept_unanswered like (Err (stop.Stopped journal)) w = absurd w
    kept_unanswered like (Err (stop.Most journal)) w = absurd w
    kept_unanswered like (Err stop.NoMemory) w = tt

  module _ (left : Option (List Answer)) (passed : List Passed) where
    -- the same from the whole run's beginning
    printed : (journal : Journal) (last : RunStanding) → journal ≡ journal_back s last
        → all_passed_lines s.cluster (journal_at last) 1 passed ≡ all_passed_lines s.cluster journal.events 1 passed
    printed journal last leaves = ap (λ (x : Journal). all_passed_lines s.cluster x.events 1 passed) (sym leaves)

    runs_there : (journal : Journal) (last : RunStanding) (rest : Option (List Answer)) (over : Bool) → journal ≡ journal_back s last → KeepsPassed s es first rest over passed last
        → Runs s.cluster s.promotions s.whole (due 1 es) first (all_passed_lines s.cluster journal.events 1 passed) last rest
    runs_there journal last rest over leaves keeps =
        subst (λ (x : List RunLine). Runs s.cluster s.promotions s.whole (due 1 es) first x last rest) (printed journal last leaves) keeps.runs

    pub kept_as : (most : ℕ) (end : Result Journal (ReplayStop Journal)) → KeepsEnd s es first left passed end → KeepsAs s.cluster s.promotions s.whole s.steady es first left most (kept_end passed end)
    kept_as most (Ok journal) w = record {
      run = record { last = w.last; behind = left; steps = runs_there journal w.last left true w.leaves w.keeps; over = w.over; leaves = ap events_in w.leaves };
      unread = refl;
    }
    kept_as most (Err (stop.Unexpected journal given)) w = record {
      last = w.last;
      unread = w.unread;
      steps = runs_there journal w.last w.unread true w.leaves w.keeps;
      cut = w.cut;
      leaves = ap events_in w.leaves;
    }
    kept_as most (Err (stop.SourceFault journal)) w = record {
      run = record { last = w.last; steps = runs_there journal w.last left false w.leaves w.keeps; asking = w.asking; leaves = ap events_in w.leaves };
      said = λ steady.
          let of = w.keeps.said steady refl in
          record {
            answers = of.answers ++ [];
            taken = subst (λ (x : List Answer). TakesAnswers first x left) (sym (append-nil of.answers)) of.taken;
            run = record {
              last = w.last;
              steps = subst (λ (x : List RunLine). Runs s.cluster s.promotions false (due 1 es) (Some (of.answers ++ [])) x w.last (Some [])) (printed journal w.last w.leaves)
                  (of.runs []);
              asking = w.asking;
              leaves = ap events_in w.leaves;
            };
          };
    }
    kept_as most (Err (stop.Stopped journal)) w = absurd w
    kept_as most (Err (stop.Most journal)) w = absurd w
    kept_as most (Err stop.NoMemory) w = tt

    each_there : (journal : Journal) (last : RunStanding) → journal ≡ journal_back s last → AllByRecursion (IsPassedOfPlan s.cluster s.promotions (journal_at last)) passed
        → AllByRecursion (IsPassedOfPlan s.cluster s.promotions journal.events) passed
    each_there journal last leaves each = subst (λ (x : Journal). AllByRecursion (IsPassedOfPlan s.cluster s.promotions x.events) passed) (sym leaves) each

    pub kept_plans : (most : ℕ) → length passed ≤ most → (end : Result Journal (ReplayStop Journal)) → KeepsEnd s es first left passed end
        → OfMade (KeepsPlans s.cluster s.promotions most) (kept_end passed end)
    kept_plans most few (Ok journal) w = record { each = each_there journal w.last w.leaves w.keeps.each; few = few }
    kept_plans most few (Err (stop.Unexpected journal given)) w = record { each = each_there journal w.last w.leaves w.keeps.each; few = few }
    kept_plans most few (Err (stop.SourceFault journal)) w = record { each = each_there journal w.last w.leaves w.keeps.each; few = few }
    kept_plans most few (Err (stop.Stopped journal)) w = absurd w
    kept_plans most few (Err (stop.Most journal)) w = absurd w
    kept_plans most few (Err stop.NoMemory) w = tt

    module _ (safe : IsSafeRun s.cluster s.promotions s.whole es first) where
      order_there : (journal : Journal) (last : RunStanding) (rest : Option (List Answer)) (over : Bool) → journal ≡ journal_back s last → KeepsPassed s es first rest over passed last
          → IsJournalKept s.promotions journal
      order_there journal last rest over leaves keeps = record {
        in_order = subst Orderly (sym (ap events_in leaves))
            (in_order s.cluster s.promotions s.whole es last first rest (all_passed_lines s.cluster (journal_at last) 1 passed) safe keeps.runs);
        promotions_stay = ap (λ (x : Journal). x.promotions) leaves;
      }

      pub kept_in_order : (end : Result Journal (ReplayStop Journal)) → KeepsEnd s es first left passed end → OfMade (λ (made : Run). IsJournalKept s.promotions made.journal) (kept_end passed end)
      kept_in_order (Ok journal) w = order_there journal w.last left true w.leaves w.keeps
      kept_in_order (Err (stop.Unexpected journal given)) w = order_there journal w.last w.unread true w.leaves w.keeps
      kept_in_order (Err (stop.SourceFault journal)) w = order_there journal w.last left false w.leaves w.keeps
      kept_in_order (Err (stop.Stopped journal)) w = absurd w
      kept_in_order (Err (stop.Most journal)) w = absurd w
      kept_in_order (Err stop.NoMemory) w = tt

-- what is said of the end of a run holds where its transitions are kept
pub agrees_kept : (passed : List Passed) (agrees : Cluster → List Event → ℕ → Type 0) (c : Cluster) (end : Result Journal (ReplayStop Journal)) → OfMade (AgreesWith agrees c) end
    → OfMade (λ (made : Run). AgreesWith agrees c made.journal) (kept_end passed end)
agrees_kept passed agrees c (Ok journal) h = h
agrees_kept passed agrees c (Err (stop.Unexpected journal given)) h = h
agrees_kept passed agrees c (Err (stop.SourceFault journal)) h = h
agrees_kept passed agrees c (Err (stop.Stopped journal)) h = h
agrees_kept passed agrees c (Err (stop.Most journal)) h = h
agrees_kept passed agrees c (Err stop.NoMemory) h = tt

pub expected_kept : (passed : List Passed) (end : Result Journal (ReplayStop Journal)) → IsReplayExpected end → IsReplayExpected (kept_end passed end)
expected_kept passed (Ok journal) h = tt
expected_kept passed (Err (stop.Unexpected journal given)) h = h
expected_kept passed (Err (stop.SourceFault journal)) h = tt
expected_kept passed (Err (stop.Stopped journal)) h = tt
expected_kept passed (Err (stop.Most journal)) h = tt
expected_kept passed (Err stop.NoMemory) h = tt

-- the run begins
pub starts_kept : (s : Setting) (es : List Event) (first : Option (List Answer)) (over : Bool) (passed : List Passed) (j : KnownJournalOf) → passed ≡ [] → j.events ≡ es
    → KeepsTo s es first first over passed j
starts_kept s es first over passed j none same =
    let there : KeepsPassed s es first first over [] (due 1 es) = record { runs = here (due 1 es) first; said = λ steady open_still. said_none s (due 1 es) first; each = tt } in
    subst (λ (x : List Passed). KeepsPassed s es first first over x (due (1 + length x) j.events)) (sym none)
    (subst (λ (x : List Event). KeepsPassed s es first first over [] (due 1 x)) (sym same) there)

-- as many transitions were made as are allowed
module _ (s : Setting) (es : List Event) (first left : Option (List Answer)) (over : Bool) (passed : List Passed) (j : KnownJournalOf) (keeps : KeepsTo s es first left over passed j)
    (most : ℕ) (all : length passed ≡ most) (journal : Journal) (leaves : journal ≡ plain_of j) where
  pub most_kept : Runs s.cluster s.promotions s.whole (due 1 es) first (all_passed_lines s.cluster journal.events 1 passed) (due (most + 1) journal.events) left
  most_kept =
      subst (λ (x : Journal). Runs s.cluster s.promotions s.whole (due 1 es) first (all_passed_lines s.cluster x.events 1 passed) (due (most + 1) x.events) left) (sym leaves)
      (subst (λ (k : ℕ). Runs s.cluster s.promotions s.whole (due 1 es) first (all_passed_lines s.cluster j.events 1 passed) (due k j.events) left) (omega (arith, all)) keeps.runs)

  pub most_plans : KeepsPlans s.cluster s.promotions most (record { passed = passed; journal = journal })
  most_plans = record {
    each = subst (λ (x : Journal). AllByRecursion (IsPassedOfPlan s.cluster s.promotions x.events) passed) (sym leaves) keeps.each;
    few = omega (arith, all);
  }

  pub most_in_order : IsSafeRun s.cluster s.promotions s.whole es first → j.promotions ≡ s.promotions → IsJournalKept s.promotions journal
  most_in_order safe same = record {
    in_order = subst Orderly (sym (ap events_in leaves))
        (in_order s.cluster s.promotions s.whole es (due (1 + length passed) j.events) first left (all_passed_lines s.cluster j.events 1 passed) safe keeps.runs);
    promotions_stay = ap (λ (x : Journal). x.promotions) leaves ∙ same;
  }

-- between two transitions it is at rest
pub kept_at_rest : (s : Setting) (es : List Event) (first left : Option (List Answer)) (over : Bool) (passed : List Passed) (j : KnownJournalOf)
    → IsSafeRun s.cluster s.promotions s.whole es first → KeepsTo s es first left over passed j → IsAtRest j.events
kept_at_rest s es first left over passed j safe keeps =
    at_rest s.cluster s.promotions s.whole es (due (1 + length passed) j.events) first left (all_passed_lines s.cluster j.events 1 passed) safe keeps.runs tt
