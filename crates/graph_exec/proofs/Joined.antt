-- What came of one part of a run, and then of the next, is what came of both.
use Rattle.std.proofs.Common.{◌≡◌, inl, inr, ℕ, true, false, List, [], ◌++◌, append_assoc, sym, subst, arith}
use Rattle.std.specs.Prelude.{Option, Some, None, Result, Ok, Err}
use Rattle.lemmas.proofs.Booleans.{fails_too}
use Rattle.cluster_types.specs.declared.journal.Answer.{Answer}
use Rattle.cluster_types.specs.declared.journal.Journal.{Journal}
use Rattle.cluster_types.specs.declared.run.RunLine.{RunLine}
use Rattle.cluster_types.specs.Runs.{RunStanding, IsBetween, Runs, RunsOn, here}
use Rattle.graph_exec.specs.WatcherLines.{StopsAmong}
use Rattle.graph_exec.proofs.Said.{taken_none, taken_then}
use Rattle.run_safety.specs.TwoRuns.{transition_number_at}
use Rattle.run_safety.proofs.SoFar.{runs_joined, runs_once}
use Rattle.graph_exec.specs.declared.run.stop.ReplayStop.{ReplayStop}
use Rattle.graph_exec.specs.declared.run.stop.ReplayStop.TheVariants as stop
use Rattle.graph_exec.specs.Replays.{Setting, AnswersView}
use Rattle.graph_exec.specs.Inner.Turns.{HasComeTo, RunEndsAs, RunEndsBetween, IsSaid}

module _ (s : Setting) where
  -- nothing is a part too
  pub said_none : (at : RunStanding) (rest : Option (List Answer)) → IsSaid s at at [] rest rest
  said_none at rest = record { answers = []; runs = λ more. here at (Some more); taken = taken_none rest }

  module _ (Follows : List RunLine → Type 0) (none : Follows []) where
    pub came_nowhere : (at : RunStanding) (a : AnswersView) → HasComeTo Follows s at a a at
    came_nowhere at a = record { lines = []; runs = here at a.rest; told = none; said = λ steady open_still. said_none at a.rest }

    -- memory runs out between two transitions
    pub lacks_memory : (at : RunStanding) (a : AnswersView) → IsBetween at → RunEndsBetween Follows s at a a (transition_number_at at)
    lacks_memory at a between = record { at = at; lines = []; runs = here at a.rest; told = none; between = between; few = omega arith }

  pub said_then : (from middle at : RunStanding) (lines more : List RunLine) (rest between left : Option (List Answer)) → IsSaid s from middle lines rest between
      → IsSaid s middle at more between left → IsSaid s from at (lines ++ more) rest left
  said_then from middle at lines more rest between left one two = record {
    answers = one.answers ++ two.answers;
    runs = λ ys. subst (λ (xs : List Answer). Runs s.cluster s.promotions false from (Some xs) (lines ++ more) at (Some ys)) (sym (append_assoc one.answers two.answers ys))
        (runs_joined s.cluster s.promotions false from middle at (Some (one.answers ++ (two.answers ++ ys))) (Some (two.answers ++ ys)) (Some ys) lines more
        (one.runs (two.answers ++ ys)) (two.runs ys));
    taken = taken_then rest between left one.answers two.answers one.taken two.taken;
  }

  -- one part, and then the next
  module _ (First Then All : List RunLine → Type 0) (join : (lines more : List RunLine) → First lines → Then more → All (lines ++ more))
      (from middle : RunStanding) (a b c : AnswersView) (one : HasComeTo First s from a b middle) where
    joined : (at : RunStanding) (left : Option (List Answer)) (more : List RunLine) → Runs s.cluster s.promotions s.whole middle b.rest more at left
        → Runs s.cluster s.promotions s.whole from a.rest (one.lines ++ more) at left
    joined at left more runs = runs_joined s.cluster s.promotions s.whole from middle at a.rest b.rest left one.lines more one.runs runs

    pub came_on : (at : RunStanding) → (s.steady ≡ true → b.over ≡ true → c.over ≡ true) → HasComeTo Then s middle b c at → HasComeTo All s from a c at
    came_on at stays two = record {
      lines = one.lines ++ two.lines;
      runs = joined at c.rest two.lines two.runs;
      told = join one.lines two.lines one.told two.told;
      said = λ steady open_still.
          said_then from middle at one.lines two.lines a.rest b.rest c.rest (one.said steady (fails_too b.over c.over (stays steady) open_still)) (two.said steady open_still);
    }

    -- and so it is with how the run ends
    module _ (StopThen StopAll : List RunLine → Option RunLine → Type 0)
        (stop_behind : (lines more : List RunLine) (at : Option RunLine) → First lines → StopThen more at → StopAll (lines ++ more) at) where
      stops_on : (lines call : List RunLine) → StopsAmong (λ before at. StopThen (lines ++ before) (Some at)) call
          → StopsAmong (λ before at. StopAll ((one.lines ++ lines) ++ before) (Some at)) call
      stops_on lines call t = record {
        before = t.before;
        at = t.at;
        behind = t.behind;
        parts = t.parts;
        stopped = subst (λ (ls : List RunLine). StopAll ls (Some t.at)) (sym (append_assoc one.lines lines t.before))
            (stop_behind one.lines (lines ++ t.before) (Some t.at) one.told t.stopped);
      }

      pub ends_on : (number : ℕ) (end : Result Journal (ReplayStop Journal)) → (s.steady ≡ true → a.over ≡ true → b.over ≡ true)
          → RunEndsAs Then s middle b c number StopThen end → RunEndsAs All s from a c number StopAll end
      ends_on number (Ok journal) stays w = record {
        last = w.last;
        lines = one.lines ++ w.lines;
        runs = joined w.last c.rest w.lines w.runs;
        told = join one.lines w.lines one.told w.told;
        over = w.over;
        leaves = w.leaves;
        few = w.few;
      }
      ends_on number (Err (stop.Unexpected journal given)) stays w = record {
        last = w.last;
        unread = w.unread;
        lines = one.lines ++ w.lines;
        runs = joined w.last w.unread w.lines w.runs;
        told = join one.lines w.lines one.told w.told;
        cut = w.cut;
        leaves = w.leaves;
        few = w.few;
      }
      ends_on number (Err (stop.SourceFault journal)) stays w = record {
        last = w.last;
        lines = one.lines ++ w.lines;
        runs = joined w.last c.rest w.lines w.runs;
        told = join one.lines w.lines one.told w.told;
        asking = w.asking;
        said = λ steady. said_then from middle w.last one.lines w.lines a.rest b.rest c.rest (one.said steady (w.not_over steady)) (w.said steady);
        not_over = λ steady. fails_too a.over b.over (stays steady) (w.not_over steady);
        leaves = w.leaves;
        few = w.few;
      }
      ends_on number (Err (stop.Stopped journal)) stays (inl w) = inl (record {
        before = w.before;
        next = w.next;
        middle = w.middle;
        lines = one.lines ++ w.lines;
        call = w.call;
        runs = joined w.before w.middle w.lines w.runs;
        step = w.step;
        told = stops_on w.lines w.call w.told;
        leaves = w.leaves;
        few = w.few;
      })
      ends_on number (Err (stop.Stopped journal)) stays (inr w) = inr (record {
        last = w.last;
        lines = one.lines ++ w.lines;
        runs = joined w.last c.rest w.lines w.runs;
        told = stop_behind one.lines w.lines None one.told w.told;
        asking = w.asking;
        leaves = w.leaves;
        few = w.few;
      })
      ends_on number (Err (stop.Most journal)) stays w = absurd w
      ends_on number (Err stop.NoMemory) stays w = record {
        at = w.at;
        lines = one.lines ++ w.lines;
        runs = joined w.at c.rest w.lines w.runs;
        told = join one.lines w.lines one.told w.told;
        between = w.between;
        few = w.few;
      }

  -- a step, and the lines of it
  pub came_step : (Follows : List RunLine → Type 0) (at next : RunStanding) (a b : AnswersView) (lines : List RunLine) → RunsOn s.cluster s.promotions s.whole at a.rest lines next b.rest
      → Follows lines → (s.steady ≡ true → b.over ≡ false → IsSaid s at next lines a.rest b.rest) → HasComeTo Follows s at a b next
  came_step Follows at next a b lines step told said = record {
    lines = lines;
    runs = runs_once s.cluster s.promotions s.whole at next a.rest b.rest lines step;
    told = told;
    said = said;
  }
