-- A run from its beginning, by how it ended.
use Rattle.std.proofs.Common.{arith, ◌≡◌, ◌≤◌, inl, inr, ℕ, ◌+◌, Bool, false, List, [], ◌++◌, append-nil, refl, sym, ap, subst}
use Rattle.std.specs.Prelude.{Option, Result, Ok, Err}
use Rattle.cluster_types.specs.declared.cluster.Cluster.{Cluster}
use Rattle.cluster_types.specs.declared.journal.Answer.{Answer}
use Rattle.cluster_types.specs.declared.journal.Event.{Event}
use Rattle.cluster_types.specs.declared.journal.Journal.{Journal}
use Rattle.cluster_types.specs.declared.journal.Promotion.{Promotion}
use Rattle.cluster_types.specs.declared.run.RunLine.{RunLine}
use Rattle.cluster_types.specs.Journals.{Orderly}
use Rattle.cluster_types.specs.Runs.{RunStanding, due, Runs, here, not_yet}
use Rattle.cluster_types.specs.Safety.{IsAtRest, IsSafeRun}
use Rattle.graph_exec.specs.KnownJournals.{KnownJournalOf}
use Rattle.graph_exec.specs.SourceDuties.{TakesAnswers}
use Rattle.run_safety.proofs.Rests.{at_rest, in_order}
use Rattle.run_safety.proofs.SoFar.{runs_more}
use Rattle.graph_exec.specs.declared.run.stop.ReplayStop.{ReplayStop}
use Rattle.graph_exec.specs.declared.run.stop.ReplayStop.TheVariants as stop
use Rattle.graph_exec.specs.Replays.{Setting, AnswersView, IsBetweenTwo, IsJournalKept, IsRunTold, OfMade, ReplaysAs, setting}
use Rattle.graph_exec.specs.RunEnds.{at_most}
use Rattle.graph_exec.specs.Inner.Turns.{HasComeTo, CameTo, RunEndsAs, journal_back}
use Rattle.graph_exec.proofs.CountedTransitions.{few_begin, few_begin_on, few_made}
use Rattle.graph_exec.proofs.Joined.{came_nowhere}

abbrev pub events_in : Journal → List Event
events_in j = j.events

module _ (Follows : List RunLine → Type 0) (s : Setting) (es : List Event) (a b : AnswersView) where
  pub replays : (Stopped : List RunLine → Option RunLine → Type 0) (number most : ℕ) → number ≤ most → (end : Result Journal (ReplayStop Journal))
      → RunEndsAs Follows s (due 1 es) a b number Stopped end → ReplaysAs Follows Stopped s es a b most end
  replays Stopped number most within (Ok journal) w = record {
    lines = w.lines;
    ended = record {
      run = record { last = w.last; behind = b.rest; steps = w.runs; over = w.over; leaves = ap events_in w.leaves };
      unread = refl;
    };
    told = w.told;
    few = few_begin s.cluster s.promotions s.whole es a.rest b.rest w.lines number most within w.last w.runs w.few;
  }
  replays Stopped number most within (Err (stop.Unexpected journal given)) w = record {
    lines = w.lines;
    ended = record { last = w.last; unread = w.unread; steps = w.runs; cut = w.cut; leaves = ap events_in w.leaves };
    told = w.told;
    few = few_begin s.cluster s.promotions s.whole es a.rest w.unread w.lines number most within w.last w.runs w.few;
  }
  replays Stopped number most within (Err (stop.SourceFault journal)) w = record {
    lines = w.lines;
    ended = record {
      run = record { last = w.last; steps = w.runs; asking = w.asking; leaves = ap events_in w.leaves };
      said = λ steady. record {
        answers = (w.said steady).answers ++ [];
        taken = subst (λ (x : List Answer). TakesAnswers a.rest x b.rest) (sym (append-nil (w.said steady).answers)) (w.said steady).taken;
        run = record {
          last = w.last;
          steps = (w.said steady).runs [];
          asking = w.asking;
          leaves = ap events_in w.leaves;
        };
      };
    };
    told = w.told;
    few = few_begin s.cluster s.promotions s.whole es a.rest b.rest w.lines number most within w.last w.runs w.few;
  }
  replays Stopped number most within (Err (stop.Stopped journal)) (inl w) = inl (record {
    lines = w.lines;
    call = w.call;
    closing = [];
    run = record {
      before = w.before;
      next = w.next;
      last = w.next;
      middle = w.middle;
      steps = w.runs;
      stopped = w.step;
      closes = not_yet w.next;
      leaves = ap events_in w.leaves;
    };
    told = w.told;
    few = few_begin_on s.cluster s.promotions s.whole es a.rest b.rest w.lines number most within w.before w.next w.middle w.call w.runs w.step w.few;
  })
  replays Stopped number most within (Err (stop.Stopped journal)) (inr w) = inr (record {
    lines = w.lines;
    run = record { last = w.last; steps = w.runs; asking = w.asking; leaves = ap events_in w.leaves };
    told = w.told;
    few = few_begin s.cluster s.promotions s.whole es a.rest b.rest w.lines number most within w.last w.runs w.few;
  })
  replays Stopped number most within (Err (stop.Most journal)) w = absurd w
  replays Stopped number most within (Err stop.NoMemory) w = record {
    lines = w.lines;
    at = w.at;
    run = w.runs;
    between = w.between;
    told = w.told;
    few = few_begin s.cluster s.promotions s.whole es a.rest b.rest w.lines number most within w.at w.runs w.few;
  }

  pub up_to : (Stopped : List RunLine → Option RunLine → Type 0) (most : ℕ) (journal : Journal) (left : List Event) → journal.events ≡ left → HasComeTo Follows s (due 1 es) a b (due (most + 1) left)
      → IsRunTold Follows Stopped s es a b most journal (at_most most)
  up_to Stopped most journal left is w = record {
    lines = w.lines;
    ended = subst (λ (x : List Event). Runs s.cluster s.promotions s.whole (due 1 es) a.rest w.lines (due (most + 1) x) b.rest) (sym is) w.runs;
    told = w.told;
    few = few_made s.cluster s.promotions s.whole es a.rest b.rest w.lines most left w.runs;
  }

  module _ (safe : IsSafeRun s.cluster s.promotions s.whole es a.rest) where
    pub rests : (k : ℕ) (left : List Event) → HasComeTo Follows s (due 1 es) a b (due k left) → IsAtRest left
    rests k left w = at_rest s.cluster s.promotions s.whole es (due k left) a.rest b.rest w.lines safe w.runs tt

    kept_at : (at : RunStanding) (left : Option (List Answer)) (lines : List RunLine) → Runs s.cluster s.promotions s.whole (due 1 es) a.rest lines at left
        → (journal : Journal) → journal ≡ journal_back s at → IsJournalKept s.promotions journal
    kept_at at left lines runs journal is = record {
      in_order = subst Orderly (sym (ap events_in is)) (in_order s.cluster s.promotions s.whole es at a.rest left lines safe runs);
      promotions_stay = ap (λ (j : Journal). j.promotions) is;
    }

    pub kept : (Stopped : List RunLine → Option RunLine → Type 0) (number : ℕ) (end : Result Journal (ReplayStop Journal)) → RunEndsAs Follows s (due 1 es) a b number Stopped end
        → OfMade (IsJournalKept s.promotions) end
    kept Stopped number (Ok journal) w = kept_at w.last b.rest w.lines w.runs journal w.leaves
    kept Stopped number (Err (stop.Unexpected journal given)) w = kept_at w.last w.unread w.lines w.runs journal w.leaves
    kept Stopped number (Err (stop.SourceFault journal)) w = kept_at w.last b.rest w.lines w.runs journal w.leaves
    kept Stopped number (Err (stop.Stopped journal)) (inr w) = kept_at w.last b.rest w.lines w.runs journal w.leaves
    kept Stopped number (Err (stop.Stopped journal)) (inl w) =
        kept_at w.next b.rest (w.lines ++ w.call)
        (runs_more s.cluster s.promotions s.whole (due 1 es) w.before w.next a.rest w.middle b.rest w.lines w.call w.runs w.step) journal w.leaves
    kept Stopped number (Err (stop.Most journal)) w = absurd w
    kept Stopped number (Err stop.NoMemory) w = tt

    pub kept_due : (k : ℕ) (journal : Journal) (left : List Event) → journal.events ≡ left → journal.promotions ≡ s.promotions → HasComeTo Follows s (due 1 es) a b (due k left)
        → IsJournalKept s.promotions journal
    kept_due k journal left is same w = record {
      in_order = subst Orderly (sym is) (in_order s.cluster s.promotions s.whole es (due k left) a.rest b.rest w.lines safe w.runs);
      promotions_stay = same;
    }

-- no memory is left before the first transition
pub nothing_made : (Follows : List RunLine → Type 0) (Stopped : List RunLine → Option RunLine → Type 0) → Follows [] → (s : Setting) (es : List Event) (a : AnswersView) (most : ℕ)
    → IsBetweenTwo Follows Stopped s es a a most
nothing_made Follows Stopped none s es a most = record { lines = []; at = due 1 es; run = here (due 1 es) a.rest; between = tt; told = none; few = omega arith }

-- the run begins
pub starts : (Follows : List RunLine → Type 0) → Follows [] → (c : Cluster) (promotions : List Promotion) (whole steady : Bool) (es : List Event) (a : AnswersView) (j : KnownJournalOf)
    → j ≡ record { cluster = c; events = es; promotions = promotions } → CameTo Follows (setting c promotions whole steady) (due 1 es) a a (due 1) j
starts Follows none c promotions whole steady es a j is = record {
  cluster_stays = ap (λ (x : KnownJournalOf). x.cluster) is;
  promotions_stay = ap (λ (x : KnownJournalOf). x.promotions) is;
  came = subst (λ (x : List Event). HasComeTo Follows (setting c promotions whole steady) (due 1 es) a a (due 1 x)) (sym (ap (λ (x : KnownJournalOf). x.events) is))
      (came_nowhere (setting c promotions whole steady) Follows none (due 1 es) a);
}
