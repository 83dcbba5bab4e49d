-- What comes of a question while nothing is to be done.
use Rattle.std.proofs.Common.{arith, ◌≡◌, ℕ, ◌+◌, Bool, false, List, [], ◌∷◌, ◌++◌, refl, sym, ap, ◌∙◌, subst}
use Rattle.std.specs.Prelude.{Option, Some, None, Result, Ok, Err}
use Rattle.cluster_types.specs.declared.journal.Answer.{Answer}
use Rattle.cluster_types.specs.declared.journal.Event.{Event}
use Rattle.cluster_types.specs.declared.journal.Journal.{Journal}
use Rattle.cluster_types.specs.declared.run.RunLine.{RunLine}
use Rattle.cluster_types.specs.declared.run.RunLine.TheVariants as line
use Rattle.cluster_types.specs.Runs.{RunStanding, due, idle, answers, Runs, here}
use Rattle.cluster_types.specs.Sources.{Says, told, used_up, untold}
use Rattle.cluster_types.specs.Steps.{answer_events, idling}
use Rattle.graph_exec.specs.KnownJournals.{KnownJournalOf}
use Rattle.graph_exec.proofs.Said.{taken_one}
use Rattle.run_safety.proofs.SoFar.{runs_once}
use Rattle.graph_exec.specs.declared.run.stop.ReplayStop.{ReplayStop}
use Rattle.graph_exec.specs.declared.run.stop.ReplayStop.TheVariants as stop
use Rattle.graph_exec.specs.Inner.KeptTransitions.{IsRefusedIdle, IsUnanswered, TookIdle}
use Rattle.graph_exec.specs.Replays.{Setting, setting, sight}
use Rattle.graph_exec.specs.Inner.Turns.{HasComeTo, CameTo, RunEndsAs, EndsBroken, RunEndsCut, EndsStopped, EndsStoppedAsking, EndsWhole, IsSaid, plain_of}
use Rattle.graph_exec.proofs.Joined.{came_step, said_none}

-- where nothing more is said, the answers to come stay as they were
pub stays_said : (whole : Bool) (rest left : Option (List Answer)) (said : Option Answer) → said ≡ None → Says whole rest said left → left ≡ rest
stays_said whole _ _ _ none (told given rest) = cc
stays_said whole _ _ _ none (used_up h) = refl
stays_said whole _ _ _ none (untold said) = refl

module _ (whole steady : Bool) (k : ℕ) (j : KnownJournalOf) (rest : Option (List Answer)) (over : Bool) where
  abbrev here_set : Setting
  here_set = setting j.cluster j.promotions whole steady

  module _ (left : Option (List Answer)) (over_now : Bool) where
    runs_nowhere : left ≡ rest → Runs j.cluster j.promotions whole (idle k j.events) rest [] (idle k j.events) left
    runs_nowhere same = subst (λ (x : Option (List Answer)). Runs j.cluster j.promotions whole (idle k j.events) rest [] (idle k j.events) x) (sym same) (here (idle k j.events) rest)

    module _ (Follows : List RunLine → Type 0) where
      is_over : Follows [] → Says whole rest None left → (journal : Journal) → journal ≡ plain_of j
          → EndsWhole Follows here_set (idle k j.events) (sight rest over) (sight left over_now) k journal
      is_over none said journal is =
          let same = stays_said whole rest left None refl said in
          record {
            last = idle k j.events;
            lines = [];
            runs = runs_nowhere same;
            told = none;
            over = subst (λ (x : Option (List Answer)). Says whole x None left) (sym same) said;
            leaves = is;
            few = omega arith;
          }

      is_broken : Follows [] → left ≡ rest → over ≡ false → (journal : Journal) → journal ≡ plain_of j
          → EndsBroken Follows here_set (idle k j.events) (sight rest over) (sight left over_now) k journal
      is_broken none same not_over journal is = record {
        last = idle k j.events;
        lines = [];
        runs = runs_nowhere same;
        told = none;
        asking = tt;
        said = λ always. subst (λ (x : Option (List Answer)). IsSaid here_set (idle k j.events) (idle k j.events) [] rest x) (sym same)
            (said_none here_set (idle k j.events) rest);
        not_over = λ always. not_over;
        leaves = is;
        few = omega arith;
      }

      -- the watcher stops as the source is about to be asked
      pub is_stopped_asking : left ≡ rest → (Stopped : List RunLine → Option RunLine → Type 0) → Stopped [] None → (journal : Journal) → journal ≡ plain_of j
          → EndsStoppedAsking Follows here_set (idle k j.events) (sight rest over) (sight left over_now) k Stopped journal
      is_stopped_asking same Stopped stopped journal is = record {
        last = idle k j.events;
        lines = [];
        runs = runs_nowhere same;
        told = stopped;
        asking = tt;
        leaves = is;
        few = omega arith;
      }

      module _ (given : Answer) (said : Says whole rest (Some given) left) where
        is_cut : Follows [] → (back : KnownJournalOf) → IsRefusedIdle j back given → (journal : Journal) → journal ≡ plain_of back
            → RunEndsCut Follows here_set (idle k j.events) (sight rest over) (sight left over_now) k journal given
        is_cut none back r journal is = record {
          last = idle k j.events;
          unread = rest;
          lines = [];
          runs = here (idle k j.events) rest;
          told = none;
          cut = record { asking = tt; said = said; refused = r.refused };
          leaves = is ∙ ap plain_of r.same;
          few = omega arith;
        }

        module _ (next : KnownJournalOf) (took : TookIdle j next given) where
          abbrev later_at : RunStanding
          later_at = due (k + 1) (j.events ++ answer_events (idling j.cluster j.events) [] given)

          pub is_taken : Follows (line.Taken given ∷ []) → CameTo Follows here_set (idle k j.events) (sight rest over) (sight left over_now) (due (k + 1)) next
          is_taken told_one = record {
            cluster_stays = ap (λ (x : KnownJournalOf). x.cluster) took.goes_on;
            promotions_stay = ap (λ (x : KnownJournalOf). x.promotions) took.goes_on;
            came = subst (λ (es : List Event). HasComeTo Follows here_set (idle k j.events) (sight rest over) (sight left over_now) (due (k + 1) es))
                (sym (ap (λ (x : KnownJournalOf). x.events) took.goes_on))
                (came_step here_set Follows (idle k j.events) later_at (sight rest over) (sight left over_now) (line.Taken given ∷ [])
                (answers k j.events rest left given said took.applies) told_one
                (λ always open_still. record {
                  answers = given ∷ [];
                  runs = λ ys. runs_once j.cluster j.promotions false (idle k j.events) later_at (Some (given ∷ ys)) (Some ys) (line.Taken given ∷ [])
                      (answers k j.events (Some (given ∷ ys)) (Some ys) given (told given ys) took.applies);
                  taken = taken_one whole rest left given (Some given) refl said;
                }));
          }

          pub is_stopped : (Stopped : List RunLine → Option RunLine → Type 0) → Stopped [] (Some (line.Taken given)) → (journal : Journal) → journal ≡ plain_of next
              → EndsStopped Follows here_set (idle k j.events) (sight rest over) (sight left over_now) k Stopped journal
          is_stopped Stopped stopped journal is = record {
            before = idle k j.events;
            next = later_at;
            middle = rest;
            lines = [];
            call = line.Taken given ∷ [];
            runs = here (idle k j.events) rest;
            step = answers k j.events rest left given said took.applies;
            told = record { before = []; at = line.Taken given; behind = []; parts = refl; stopped = stopped };
            leaves = is ∙ ap plain_of took.goes_on;
            few = omega arith;
          }

      -- no answer came that applies
      pub ends_unanswered : Follows [] → (Stopped : List RunLine → Option RunLine → Type 0) (end : Result Journal (ReplayStop Journal)) → IsUnanswered whole j rest left over end
          → RunEndsAs Follows here_set (idle k j.events) (sight rest over) (sight left over_now) k Stopped end
      ends_unanswered none Stopped (Ok journal) w = is_over none w.said journal w.leaves
      ends_unanswered none Stopped (Err (stop.Unexpected journal given)) w = is_cut given w.said none w.back w.refused journal w.leaves
      ends_unanswered none Stopped (Err (stop.SourceFault journal)) w = is_broken none w.left_is w.not_over journal w.leaves
      ends_unanswered none Stopped (Err (stop.Stopped journal)) w = absurd w
      ends_unanswered none Stopped (Err (stop.Most journal)) w = absurd w
      ends_unanswered none Stopped (Err stop.NoMemory) same = record { at = idle k j.events; lines = []; runs = runs_nowhere same; told = none; between = tt; few = omega arith }
