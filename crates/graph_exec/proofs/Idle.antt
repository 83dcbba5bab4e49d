-- A transition without actions: nothing is in flight, and what applies in it applies while nothing is to be done.
use Rattle.std.proofs.Common.{◌≡◌, ◌++◌, append-nil, ℕ, Bool, true, false, List, [], ◌∷◌, length, filter, sym, ap, ◌∙◌}
use Rattle.std.specs.List.{flat_map, range_with_len}
use Rattle.std.specs.Option.{option_map_or}
use Rattle.cluster_types.specs.declared.journal.Action.{Action}
use Rattle.cluster_types.specs.declared.journal.Answer.{Answer}
use Rattle.cluster_types.specs.declared.journal.Event.{Event}
use Rattle.cluster_types.specs.AnswersThatApply.{added_by, applies_after}
use Rattle.cluster_types.specs.Graphs.{GraphOf}
use Rattle.cluster_types.specs.Steps.{Transition, action_at, answer_events, in_flight_by_number, is_number_in_flight, journal, numbers, count_from_outside, idling}
use Rattle.graph_exec.specs.KnownJournals.{KnownJournalOf}
use Rattle.graph_exec.specs.Executors.{ExecutorOf, transition_in, later, fresh_on}
use Rattle.graph_exec.specs.Inner.ExecutorFields.{running_journal}
use Rattle.graph_exec.specs.Inner.KeptTransitions.{IsRefusedIdle, TookIdle}

module _ (j : KnownJournalOf) (g : GraphOf) (nothing : g.actions ≡ []) where
  abbrev idly : Transition
  idly = transition_in (fresh_on j g)

  pub flies_none : in_flight_by_number idly [] ≡ []
  flies_none =
      let none : numbers idly ≡ [] = ap (λ (actions : List Action). range_with_len 1 (length actions)) nothing in
      ap (λ (ks : List ℕ). flat_map (λ k. option_map_or (λ a. (k, a) ∷ []) (action_at idly k) []) (filter (is_number_in_flight idly []) ks)) none

  abbrev applies_now : Answer → Bool
  applies_now given = applies_after j.cluster (journal idly []) (in_flight_by_number idly []) (count_from_outside idly []) given

  idle_applies : (given : Answer) → applies_now given ≡ applies_after j.cluster (j.events ++ []) [] 0 given
  idle_applies given = ap (λ (flight : List (ℕ × Action)). applies_after j.cluster (j.events ++ []) flight 0 given) flies_none

  idle_adds : (given : Answer) → answer_events idly [] given ≡ answer_events (idling j.cluster j.events) [] given
  idle_adds given = ap (λ (flight : List (ℕ × Action)). added_by j.cluster (j.events ++ []) flight given) flies_none

  abbrev idle_with : List Event → KnownJournalOf
  idle_with es = record { cluster = j.cluster; events = es; promotions = j.promotions }

  -- the journal is handed back as it was
  pub stays_idle : (back : KnownJournalOf) → back ≡ running_journal (fresh_on j g) → back ≡ j
  stays_idle back left = left ∙ ap idle_with (append-nil j.events)

  -- an answer that doesn't apply leaves the journal as it is
  pub refuses : (given : Answer) (b : Bool) → b ≡ applies_now given → b ≡ false → (back : KnownJournalOf) → back ≡ running_journal (fresh_on j g) → IsRefusedIdle j back given
  refuses given b says so back left = record {
    refused = λ applies. let e = idle_applies given in let f : ⊥ = cc in f;
    same = stays_idle back left;
  }

  -- one that applies is entered
  pub takes_idle : (given : Answer) (b : Bool) → b ≡ applies_now given → b ≡ true → (now : ExecutorOf) → now ≡ later (fresh_on j g) (answer_events idly [] given)
      → (after : KnownJournalOf) → after ≡ running_journal now → TookIdle j after given
  takes_idle given b says so now goes after left = record {
    applies = sym (idle_applies given) ∙ sym says ∙ so;
    goes_on = left ∙ ap running_journal goes ∙ ap (λ (events : List Event). idle_with (j.events ++ events)) (idle_adds given);
  }
