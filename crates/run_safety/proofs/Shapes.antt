-- What one step of a transition adds to the journal, whatever made it.
use Rattle.std.proofs.Common.{◌≡◌, ℕ, Bool, true, false, List, [], ◌∷◌, ◌++◌, filter, refl}
use Rattle.std.specs.Prelude.{Option, Some, None, map, find}
use Rattle.std.specs.Option.{option_map_or}
use Rattle.lemmas.proofs.Booleans.{later}
use Rattle.cluster_types.specs.declared.journal.Action.{Action}
use Rattle.cluster_types.specs.declared.journal.Answer.{Answer}
use Rattle.cluster_types.specs.declared.journal.Answer.TheVariants as answer
use Rattle.cluster_types.specs.declared.journal.Event.{Event}
use Rattle.cluster_types.specs.declared.journal.Event.TheVariants.{Up, Lost, Quorum, Wait, Begin, Ended}
use Rattle.cluster_types.specs.declared.journal.Outcome.{Outcome}
use Rattle.cluster_types.specs.declared.journal.Outcome.TheVariants.{Code, TimedOut, Gone}
use Rattle.cluster_types.specs.AnswersThatApply.{end_event, is_number_of, is_joined_sign, monitor_action, tells_failure}
use Rattle.cluster_types.specs.Journals.{is_on, last_sign, moment_of}
use Rattle.cluster_types.specs.Steps.{Transition, Begins, StepsOn, begins, takes, is_silent, Applies, action_at, ended, answer_events, numbers_in_flight, in_flight_by_number, is_number_in_flight, journal, numbers, silent_code}
use Rattle.run_safety.proofs.Each.{Each, none, more, each_filter, each_flat, found}

abbrev pub isnt_gone : Outcome → Bool
isnt_gone Gone = false
isnt_gone _ = true

module _ (t : Transition) (since : List Event) where
  -- the actions in flight that are on a node, as they end with it
  abbrev pub gone_with : ℕ → List Event
  gone_with n = map (end_event t.cluster (journal t since) (in_flight_by_number t since) Gone) (filter (λ (p : ℕ × Action). is_on n p.1) (in_flight_by_number t since))

  -- the number and its action are in flight
  pub record Flies (p : ℕ × Action) : Type 0 where
    pub action : action_at t p.0 ≡ Some p.1
    pub in_flight : is_number_in_flight t since p.0 ≡ true

  -- what a step adds
  pub data Adds : List Event → Type 0 where
    nothing : Adds []
    begun : (k : ℕ) (a : Action) → Begins t since k a → Adds (Begin k a ∷ [])
    over : (k : ℕ) (a : Action) (o : Outcome) (m : ℕ) → Flies (k, a) → isnt_gone o ≡ true → Adds (Ended k a o m ∷ [])
    reported : (r n interval code m : ℕ) → tells_failure t.cluster (journal t since) (in_flight_by_number t since) n r interval code ≡ true
        → Adds (Ended 0 (monitor_action t.cluster r n interval) (Code code) m ∷ [])
    lost : (n : ℕ) → is_joined_sign (last_sign n (journal t since)) ≡ true → Adds (gone_with n ++ Lost n ∷ [])
    up : (n : ℕ) → Adds (Up n ∷ [])
    quorum : (now : Bool) → Adds (Quorum now ∷ [])
    wait : (seconds : ℕ) → Adds (Wait seconds ∷ [])

module _ (t : Transition) (since : List Event) where
  pair_flies : (k : ℕ) → is_number_in_flight t since k ≡ true → (a : Option Action) → action_at t k ≡ a → Each (Flies t since) (option_map_or (λ a. (k, a) ∷ []) a [])
  pair_flies k h None e = none
  pair_flies k h (Some a) e = more (k, a) [] (record { action = e; in_flight = h }) none

  pub all_fly : Each (Flies t since) (in_flight_by_number t since)
  all_fly =
      each_flat (λ k. is_number_in_flight t since k ≡ true) (Flies t since) (λ k. option_map_or (λ a. (k, a) ∷ []) (action_at t k) [])
      (λ k h. pair_flies k h (action_at t k) refl) (numbers_in_flight t since) (each_filter (is_number_in_flight t since) (numbers t))

  end_adds : (k : ℕ) (o : Outcome) → isnt_gone o ≡ true → Adds t since (ended t since k o)
  end_adds k o h = by (find (is_number_of k) (in_flight_by_number t since)) refl
    where
      by : (p : Option (ℕ × Action)) → find (is_number_of k) (in_flight_by_number t since) ≡ p
          → Adds t since (option_map_or (λ p. end_event t.cluster (journal t since) (in_flight_by_number t since) o p ∷ []) p [])
      by None e = nothing
      by (Some p) e = found (Flies t since) (is_number_of k) _ (in_flight_by_number t since) p all_fly e (λ f same. over p.0 p.1 o (moment_of (journal t since)) f h)

  pub answer_adds : (given : Answer) → Applies t since given → Adds t since (answer_events t since given)
  answer_adds (answer.End k code) h = end_adds k (Code code) refl
  answer_adds (answer.Timeout k) h = end_adds k TimedOut refl
  answer_adds (answer.Lost n) h = lost n (later _ (is_joined_sign (last_sign n (journal t since))) h)
  answer_adds (answer.Up n) h = up n
  answer_adds (answer.Quorum now) h = quorum now
  answer_adds (answer.Wait seconds) h = wait seconds
  answer_adds (answer.Report n r interval code) h = reported r n interval code (moment_of (journal t since)) (later _ (tells_failure t.cluster (journal t since) (in_flight_by_number t since) n r interval code) h)

  pub step_adds : (whole : Bool) (events : List Event) (rest left : Option (List Answer)) → StepsOn t whole since rest events left → Adds t since events
  step_adds whole _ rest _ (begins _ k a allowed) = begun k a allowed
  step_adds whole _ rest left (takes _ _ given said taken) = answer_adds given taken.applies
  step_adds whole _ rest left (is_silent _ _ k a said ends) = end_adds k (Code (silent_code a)) refl
