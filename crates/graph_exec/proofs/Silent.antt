-- Which action ends when nothing more is said.
use Rattle.std.proofs.Common.{arith, ◌≡◌, ◌<◌, ◌≤◌, not, ℕ, suc, zero, true, false, Some, length, sym, ap, ◌∙◌, ◌⊎◌, inl, inr}
use Rattle.std.proofs.lemmas.Bool.{cases_lt}
use Rattle.lemmas.proofs.Booleans.{sooner}
use Rattle.cluster_types.specs.declared.journal.Action.{Action}
use Rattle.cluster_types.specs.Steps.{EndsSilently, IsWaiting, has_begun, has_number_ended, is_number_in_flight}
use Rattle.graph_exec.specs.Executors.{ExecutorOf, transition_in}
use Rattle.graph_exec.proofs.FirstOf.{IsFirst, first_is}
use Rattle.graph_exec.proofs.Flying.{StandsAt}
use Rattle.run_safety.proofs.ByNumber.{numbered_is}

module _ (r : ExecutorOf) (from_one : has_begun (transition_in r) r.since 0 ≡ false) (waits : IsWaiting (transition_in r) r.since) (k : ℕ) (a : Action) (s : StandsAt r 0 k a) where
  first : IsFirst (is_number_in_flight (transition_in r) r.since) 1 (length r.graph.actions) k
  first = first_is (is_number_in_flight (transition_in r) r.since) 1 (length r.graph.actions) k s.number

  least : (j : ℕ) → is_number_in_flight (transition_in r) r.since j ≡ true → k ≤ j
  least zero flies = let b = sooner (has_begun (transition_in r) r.since 0) (not (has_number_ended (transition_in r) r.since 0)) flies in let n = from_one in cc
  least (suc j) flies = on (cases_lt (length r.graph.actions) (suc j)) where
    on : (length r.graph.actions < suc j) ⊎ (suc j ≤ length r.graph.actions) → k ≤ suc j
    on (inl past) = omega (arith, first.high, past)
    on (inr within) = first.least (suc j) (omega arith) (omega arith) flies

  pub ends_silently : EndsSilently (transition_in r) r.since k a
  ends_silently = record {
    waiting = waits;
    action = numbered_is r.graph.actions k first.low (omega (arith, first.high)) ∙ ap Some (sym s.action);
    in_flight = first.passes;
    lowest = least;
  }
