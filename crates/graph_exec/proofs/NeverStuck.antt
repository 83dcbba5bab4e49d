-- A transition that ends without an abort has done all.
use Rattle.std.proofs.Common.{arith, ◌≡◌, ◌<◌, ◌≤◌, ◌-◌, nat_lt, nat_le, ℕ, Bool, length, refl, true, false, None, find, []}
use Rattle.std.specs.List.{list_any}
use Rattle.std.proofs.lemmas.Bool.{ltb-true}
use Rattle.lemmas.proofs.Booleans.{sooner, later}
use Rattle.cluster_types.specs.Graphs.{GraphOf, IsBefore, IsGraph, is_before, is_action_number}
use Rattle.cluster_types.specs.Safety.{is_gone}
use Rattle.cluster_types.specs.Steps.{HasEnded, aborts, has_aborted}
use Rattle.cluster_types.proofs.EagerLaws.{keeps-on, keeps-none}
use Rattle.cluster_types.proofs.NeverStuck.{all-succeeded}
use Rattle.cluster_types.proofs.Paths.{before-from_computed}
use Rattle.graph_exec.specs.Executors.{ExecutorOf, IsUnderWay, transition_in}
use Rattle.graph_exec.specs.Transitions.{IsComplete}
use Rattle.graph_exec.proofs.Beginning.{found_so}

number_low : (g : GraphOf) (x : ℕ) → is_action_number g x ≡ true → (0 < x) × (x ≤ length g.actions)
number_low g x h =
    let low = ltb-true 0 x (sooner (nat_lt 0 x) (nat_le x (length g.actions)) h) in
    let high = later (nat_lt 0 x) (nat_le x (length g.actions)) h in
    (low, grind arith)

-- in a graph without a loop an action waits for those of lower numbers alone
pub upward : (g : GraphOf) → IsGraph g → (j k : ℕ) → is_before g j k ≡ true → j < k
upward g graph j k e = on (before-from_computed g j k e) where
  on : IsBefore g j k → j < k
  on b =
      let low = number_low g j b.earlier in
      let other = number_low g k b.later in
      let less = graph.actions_upward (j - 1) (k - 1) (omega (arith, low.0, low.1)) (omega (arith, other.0, other.1)) b.leads in
      omega (arith, less, low.0, other.0)

module _ (r : ExecutorOf) (u : IsUnderWay r) (ended : HasEnded (transition_in r) r.since) (none : find (aborts r.cluster) r.since ≡ None) where
  unaborted : has_aborted (transition_in r) r.since ≡ false
  unaborted = found_so (aborts r.cluster) r.since None none

  no_gone : list_any is_gone r.since ≡ false
  no_gone = on (list_any is_gone r.since) refl where
    on : (b : Bool) → list_any is_gone r.since ≡ b → b ≡ false
    on true e = let a = (keeps-on (transition_in r) true [] r.since None None u.steps (keeps-none (transition_in r))).gone_aborts e in let u = unaborted in cc
    on false e = refl

  pub completes : IsComplete r
  completes = record {
    ended = ended;
    unaborted = unaborted;
    succeeded = all-succeeded (transition_in r) r.since (upward r.graph u.graph) unaborted no_gone ended.idle ended.settled;
  }
