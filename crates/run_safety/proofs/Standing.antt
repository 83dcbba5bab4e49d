-- What holds wherever a transition stands, whatever answers came.
use Rattle.std.proofs.Common.{ℕ}
use Rattle.std.specs.Prelude.{◌≡◌, true, false, Some, List}
use Rattle.cluster_types.specs.declared.journal.Action.{Action}
use Rattle.cluster_types.specs.declared.journal.Action.TheVariants.{Fence}
use Rattle.cluster_types.specs.declared.journal.Event.{Event}
use Rattle.cluster_types.specs.declared.journal.Event.TheVariants.{Begin}
use Rattle.cluster_types.specs.Journals.{Orderly, joined, last_sign, is_on, needs_node}
use Rattle.cluster_types.specs.NodeStates.{is_online}
use Rattle.cluster_types.specs.Steps.{Transition, action_at, has_aborted, is_number_in_flight, journal}

module _ (t : Transition) where
  -- each of its actions has its nodes online when it was planned, and a fence has a node that isn't
  pub record KeepsToNodes : Type 0 where
    pub online : (k n : ℕ) (a : Action) → action_at t k ≡ Some a → needs_node n (Begin k a) ≡ true → is_online t.cluster n t.planned_at ≡ true
    pub fences : (k n : ℕ) → action_at t k ≡ Some (Fence n) → is_online t.cluster n t.planned_at ≡ false

  -- the journal is in order; what is in flight has its node still there; and until an abort each node that was online when it was planned is still there
  pub record Stands (since : List Event) : Type 0 where
    pub orderly : Orderly (journal t since)
    pub there : (k n : ℕ) (a : Action) → action_at t k ≡ Some a → is_number_in_flight t since k ≡ true → is_on n a ≡ true
        → last_sign n (journal t since) ≡ Some joined
    pub steady : has_aborted t since ≡ false → (n : ℕ) → is_online t.cluster n t.planned_at ≡ true → last_sign n (journal t since) ≡ Some joined
