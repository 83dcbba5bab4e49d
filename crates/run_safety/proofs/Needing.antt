-- What is needed in a transition, and what of it has succeeded.
use Rattle.std.proofs.Common.{◌⊎◌, ◌≡◌, ◌<◌, ℕ, true, false, List, length}
use Rattle.lemmas.proofs.Booleans.{later, sooner}
use Rattle.cluster_types.specs.declared.journal.Action.{Action}
use Rattle.cluster_types.specs.declared.journal.Action.TheVariants.{Fence, Probe, Operation}
use Rattle.cluster_types.specs.declared.journal.Event.{Event}
use Rattle.cluster_types.specs.declared.leaf.Op.{Op}
use Rattle.cluster_types.specs.declared.leaf.Op.TheVariants as op
use Rattle.cluster_types.specs.declared.leaf.Role.TheVariants as role
use Rattle.cluster_types.specs.declared.states.CellState.{CellState}
use Rattle.cluster_types.specs.CellStates.{cell_state}
use Rattle.cluster_types.specs.NeededActions.{Cycled, fence, probe, step, Needed, kept, GetsStep, runs}
use Rattle.cluster_types.specs.NodeStates.{is_online}
use Rattle.cluster_types.specs.Pins.{is_unprobed_state}
use Rattle.cluster_types.specs.Rights.{may_start, is_to_be_fenced}
use Rattle.cluster_types.specs.Steps.{Transition, Begins, has_succeeded}
use Rattle.cluster_types.specs.Tables.{Targets, is_somewhere}
use Rattle.cluster_types.proofs.NeededLaws.{can_be_cycled}
use Rattle.cluster_types.proofs.StepLaws.{has_preceded}
use Rattle.run_safety.proofs.Carried.{HasNumber, Carries}
use Rattle.run_safety.proofs.InFlight.{number_within}
use Rattle.run_safety.proofs.Leads.{Must}
use Rattle.run_safety.proofs.Truths.{refuse}

module _ (t : Transition) where
  -- the state of a cell when the transition was planned
  abbrev pub state : ℕ → ℕ → CellState
  state r n = cell_state t.cluster r n t.planned_at

  -- an action, if it has a number, has succeeded
  abbrev pub Done : List Event → Action → Type 0
  Done since x = (number : HasNumber t x) → has_succeeded t since number.number ≡ true

  -- the node is online, or the cluster may start
  abbrev pub Acts : ℕ → Type 0
  Acts n = (is_online t.cluster n t.planned_at ≡ true) ⊎ (may_start t.cluster t.planned_at ≡ true)

  module _ (targets : Targets) where
    abbrev pub IsNeeded : Action → Type 0
    IsNeeded a = Needed t.cluster t.planned_at targets a

    -- what must precede an action that begins has succeeded
    pub succeeded : Carries t targets → (since : List Event) (k : ℕ) (x a : Action) → Begins t since k a → Must t x a → Done since x
    succeeded carries since k x a begins must number =
        let within = number_within t.actions number.number x number.is in
        has_preceded t since k begins.allowed number.number within.0 within.1 (carries.precede number.number k x a number.is begins.action must)

    pub fence_needed : (n : ℕ) → n < length t.cluster.nodes → is_to_be_fenced t.cluster n t.planned_at ≡ true → IsNeeded (Fence n)
    fence_needed n l e = kept (Fence n) (fence n l e) (λ s from m g same. let f : ⊥ = cc in f)

    module _ (r n : ℕ) where
      pub probe_needed : r < length t.cluster.leaves → n < length t.cluster.nodes → is_unprobed_state (state r n) ≡ true → IsNeeded (Probe r n)
      probe_needed h l e = kept (Probe r n) (probe r n h l e) (λ s from m g same. let f : ⊥ = cc in f)

      pub step_needed : (o : Op) → (o ≡ op.Start → ⊥) → r < length t.cluster.leaves → n < length t.cluster.nodes → GetsStep t.cluster t.planned_at targets r n o
          → IsNeeded (Operation o r n 0 role.Started)
      step_needed o other h l g = kept (Operation o r n 0 role.Started) (step r n o h l g) (λ s from m mig same. other (let e : o ≡ op.Start = cc in e))

      -- only what runs, and is to stay, is cycled
      pub uncycled_idle : runs (state r n) ≡ false → Cycled t.cluster t.planned_at targets r n → ⊥
      uncycled_idle still g =
          refuse (runs (state r n)) still (later _ (runs (state r n)) (sooner _ (is_somewhere (targets r n)) (can_be_cycled t.cluster t.planned_at targets r n g)))

      pub uncycled_nowhere : is_somewhere (targets r n) ≡ false → Cycled t.cluster t.planned_at targets r n → ⊥
      uncycled_nowhere nowhere g =
          refuse (is_somewhere (targets r n)) nowhere (later _ (is_somewhere (targets r n)) (can_be_cycled t.cluster t.planned_at targets r n g))
