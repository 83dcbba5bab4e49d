-- Which steps a cell can need, by its state and target.
use Rattle.std.proofs.Common.{inl, inr, ◌≡◌, ◌&&◌, if◌then◌else◌, ℕ, Bool, true, false, List, [], refl}
use Rattle.std.specs.Prelude.{Contains}
use Rattle.std.specs.List.{list_all}
use Rattle.lemmas.proofs.Members.{in_none}
use Rattle.lemmas.proofs.Searches.{each_passes}
use Rattle.cluster_types.specs.declared.cluster.Cluster.{Cluster}
use Rattle.cluster_types.specs.declared.journal.Event.{Event}
use Rattle.cluster_types.specs.declared.leaf.Op.{Op}
use Rattle.cluster_types.specs.declared.leaf.Op.TheVariants as op
use Rattle.cluster_types.specs.declared.placement.Target.{Target}
use Rattle.cluster_types.specs.declared.placement.Target.TheVariants as target
use Rattle.cluster_types.specs.declared.states.CellState.{CellState}
use Rattle.cluster_types.specs.declared.states.CellState.TheVariants as cell
use Rattle.cluster_types.specs.CellStates.{cell_state}
use Rattle.cluster_types.specs.NeededActions.{GetsStep, steps_at, steps_of}
use Rattle.cluster_types.specs.Pins.{is_pinned}
use Rattle.cluster_types.specs.Tables.{Targets, is_promoted_target, is_somewhere}
use Rattle.cluster_types.specs.Terms.{is_active}

-- its node is there, and it isn't blocked
abbrev pub is_known : CellState → Bool
is_known cell.Away = false
is_known cell.Blocked = false
is_known _ = true

abbrev pub is_promoted_state : CellState → Bool
is_promoted_state cell.Promoted = true
is_promoted_state _ = false

pub promoted_state : (s : CellState) → is_promoted_state s ≡ true → s ≡ cell.Promoted
promoted_state cell.Promoted h = refl
promoted_state cell.Away h = cc
promoted_state cell.Unprobed h = cc
promoted_state cell.Blocked h = cc
promoted_state cell.Failed h = cc
promoted_state cell.On h = cc
promoted_state cell.Off h = cc

-- a cell of this state and target can need the step
abbrev pub fits : CellState → Target → Op → Bool
fits s t op.Start = is_known s && is_somewhere t
fits s t op.Promote = is_known s && is_promoted_target t
fits s t op.Stop = is_active s
fits s t op.Demote = is_promoted_state s
fits s t op.Monitor = false

steps_fit : (s : CellState) (t : Target) (cycled : Bool) → list_all (fits s t) (steps_of s t cycled) ≡ true
steps_fit cell.Away target.Nowhere true = refl
steps_fit cell.Away target.Nowhere false = refl
steps_fit cell.Away target.Started true = refl
steps_fit cell.Away target.Started false = refl
steps_fit cell.Away target.Promoted true = refl
steps_fit cell.Away target.Promoted false = refl
steps_fit cell.Unprobed target.Nowhere true = refl
steps_fit cell.Unprobed target.Nowhere false = refl
steps_fit cell.Unprobed target.Started true = refl
steps_fit cell.Unprobed target.Started false = refl
steps_fit cell.Unprobed target.Promoted true = refl
steps_fit cell.Unprobed target.Promoted false = refl
steps_fit cell.Blocked target.Nowhere true = refl
steps_fit cell.Blocked target.Nowhere false = refl
steps_fit cell.Blocked target.Started true = refl
steps_fit cell.Blocked target.Started false = refl
steps_fit cell.Blocked target.Promoted true = refl
steps_fit cell.Blocked target.Promoted false = refl
steps_fit cell.Failed target.Nowhere true = refl
steps_fit cell.Failed target.Nowhere false = refl
steps_fit cell.Failed target.Started true = refl
steps_fit cell.Failed target.Started false = refl
steps_fit cell.Failed target.Promoted true = refl
steps_fit cell.Failed target.Promoted false = refl
steps_fit cell.Promoted target.Nowhere true = refl
steps_fit cell.Promoted target.Nowhere false = refl
steps_fit cell.Promoted target.Started true = refl
steps_fit cell.Promoted target.Started false = refl
steps_fit cell.Promoted target.Promoted true = refl
steps_fit cell.Promoted target.Promoted false = refl
steps_fit cell.On target.Nowhere true = refl
steps_fit cell.On target.Nowhere false = refl
steps_fit cell.On target.Started true = refl
steps_fit cell.On target.Started false = refl
steps_fit cell.On target.Promoted true = refl
steps_fit cell.On target.Promoted false = refl
steps_fit cell.Off target.Nowhere true = refl
steps_fit cell.Off target.Nowhere false = refl
steps_fit cell.Off target.Started true = refl
steps_fit cell.Off target.Started false = refl
steps_fit cell.Off target.Promoted true = refl
steps_fit cell.Off target.Promoted false = refl

module _ (c : Cluster) (es : List Event) (targets : Targets) (r n : ℕ) (o : Op) where
  -- a step that a cell gets
  pub record IsStep : Type 0 where
    pub unpinned : is_pinned c es r ≡ false
    pub fitting : fits (cell_state c r n es) (targets r n) o ≡ true

  of_steps : (cycled : Bool) → Contains (steps_at c es targets r n cycled) o → IsStep
  of_steps cycled k = by (is_pinned c es r) refl k
    where
      by : (pinned : Bool) → is_pinned c es r ≡ pinned
          → Contains (if pinned then [] else steps_of (cell_state c r n es) (targets r n) cycled) o → IsStep
      by true e k = absurd (in_none o k)
      by false e k = record {
        unpinned = e;
        fitting = each_passes (fits (cell_state c r n es) (targets r n)) (steps_of (cell_state c r n es) (targets r n) cycled) o (steps_fit (cell_state c r n es) (targets r n) cycled) k;
      }

  pub is_step : GetsStep c es targets r n o → IsStep
  is_step (inl g) = of_steps true g.1
  is_step (inr g) = of_steps false g.1
