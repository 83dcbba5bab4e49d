-- Which cells need a promote, and which promoted ones need nothing.
use Rattle.std.proofs.Common.{arith, ◌≡◌, if◌then◌else◌, Bool, true, false, [], refl, sym, subst}
use Rattle.std.specs.Prelude.{Contains}
use Rattle.cluster_types.specs.declared.leaf.Op.{Op}
use Rattle.cluster_types.specs.declared.leaf.Op.TheVariants as op
use Rattle.cluster_types.specs.declared.placement.Target.{Target}
use Rattle.cluster_types.specs.declared.placement.Target.TheVariants as target
use Rattle.cluster_types.specs.declared.states.CellState.{CellState}
use Rattle.cluster_types.specs.declared.states.CellState.TheVariants as cell
use Rattle.cluster_types.specs.NeededActions.{steps_of}

-- a promote among the steps of what isn't promoted yet
abbrev pub is_fresh : CellState → Bool
is_fresh cell.Unprobed = true
is_fresh cell.Off = true
is_fresh cell.Failed = true
is_fresh cell.On = true
is_fresh _ = false

pub promote_of : (pinned : Bool) (s : CellState) (cycled : Bool) → pinned ≡ false → is_fresh s ≡ true → Contains (if pinned then [] else steps_of s target.Promoted cycled) op.Promote
promote_of true s b e h = absurd (let f : ⊥ = cc in f)
promote_of false cell.Unprobed b e h = (1, omega arith, refl)
promote_of false cell.Off b e h = (1, omega arith, refl)
promote_of false cell.Failed b e h = (2, omega arith, refl)
promote_of false cell.On true e h = (2, omega arith, refl)
promote_of false cell.On false e h = (0, omega arith, refl)
promote_of false cell.Promoted b e h = absurd (let f : ⊥ = cc in f)
promote_of false cell.Away b e h = absurd (let f : ⊥ = cc in f)
promote_of false cell.Blocked b e h = absurd (let f : ⊥ = cc in f)

pub promote_of_cycled : (pinned : Bool) (s : CellState) → pinned ≡ false → s ≡ cell.Promoted → Contains (if pinned then [] else steps_of s target.Promoted true) op.Promote
promote_of_cycled true s e h = absurd (let f : ⊥ = cc in f)
promote_of_cycled false s e h = subst (λ z. Contains (steps_of z target.Promoted true) op.Promote) (sym h) (3, omega arith, refl)

pub no_step : {R : Type 0} (pinned : Bool) (s : CellState) (o : Op) → s ≡ cell.Promoted → Contains (if pinned then [] else steps_of s target.Promoted false) o → R
no_step true s o h (k, low, e) = absurd (let f : ⊥ = omega arith in f)
no_step false s o h k = empty (subst (λ z. Contains (steps_of z target.Promoted false) o) h k)
  where
    empty : {R : Type 0} → Contains [] o → R
    empty (k, low, e) = absurd (let f : ⊥ = omega arith in f)

pub pinned_up : (stays up : Bool) (u : Target) → u ≡ (if stays then (if up then target.Promoted else target.Started) else target.Nowhere) → u ≡ target.Promoted → (stays ≡ true) × (up ≡ true)
pinned_up true true u e h = (refl, refl)
pinned_up true false u e h = absurd (let f : ⊥ = cc in f)
pinned_up false up u e h = absurd (let f : ⊥ = cc in f)
