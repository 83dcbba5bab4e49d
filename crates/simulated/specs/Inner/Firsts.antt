-- What a simulated cluster is made of at first: of which cells a journal has heard, and what is kept of cells as they are filled (follows from the
-- definitions of outcomes in force).
use Rattle.std.specs.Prelude.{◌≡◌, ℕ, ◌+◌, ◌*◌, ◌<◌, Bool, if◌then◌else◌, is_some, Some, List, length, slice_get}
use Rattle.cluster_types.specs.declared.cluster.Cluster.{Cluster}
use Rattle.cluster_types.specs.declared.journal.Event.{Event}
use Rattle.cluster_types.specs.CellStates.{last_outcome}
use Rattle.simulated.specs.declared.real.Real.{Real}
use Rattle.simulated.specs.RealWorlds.{Cells}

-- the list says of each cell whether an outcome of it is in force
pub record HearsOutcomes (c : Cluster) (es : List Event) (heard : List Bool) : Type 0 where
  pub full : length heard ≡ length c.leaves * length c.nodes
  pub each : (r n : ℕ) → r < length c.leaves → n < length c.nodes → slice_get heard (r * length c.nodes + n) ≡ Some (is_some (last_outcome c r n es))

-- this was said of some cells, and nothing of the others
pub record IsSaidOf (c : Cluster) (touched : ℕ → ℕ → Bool) (is_heard : Bool) (old new : List Bool) : Type 0 where
  pub len : length new ≡ length old
  pub each : (r n : ℕ) → r < length c.leaves → n < length c.nodes
      → slice_get new (r * length c.nodes + n) ≡ (if touched r n then Some is_heard else slice_get old (r * length c.nodes + n))

-- the list has the first of these cells, leaf by leaf and node by node
pub record IsFilled (c : Cluster) (kept : List Real) (cells : Cells) : Type 0 where
  pub each : (r n : ℕ) → r < length c.leaves → n < length c.nodes → r * length c.nodes + n < length kept
      → slice_get kept (r * length c.nodes + n) ≡ Some (cells r n)
