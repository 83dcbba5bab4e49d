-- What is kept of all cells, leaf by leaf and node by node (rule of this project).
use Rattle.std.specs.Prelude.{◌≡◌, ℕ, ◌+◌, ◌*◌, ◌<◌, Option, Some, List, length, slice_get}
use Rattle.cluster_types.specs.declared.cluster.Cluster.{Cluster}
use Rattle.cluster_types.specs.declared.journal.Event.{Event}
use Rattle.state_unpack.specs.declared.facts.Facts.{Facts}
use Rattle.state_unpack.specs.Facts.{facts_of}

-- a list has one element for each cell
abbrev pub IsFull : {X : Type 0} → Cluster → List X → Type 0
IsFull c cells = length cells ≡ length c.leaves * length c.nodes

-- the element for a cell
abbrev pub cell_in : {X : Type 0} → Cluster → List X → ℕ → ℕ → Option X
cell_in c cells r n = slice_get cells (r * length c.nodes + n)

-- the list has what some events tell of each cell
pub record KeepsFacts (c : Cluster) (es : List Event) (cells : List Facts) : Type 0 where
  pub full : IsFull c cells
  pub told : (r n : ℕ) → r < length c.leaves → n < length c.nodes → cell_in c cells r n ≡ Some (facts_of c r n es)
