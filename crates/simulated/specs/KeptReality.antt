-- How a simulated cluster is kept, and which one it stands for (rule of this project).
-- The lists of `RealityOf` are how it is kept. What happens in a simulated cluster is said of a `RealWorld`, and `ShowsWorld` joins both.
use Rattle.std.specs.Prelude.{◌≡◌, ◌≢◌, ℕ, ◌+◌, ◌*◌, ◌<◌, Option, Some, List, length, slice_get}
use Rattle.cluster_types.specs.declared.cluster.Cluster.{Cluster}
use Rattle.simulated.specs.declared.real.Real.{Real}
use Rattle.simulated.specs.declared.real.Real.TheVariants as real
use Rattle.simulated.specs.declared.real.Standing.{Standing}
use Rattle.cases.specs.Draws.{state_after}
use Rattle.simulated.specs.RealWorlds.{Cells, RealWorld}

-- how each node stands; what each leaf does on each node, leaf by leaf and node by node; which cell comes up, if one does; the number, the state of its
-- draws, and how many faults it was given
pub record RealityOf : Type 0 where
  pub cluster : Cluster
  pub nodes : List Standing
  pub cells : List Real
  pub rising : Option (ℕ × ℕ)
  pub number : ℕ
  pub state : ℕ
  pub faults : ℕ

abbrev pub reality : Cluster → List Standing → List Real → Option (ℕ × ℕ) → ℕ → ℕ → ℕ → RealityOf
reality c nodes cells rising number state faults = record {
  cluster = c;
  nodes = nodes;
  cells = cells;
  rising = rising;
  number = number;
  state = state;
  faults = faults;
}

-- what a leaf does on a node, of a list that goes leaf by leaf and node by node
abbrev pub listed_cell : Cluster → List Real → ℕ → ℕ → Option Real
listed_cell c listed r n = slice_get listed (r * length c.nodes + n)

-- the list has these cells
pub record ListsCells (c : Cluster) (listed : List Real) (cells : Cells) : Type 0 where
  pub each : (r n : ℕ) → r < length c.leaves → n < length c.nodes → listed_cell c listed r n ≡ Some (cells r n)

-- no cell of the list comes up
abbrev pub NoneRises : Cluster → List Real → Type 0
NoneRises c listed = (r n : ℕ) → r < length c.leaves → n < length c.nodes → listed_cell c listed r n ≢ Some real.Rising

-- the list says how these nodes stand
abbrev pub ListsNodes : ℕ → List Standing → (ℕ → Standing) → Type 0
ListsNodes count listed nodes = (n : ℕ) → n < count → slice_get listed n ≡ Some (nodes n)

-- no cell comes up but this one
abbrev pub IsAlone : Cluster → Option (ℕ × ℕ) → Cells → Type 0
IsAlone c rising cells = (r n : ℕ) → r < length c.leaves → n < length c.nodes → cells r n ≡ real.Rising → rising ≡ Some (r, n)

-- it stands for this simulated cluster. It stands for none where a cell comes up and isn't kept as the one that does
pub record ShowsWorld (k : RealityOf) (w : RealWorld) : Type 0 where
  pub nodes : ListsNodes (length k.cluster.nodes) k.nodes w.nodes
  pub cells : ListsCells k.cluster k.cells w.cells
  pub alone : IsAlone k.cluster k.rising w.cells
  pub state : k.state ≡ state_after k.number w.drawn
  pub faults : k.faults ≡ w.faults

-- the cluster and the number stay
pub record IsOfSame (old new : RealityOf) : Type 0 where
  pub cluster : new.cluster ≡ old.cluster
  pub number : new.number ≡ old.number
