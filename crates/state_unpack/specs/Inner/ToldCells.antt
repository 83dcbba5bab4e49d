-- What one more event changes of what is kept of all cells (rule of this project).
use Rattle.std.specs.Prelude.{◌≡◌, ℕ, ◌<◌, Bool, if◌then◌else◌, List, length}
use Rattle.std.specs.Option.{option_map}
use Rattle.cluster_types.specs.declared.cluster.Cluster.{Cluster}
use Rattle.cluster_types.specs.declared.journal.Event.{Event}
use Rattle.state_unpack.specs.declared.facts.Facts.{Facts}
use Rattle.state_unpack.specs.Inner.Facts.{facts_after}
use Rattle.state_unpack.specs.KeptCells.{cell_in}

-- some cells were told of one more event, and no others
pub record TellsEvent (c : Cluster) (e : Event) (touched : ℕ → ℕ → Bool) (old new : List Facts) : Type 0 where
  pub len : length new ≡ length old
  pub told : (r n : ℕ) → r < length c.leaves → n < length c.nodes
      → cell_in c new r n ≡ (if touched r n then option_map (λ facts. facts_after c r n facts e) (cell_in c old r n) else cell_in c old r n)
