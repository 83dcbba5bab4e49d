-- What a list of what cells need says of each, with the marks of those that are cycled (rule of this project).
use Rattle.std.specs.Prelude.{◌≡◌, ◌↔◌, ℕ, true, List, length}
use Rattle.cluster_types.specs.declared.cluster.Cluster.{Cluster}
use Rattle.cluster_types.specs.declared.journal.Event.{Event}
use Rattle.cluster_types.specs.NeededActions.{Cycled}
use Rattle.cluster_types.specs.Tables.{Targets}
use Rattle.planner.specs.CycledCells.{MarkedCells}
use Rattle.planner.specs.Inner.Levels.{AreNeeds, marks_in, need_in}
use Rattle.planner.specs.declared.needed_actions.steps.CellNeed.{CellNeed}
use Rattle.planner.specs.declared.needed_actions.work.CellWork.{CellWork}

abbrev pub needs_of : CellWork → ℕ → ℕ → CellNeed
needs_of work = need_in work.marks.nodes work.needs.items

abbrev pub marks_of : CellWork → MarkedCells
marks_of work = marks_in work.marks.nodes work.marks.cells.items

-- the list says of each cell of the cluster what it needs, and the marks are those of the cells that are cycled
pub record IsWork (c : Cluster) (es : List Event) (targets : Targets) (work : CellWork) : Type 0 where
  pub nodes : work.marks.nodes ≡ length c.nodes
  pub needs : AreNeeds c es targets work.needs.items
  pub cycled : (r n : ℕ) → marks_of work r n ≡ true ↔ Cycled c es targets r n
