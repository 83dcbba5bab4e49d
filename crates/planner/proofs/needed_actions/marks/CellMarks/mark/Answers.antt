use Rattle.planner.proofs.MarkCells.{marked_more}
use Rattle.planner.proofs.needed_actions.marks.CellMarks.mark.Goals as goal

pub returns-clause-marks : goal.returns-clause-marks
returns-clause-marks c = rw c.cell_place-place.ensures (marked_more c.args.self.now.nodes c.args.self.now.cells.items c.args.leaf c.args.node c.requires.on_node c.requires.within)
