use Rattle.std.proofs.Common.{take}
use Rattle.edges.specs.Inner.Rows.{AreRows}
use Rattle.edges.proofs.rows.Rows.new.Given as goal

abbrev pub invariant-loop-edge : goal.invariant-loop-edge
invariant-loop-edge l = AreRows l.positions l.edges (take l.edge-index l.edges) l.ends.items l.targets.items
