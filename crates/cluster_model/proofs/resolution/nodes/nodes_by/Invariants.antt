use Rattle.std.proofs.Common.{◌≡◌, take}
use Rattle.cluster_model.specs.Nodes.{nodes_by}
use Rattle.cluster_model.proofs.resolution.nodes.nodes_by.Given as goal

abbrev pub invariant-loop-statement : goal.invariant-loop-statement
invariant-loop-statement l = l.nodes ≡ nodes_by (take l.statement-index l.statements)
