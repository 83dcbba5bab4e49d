use Rattle.std.proofs.Common.{◌≡◌, ◌≤◌, take}
use Rattle.cluster_model.specs.Settings.{count_nodes}
use Rattle.cluster_model.proofs.expansion.settings.count_nodes.Given as goal

abbrev pub invariant-loop-statement : goal.invariant-loop-statement
invariant-loop-statement l = record { counted : l.count ≡ count_nodes (take l.statement-index l.statements); few : l.count ≤ l.statement-index }
