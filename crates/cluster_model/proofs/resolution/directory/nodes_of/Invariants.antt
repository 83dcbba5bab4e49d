use Rattle.std.proofs.Common.{◌≡◌, ◌≤◌, ◌++◌, drop}
use Rattle.std.specs.List.{flat_map}
use Rattle.cluster_model.specs.Settings.{node_names_in}
use Rattle.cluster_model.specs.Inner.Directories.{nodes_of, numbered_from}
use Rattle.cluster_model.proofs.resolution.directory.nodes_of.Given as goal

abbrev pub invariant-loop-statement : goal.invariant-loop-statement
invariant-loop-statement l = record {
  all : nodes_of l.statements ≡ l.nodes ++ numbered_from l.next (flat_map (λ s. node_names_in s.form) (drop l.statement-index l.statements));
  few : l.next ≤ l.statement-index;
}
