use Rattle.std.proofs.Common.{◌≡◌, ◌++◌, drop}
use Rattle.cluster_model.specs.Inner.Directories.{groups_of, grouped_from}
use Rattle.cluster_model.proofs.resolution.directory.groups_of.Given as goal

abbrev pub invariant-loop-statement : goal.invariant-loop-statement
invariant-loop-statement l = record {
  all : groups_of l.statements ≡ l.groups ++ grouped_from l.number (drop l.statement-index l.statements);
  so_many : l.number ≡ l.statement-index;
}
