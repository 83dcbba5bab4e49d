use Rattle.std.proofs.Common.{◌≡◌, ◌≤◌, length, take}
use Rattle.cluster_model.specs.Inner.Leaves.{leaves_in}
use Rattle.cluster_model.proofs.expansion.leaf.leaves_in.Given as goal

abbrev pub invariant-loop-statement : goal.invariant-loop-statement
invariant-loop-statement l = record {
  all : l.leaves ≡ leaves_in l.surroundings (take l.statement-index l.statements);
  few : length l.leaves ≤ l.statement-index;
}
