use Rattle.std.proofs.Common.{◌≡◌, ◌++◌, drop}
use Rattle.cluster_model.specs.Inner.Spans.{numbers_from, numbers_of}
use Rattle.cluster_model.proofs.expansion.spans.numbers_of.Given as goal

abbrev pub invariant-loop-leaf : goal.invariant-loop-leaf
invariant-loop-leaf l = record {
  all : numbers_of l.leaves ≡ l.numbers ++ numbers_from l.next (drop l.leaf-index l.leaves);
  so_many : l.next ≡ l.leaf-index;
}
