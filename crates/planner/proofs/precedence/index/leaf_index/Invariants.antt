use Rattle.std.proofs.Common.{◌≡◌}
use Rattle.std.specs.Prelude.{vec_len}
use Rattle.planner.specs.Inner.Index.{IsIndexBefore}
use Rattle.planner.proofs.precedence.index.leaf_index.Given as goal

abbrev pub invariant-loop-place : goal.invariant-loop-place
invariant-loop-place l = (vec_len l.index ≡ l.leaves) × IsIndexBefore l.actions l.leaves l.place l.index.items
