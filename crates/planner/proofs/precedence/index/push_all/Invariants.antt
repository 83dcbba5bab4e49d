use Rattle.std.proofs.Common.{◌≡◌, ◌++◌, take}
use Rattle.planner.proofs.precedence.index.push_all.Given as goal

abbrev pub invariant-loop-place : goal.invariant-loop-place
invariant-loop-place l = l.list.items ≡ l.initial.list.items ++ take l.place-index l.more
