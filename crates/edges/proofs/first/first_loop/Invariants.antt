use Rattle.std.proofs.Common.{◌-◌, ◌<◌, ◌≤◌, length, take}
use Rattle.edges.specs.Loops.{HasLoop, HasNoLoop}
use Rattle.edges.proofs.first.first_loop.Given as goal

abbrev pub invariant-loop-free : goal.invariant-loop-free
invariant-loop-free l = record {
  apart : l.free < l.looped;
  within : l.looped ≤ length l.edges;
  none : HasNoLoop (take l.free l.edges);
  some : HasLoop (take l.looped l.edges);
}

abbrev pub decreases-loop-free : goal.decreases-loop-free
decreases-loop-free l = l.looped - l.free
