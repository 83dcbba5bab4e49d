use Rattle.std.proofs.Common.{◌≡◌, ◌==◌, ◌≤◌, ◌-◌, filter, slice_index_or, length, vec_capacity}
use Rattle.std.specs.List.{range_with_len}
use Rattle.graph_exec.proofs.transition.queue.free_gates.Given as goal

abbrev pub invariant-loop-position : goal.invariant-loop-position
invariant-loop-position l = record {
  gates : l.gates.items ≡ filter (λ x. slice_index_or l.counts x 0 == 0) (range_with_len l.actions (l.position - l.actions));
  few : length l.gates.items ≤ l.position;
  room : l.positions ≤ vec_capacity l.gates;
}
