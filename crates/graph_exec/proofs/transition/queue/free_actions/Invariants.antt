use Rattle.std.proofs.Common.{◌≡◌, ◌==◌, ◌<◌, ◌≤◌, ℕ, false, slice_index_or, length}
use Rattle.graph_exec.proofs.transition.queue.free_actions.Given as goal

abbrev pub invariant-loop-position : goal.invariant-loop-position
invariant-loop-position l = record {
  size : length l.free ≡ l.actions;
  done : (x : ℕ) → x < l.position → slice_index_or l.free x false ≡ (slice_index_or l.counts x 0 == 0);
  rest : (x : ℕ) → l.position ≤ x → slice_index_or l.free x false ≡ false;
}
