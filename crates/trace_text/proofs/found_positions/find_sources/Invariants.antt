use Rattle.std.proofs.Common.{◌≡◌, ◌||◌, ℕ, length, take}
use Rattle.edges.specs.Sources.{is_in_list}
use Rattle.listed.specs.Flags.{is_marked}
use Rattle.trace_text.proofs.found_positions.find_sources.Given as goal

abbrev pub invariant-loop-source : goal.invariant-loop-source
invariant-loop-source l = record {
  size : length l.found ≡ length l.fn.found;
  so_far : (x : ℕ) → is_marked l.found x ≡ (is_marked l.fn.found x || is_in_list (take l.source-index l.source-items) x);
}
