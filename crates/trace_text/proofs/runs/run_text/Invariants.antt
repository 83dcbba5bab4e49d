use Rattle.std.proofs.Common.{◌≡◌, ◌+◌, ◌++◌, length}
use Rattle.std.specs.List.{flat_map}
use Rattle.cluster_types.specs.Texts.{all_passed_lines, run_line}
use Rattle.trace_text.proofs.runs.run_text.Given as goal

abbrev pub invariant-loop-passed : goal.invariant-loop-passed
invariant-loop-passed l = record {
  so_far : l.text.items ++ flat_map (run_line l.cluster) (all_passed_lines l.cluster l.run.journal.events l.number l.left)
      ≡ flat_map (run_line l.cluster) (all_passed_lines l.cluster l.run.journal.events 1 l.run.passed);
  numbers : l.number + length l.left ≡ 1 + length l.run.passed;
}

abbrev pub decreases-loop-passed : goal.decreases-loop-passed
decreases-loop-passed l = length l.left
