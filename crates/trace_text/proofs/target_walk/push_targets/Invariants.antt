use Rattle.std.proofs.Common.{◌≡◌, ◌++◌, length}
use Rattle.std.specs.List.{flat_map}
use Rattle.cluster_types.specs.Tables.{targets_of}
use Rattle.cluster_types.specs.Texts.{run_line, target_lines}
use Rattle.trace_text.specs.Inner.TargetWalk.{target_lines_from}
use Rattle.trace_text.proofs.target_walk.push_targets.Given as goal

abbrev pub invariant-loop-line : goal.invariant-loop-line
invariant-loop-line l =
    l.text.items ++ flat_map (run_line l.cluster) (target_lines_from l.cluster l.pins (targets_of l.table) l.none l.place)
    ≡ l.fn.text.items ++ flat_map (run_line l.cluster) (target_lines l.cluster l.pins (targets_of l.table) l.none)

abbrev pub decreases-loop-line : goal.decreases-loop-line
decreases-loop-line l = length (target_lines_from l.cluster l.pins (targets_of l.table) l.none l.place)
