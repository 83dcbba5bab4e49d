use Rattle.std.proofs.Common.{◌≡◌}
use Rattle.cluster_types.specs.Tables.{targets_of}
use Rattle.trace_text.specs.Inner.TargetWalk.{places_left, target_lines_from}
use Rattle.trace_text.proofs.target_walk.next_line.Given as goal

abbrev pub invariant-loop-place : goal.invariant-loop-place
invariant-loop-place l =
    target_lines_from l.cluster l.pins (targets_of l.table) l.none l.fn.place ≡ target_lines_from l.cluster l.pins (targets_of l.table) l.none l.place

abbrev pub decreases-loop-place : goal.decreases-loop-place
decreases-loop-place l = places_left l.cluster l.place
