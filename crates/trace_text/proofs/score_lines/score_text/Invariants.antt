use Rattle.std.proofs.Common.{◌≡◌, take}
use Rattle.std.specs.List.{flat_map}
use Rattle.cluster_types.specs.Texts.{decided_lines}
use Rattle.trace_text.proofs.score_lines.score_text.Given as goal

abbrev pub invariant-loop-made : goal.invariant-loop-made
invariant-loop-made l = l.text.items ≡ flat_map (decided_lines l.cluster) (take l.made-index l.placed.decided)
