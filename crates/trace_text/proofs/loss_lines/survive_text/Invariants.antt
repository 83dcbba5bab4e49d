use Rattle.std.proofs.Common.{◌≡◌, take}
use Rattle.std.specs.List.{flat_map}
use Rattle.trace_text.specs.Losses.{loss_lines}
use Rattle.trace_text.proofs.loss_lines.survive_text.Given as goal

abbrev pub invariant-loop-loss : goal.invariant-loop-loss
invariant-loop-loss l = l.text.items ≡ flat_map (loss_lines l.cluster) (take l.loss-index l.report.losses)
