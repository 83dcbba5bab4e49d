use Rattle.std.proofs.Common.{◌≡◌, ◌++◌}
use Rattle.std.specs.List.{flat_map, range_with_len}
use Rattle.simulated.specs.KeptReality.{ShowsWorld}
use Rattle.simulated.specs.RealWorlds.{RealWorld}
use Rattle.simulated.specs.WorldTexts.{real_row}
use Rattle.simulated.proofs.real_lines.push_real_lines.Given as goal

abbrev pub invariant-loop-leaf : goal.invariant-loop-leaf
invariant-loop-leaf l =
    (w : RealWorld) → ShowsWorld l.world.reality w → l.text.items ≡ l.fn.text.items ++ flat_map (real_row l.cluster w.cells) (range_with_len 0 l.leaf)
