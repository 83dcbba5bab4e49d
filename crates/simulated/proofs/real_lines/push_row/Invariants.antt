use Rattle.std.proofs.Common.{◌≡◌, ℕ, ◌++◌}
use Rattle.std.specs.List.{flat_map, range_with_len}
use Rattle.simulated.specs.KeptReality.{ShowsWorld}
use Rattle.simulated.specs.RealWorlds.{RealWorld, found_at}
use Rattle.simulated.specs.WorldTexts.{real_line}
use Rattle.simulated.proofs.real_lines.push_row.Given as goal

abbrev pub invariant-loop-node : goal.invariant-loop-node
invariant-loop-node l =
    (w : RealWorld) → ShowsWorld l.world.reality w
    → l.text.items ≡ l.fn.text.items ++ flat_map (λ (n : ℕ). real_line l.cluster l.leaf n (found_at l.cluster w.cells l.leaf n)) (range_with_len 0 l.node)
