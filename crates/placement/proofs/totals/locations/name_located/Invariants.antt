use Rattle.std.proofs.Common.{◌≡◌, ◌||◌, ℕ, take}
use Rattle.score.specs.NodeSet.{has}
use Rattle.placement.specs.Locations.{is_named}
use Rattle.placement.proofs.totals.locations.name_located.Given as goal

abbrev pub invariant-loop-rule : goal.invariant-loop-rule
invariant-loop-rule l = (n : ℕ) → has l.named n ≡ (has l.fn.named n || is_named l.leaf (take l.rule-index l.rule-items) n)
