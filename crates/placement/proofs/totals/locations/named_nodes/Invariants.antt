use Rattle.std.proofs.Common.{◌≡◌, ◌||◌, ◌<◌, ℕ, length, take}
use Rattle.score.specs.NodeSet.{has}
use Rattle.placement.specs.Locations.{is_named, is_named_by_rule}
use Rattle.placement.proofs.totals.locations.named_nodes.Given as goal

abbrev pub invariant-loop-rule : goal.invariant-loop-rule
invariant-loop-rule l = (n : ℕ) → n < length l.cluster.nodes
    → has l.named n ≡ (is_named l.leaf l.cluster.locations n || is_named_by_rule l.cluster l.moment l.leaf (take l.rule-index l.rule-items) n)
