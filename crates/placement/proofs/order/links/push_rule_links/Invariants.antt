use Rattle.std.proofs.Common.{◌≡◌, ◌++◌, take}
use Rattle.std.specs.List.{flat_map}
use Rattle.placement.specs.Inner.Links.{rule_links}
use Rattle.placement.proofs.order.links.push_rule_links.Given as goal

abbrev pub invariant-loop-rule : goal.invariant-loop-rule
invariant-loop-rule l = l.links.items ≡ l.fn.links.items ++ flat_map (rule_links l.set.list.items) (take l.rule-index l.rule-items)
