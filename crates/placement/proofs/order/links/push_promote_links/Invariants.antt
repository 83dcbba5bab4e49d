use Rattle.std.proofs.Common.{◌≡◌, ◌++◌, take}
use Rattle.std.specs.List.{flat_map}
use Rattle.placement.specs.Inner.Links.{promote_links}
use Rattle.placement.proofs.order.links.push_promote_links.Given as goal

abbrev pub invariant-loop-decision : goal.invariant-loop-decision
invariant-loop-decision l = l.links.items ≡ l.fn.links.items ++ flat_map promote_links (take l.decision-index l.decision-items)
