use Rattle.std.proofs.Common.{◌≡◌, ◌-◌, ◌+◌, ◌*◌, false, take}
use Rattle.std.specs.List.{list_any}
use Rattle.cluster_types.specs.Inner.Walks.{leads_by}
use Rattle.cluster_types.proofs.graph.+paths.Given as goal

abbrev pub decreases-leads_by : goal.decreases-leads_by
decreases-leads_by l = 2 * l.most + 1

abbrev pub decreases-leads : goal.decreases-leads
decreases-leads l = 2 * l.most

abbrev pub invariant-leads-loop-edge : goal.invariant-leads-loop-edge
invariant-leads-loop-edge l = list_any (leads_by (l.most - 1) l.actions l.edges l.from l.to) (take l.edge-index l.edges) ≡ false
