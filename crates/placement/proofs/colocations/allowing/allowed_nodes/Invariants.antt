use Rattle.std.proofs.Common.{◌≡◌, ℕ, ◌&&◌, take}
use Rattle.std.specs.List.{list_all}
use Rattle.cluster_types.specs.Tables.{targets_of}
use Rattle.score.specs.NodeSet.{has}
use Rattle.placement.specs.Inner.AllowedNodes.{allows}
use Rattle.placement.proofs.colocations.allowing.allowed_nodes.Given as goal

abbrev pub invariant-loop-rule : goal.invariant-loop-rule
invariant-loop-rule l = (n : ℕ)
    → has l.left n ≡ (has l.fn.among n && list_all (allows (targets_of l.table) l.decision n) (take l.rule-index l.rule-items))
