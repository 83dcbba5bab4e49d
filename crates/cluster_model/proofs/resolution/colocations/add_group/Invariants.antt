use Rattle.std.proofs.Common.{◌≡◌, drop, map, ◌++◌}
use Rattle.cluster_model.specs.SuccessivePairs.{pairs_after, successive}
use Rattle.cluster_model.specs.Inner.Colocations.{member_colocation}
use Rattle.cluster_model.proofs.resolution.colocations.add_group.Given as goal

abbrev pub invariant-loop-member : goal.invariant-loop-member
invariant-loop-member l = l.fn.colocations ++ map (member_colocation l.directory l.id) (successive l.members)
    ≡ l.colocations ++ map (member_colocation l.directory l.id) (pairs_after l.before (drop l.member-index l.others))
