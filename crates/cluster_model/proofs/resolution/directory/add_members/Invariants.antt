use Rattle.std.proofs.Common.{◌≡◌, ◌++◌, drop, map}
use Rattle.cluster_model.proofs.resolution.directory.add_members.Given as goal

abbrev pub invariant-loop-member : goal.invariant-loop-member
invariant-loop-member l = l.fn.groups ++ map (λ member. (member, l.number)) l.members
    ≡ l.groups ++ map (λ member. (member, l.number)) (drop l.member-index l.members)
