use Rattle.std.proofs.Common.{◌≡◌, ◌++◌, map, drop}
use Rattle.cluster_model.proofs.expansion.groups.add_followers.Given as goal

abbrev pub invariant-loop-member : goal.invariant-loop-member
invariant-loop-member l = l.fn.grouped ++ map (λ member. (member, l.group)) l.members
    ≡ l.grouped ++ map (λ member. (member, l.group)) (drop l.member-index l.members)
