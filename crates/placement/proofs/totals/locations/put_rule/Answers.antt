use Rattle.std.proofs.Common.{rules, ◌≡◌, ◌==◌, ◌&&◌, ◌++◌, ◌∷◌, [], true, if◌then◌else◌, length, ap}
use Rattle.score.specs.NodeSet.{has}
use Rattle.placement.specs.Inner.Locations.{is_role}
use Rattle.placement.specs.Rows.{more_where}
use Rattle.placement.proofs.TermRows.{row-same}
use Rattle.placement.proofs.totals.locations.put_rule.Goals as goal

pub returns-then-is_of : goal.returns-then-is_of
returns-then-is_of c = λ terms is.
    let nodes = length c.args.cluster.now.nodes in
    let rule = c.args.rule.now in
    let wanted : (rule.leaf == c.args.leaf && is_role c.args.role rule.role) ≡ true = search rules in
    rw wanted
    (row-same nodes (more_where (has c.nodes_of-set.result) rule.score terms) _ c.put_each.new.row
    (λ n low. ap (λ b. terms n ++ (if b then rule.score ∷ [] else [])) (c.nodes_of-set.ensures n low))
    (search rules))
