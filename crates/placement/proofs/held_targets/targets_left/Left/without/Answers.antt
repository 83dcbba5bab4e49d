use Rattle.std.proofs.Common.{◌==◌, ◌&&◌, if◌then◌else◌, ◌∙◌, ap}
use Rattle.cluster_types.specs.declared.placement.Target.{Target}
use Rattle.cluster_types.specs.Tables.{targets_of}
use Rattle.placement.proofs.FewerRoles.{fewer, in_table, on_node}
use Rattle.placement.proofs.held_targets.targets_left.Left.without.Goals as goal

pub with_target-requires-clause-on_node : goal.with_target-requires-clause-on_node
with_target-requires-clause-on_node c = on_node c.args.self.table c.args.leaf c.args.role c.args.node c.requires

pub with_target-requires-clause-within : goal.with_target-requires-clause-within
with_target-requires-clause-within c = in_table c.args.self.table c.args.leaf c.args.role c.args.node c.requires

pub returns-clause-fewer : goal.returns-clause-fewer
returns-clause-fewer c =
    let a = c.args in
    let old = targets_of a.self.table in
    let set = c.with_target.ensures in
    fewer a.self.table c.with_target.result a.leaf a.role a.node c.requires set.nodes set.size (λ r n.
    set.targets r n ∙ ap (λ (t : Target). if r == a.leaf && n == a.node then t else old r n) c.below.ensures)
