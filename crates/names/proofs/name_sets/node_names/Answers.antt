use Rattle.std.proofs.Common.{rules, ◌≡◌, ◌<◌, length, get_or}
use Rattle.cluster_types.specs.declared.node.Node.{Node}
use Rattle.names.specs.Sets.{borrowed_names}
use Rattle.names.specs.Inner.Sets.{with_name}
use Rattle.names.proofs.Sets.{one_more}
use Rattle.names.proofs.name_sets.node_names.Goals as goal

pub loop-node-preserved : goal.loop-node-preserved
loop-node-preserved c =
    let nodes = c.args.nodes.now in
    let i = c.loop-node.node-index in
    let node = c.node-item.result in
    let within : i < length nodes = search rules in
    let is_it : node ≡ get_or nodes i node = search rules in
    let step : borrowed_names c.add.new.names ≡ with_name (borrowed_names c.loop-node.names) node.name = search rules in
    one_more (λ (each : Node). each.name) nodes c.requires i node within is_it _ _ c.loop-node.invariant step
