use Rattle.std.proofs.Common.{◌∙◌}
use Rattle.cluster_types.specs.declared.node.Node.{Node}
use Rattle.names.proofs.Places.{place_of_name}
use Rattle.names.proofs.named_cluster.Names.node_of.Goals as goal

pub returns-clause-value : goal.returns-clause-value
returns-clause-value c =
    rw (← c.self.view_is) (c.place_of.ensures.value
    ∙ place_of_name (λ (each : Node). each.name) c.self.inside.cluster.now.nodes _ c.args.word.now c.self.invariant.nodes_in_order)
