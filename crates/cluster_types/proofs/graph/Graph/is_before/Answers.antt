use Rattle.std.proofs.Common.{rules, ◌≡◌, length, sym}
use Rattle.cluster_types.proofs.Paths.{before_found}
use Rattle.cluster_types.proofs.graph.Graph.is_before.Goals as goal

pub returns : goal.returns
returns c =
    let few : c.len.result ≡ length c.self.inside.actions.items = search rules in
    before_found record { actions = c.self.inside.actions.items; edges = c.self.inside.edges } c.args.self.now c.len.result c.as_slice.result.now
    c.leads.result (sym c.self.view_is) c.self.invariant few c.as_slice.ensures c.args.x c.args.y c.requires.x_from_one c.requires.x_to_count
    c.requires.y_from_one c.requires.y_to_count c.leads.ensures
