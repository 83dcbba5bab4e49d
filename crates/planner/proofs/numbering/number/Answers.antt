use Rattle.std.proofs.Common.{◌≡◌, ◌≤◌, true, AllPairs, Contains, subst, sym}
use Rattle.cluster_types.specs.Graphs.{GraphOf, is_before}
use Rattle.cluster_types.specs.NeededActions.{Needed}
use Rattle.cluster_types.specs.Numbers.{AreNumbered, is_earlier}
use Rattle.cluster_types.specs.Plans.{AreFewEdges, most_edges, precedes_by_number}
use Rattle.cluster_types.specs.Steps.{numbered}
use Rattle.planner.specs.PrecedenceEdges.{AreEdges, graph_by}
use Rattle.planner.proofs.Pairs.{pairs_are}
use Rattle.planner.proofs.Sorted.{numbered_by}
use Rattle.planner.proofs.WholeOrder.{few, graph, inside}
use Rattle.planner.proofs.numbering.number.Goals as goal

pub edges-requires-clause-few : goal.edges-requires-clause-few
edges-requires-clause-few c =
    let cluster = c.args.cluster.now in
    subst (λ v. most_edges cluster v ≤ 2000000000) (sym c.as_slice.ensures.value)
    (few cluster c.requires.valid c.args.actions.items c.in_ok-sorted.sorted.items c.requires.planned c.in_ok-sorted.ensures.moved c.in_ok-sorted.ensures.in_order)

pub edges-requires-clause-inside : goal.edges-requires-clause-inside
edges-requires-clause-inside c = λ a h.
    let cluster = c.args.cluster.now in
    inside cluster c.requires.valid c.args.actions.items c.in_ok-sorted.sorted.items c.requires.planned c.in_ok-sorted.ensures.moved c.in_ok-sorted.ensures.in_order a
    (subst (λ v. Contains v a) c.as_slice.ensures.value h)

pub edges-requires-clause-in_order : goal.edges-requires-clause-in_order
edges-requires-clause-in_order c =
    let cluster = c.args.cluster.now in
    subst (λ v. AllPairs (λ x y. is_earlier cluster v x y ≡ true) v) (sym c.as_slice.ensures.value) c.in_ok-sorted.ensures.in_order

pub new-requires : goal.new-requires
new-requires c =
    let cluster = c.args.cluster.now in
    graph cluster c.requires.valid c.args.actions.items c.in_ok-sorted.sorted.items c.requires.planned c.in_ok-sorted.ensures.moved c.in_ok-sorted.ensures.in_order
    c.in_ok-edges.edges (subst (λ v. AreEdges cluster v (is_earlier cluster v) c.in_ok-edges.edges) c.as_slice.ensures.value c.in_ok-edges.ensures)

pub returns-clause-numbered : goal.returns-clause-numbered
returns-clause-numbered c = λ es targets h.
    let cluster = c.args.cluster.now in
    subst (λ (g : GraphOf). AreNumbered cluster (Needed cluster es targets) g.actions) (sym c.new.ensures)
    (numbered_by cluster c.requires.valid c.args.actions.items c.in_ok-sorted.sorted.items c.requires.planned c.in_ok-sorted.ensures.moved (Needed cluster es targets)
    c.in_ok-sorted.ensures.in_order h)

pub returns-clause-pairs : goal.returns-clause-pairs
returns-clause-pairs c = λ j k.
    let cluster = c.args.cluster.now in
    let sorted = c.in_ok-sorted.sorted.items in
    let are = subst (λ v. AreEdges cluster v (is_earlier cluster v) c.in_ok-edges.edges) c.as_slice.ensures.value c.in_ok-edges.ensures in
    let is = graph cluster c.requires.valid c.args.actions.items sorted c.requires.planned c.in_ok-sorted.ensures.moved c.in_ok-sorted.ensures.in_order c.in_ok-edges.edges are in
    subst (λ (g : GraphOf). is_before g j k ≡ precedes_by_number cluster g.actions (numbered g.actions j) (numbered g.actions k)) (sym c.new.ensures)
    (pairs_are cluster (graph_by sorted c.in_ok-edges.edges) is are j k)

pub returns-clause-few : goal.returns-clause-few
returns-clause-few c =
    let cluster = c.args.cluster.now in
    let are = subst (λ v. AreEdges cluster v (is_earlier cluster v) c.in_ok-edges.edges) c.as_slice.ensures.value c.in_ok-edges.ensures in
    subst (λ (g : GraphOf). AreFewEdges cluster g.actions g.edges) (sym c.new.ensures) are.few
