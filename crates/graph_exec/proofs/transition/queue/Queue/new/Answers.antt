use Rattle.std.proofs.Common.{◌≡◌, ◌<◌, ◌∙◌, ap, ℕ, false, length, replicate, slice_index_or}
use Rattle.edges.specs.declared.side.Side.TheVariants.{After}
use Rattle.edges.specs.Rows.{edges_at}
use Rattle.graph_exec.proofs.Moves.{clears_first}
use Rattle.graph_exec.proofs.transition.queue.Queue.new.Goals as goal

pub count_ends-requires : goal.count_ends-requires
count_ends-requires c = rw (c.as_slice.ensures, c.edges-edges.ensures.edges) c.edges-edges.ensures.graph.within

pub returns-clause-clears : goal.returns-clause-clears
returns-clause-clears c =
    let g = c.args.graph.now in
    let counts = c.in_ok-left.left.items in
    let edges = c.edges-edges.ensures.edges in
    let actions = c.count-actions.ensures in
    let size : length counts ≡ g.edges.positions = c.in_ok-left.ensures.size ∙ ap (λ (e : _). e.positions) edges in
    let counted : (x : ℕ) → x < g.edges.positions → slice_index_or counts x 0 ≡ edges_at After g.edges.list x
    = rw (c.as_slice.ensures, edges) at c.in_ok-left.ensures.counted in
    let ready_size : length c.in_ok-ready.ready ≡ length g.actions = c.in_ok-ready.ensures.size ∙ actions in
    let free = rw (c.deref-2.ensures.value, actions) at c.in_ok-ready.ensures.free in
    let gates = rw (c.deref.ensures.value, actions, edges) at c.in_ok-cleared.ensures.gates in
    let begun : c.in_ok-begun.begun.items ≡ replicate (length g.actions) false = c.in_ok-begun.ensures ∙ ap (λ (n : ℕ). replicate n false) actions in
    let succeeded : c.in_ok-succeeded.succeeded.items ≡ replicate (length g.actions) false = c.in_ok-succeeded.ensures ∙ ap (λ (n : ℕ). replicate n false) actions in
    rw (begun, succeeded, gates) (clears_first g c.edges-edges.ensures.graph c.in_ok-ready.ready counts size counted ready_size free)
