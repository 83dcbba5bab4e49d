use Rattle.std.proofs.Common.{◌≡◌, ◌<◌, ◌==◌, ◌&&◌, ◌*◌, ◌+◌, true, not, if◌then◌else◌, length, sym, ap, subst, ◌∙◌, arith}
use Rattle.std.specs.Prelude.{slice_index, slice_set}
use Rattle.cluster_types.specs.Tables.{is_somewhere, targets_of}
use Rattle.cluster_types.proofs.TableCells.{cell_within}
use Rattle.placement.proofs.LoadsAfter.{few-loads, loaded-after, loads-fit}
use Rattle.placement.proofs.choice.loaded_table.LoadedTable.with_target_if.Goals as goal

pub count_if-requires-clause-node : goal.count_if-requires-clause-node
count_if-requires-clause-node c =
    let self = c.args.self in
    let long = loads-fit c.args.cluster.now self.table self.loads.items c.requires.loaded in
    omega (arith, long, c.requires.node)

pub count_if-requires-clause-room : goal.count_if-requires-clause-room
count_if-requires-clause-room c =
    let self = c.args.self in
    let few = few-loads c.args.cluster.now self.table self.loads.items c.requires.loaded c.args.node c.requires.node in
    omega (arith, few, c.requires.limits.leaves)

pub with_target-requires-clause-on_node : goal.with_target-requires-clause-on_node
with_target-requires-clause-on_node c = let wide = c.requires.loaded.nodes in omega (arith, wide, c.requires.node)

pub with_target-requires-clause-within : goal.with_target-requires-clause-within
with_target-requires-clause-within c =
    let self = c.args.self in
    let cluster = c.args.cluster.now in
    let is = c.requires.loaded in
    let low = cell_within (length cluster.leaves) (length cluster.nodes) c.args.leaf c.args.node c.requires.leaf c.requires.node in
    subst (λ k. c.args.leaf * k + c.args.node < length self.table.targets) (sym is.nodes)
    (subst (λ k. c.args.leaf * length cluster.nodes + c.args.node < k) (sym is.cells) low)

pub returns-clause-loaded : goal.returns-clause-loaded
returns-clause-loaded c =
    let self = c.args.self in
    let loads = self.loads.items in
    let node = c.args.node in
    let first : c.count_if.new.loads.items ≡ (if not (is_somewhere (targets_of self.table c.args.leaf node)) then slice_set loads node (slice_index loads node + 1) else loads) =
    c.count_if.ensures ∙ ap (λ b. if not b then slice_set loads node (slice_index loads node + 1) else loads) c.holds_role-is_first.ensures in
    loaded-after c.args.cluster.now self.table loads c.requires.loaded c.args.leaf node c.args.target c.with_target.result c.count_if.new.loads.items
    c.requires.leaf c.requires.node c.requires.target c.with_target.ensures.nodes c.with_target.ensures.size c.with_target.ensures.targets first

pub returns-clause-targets : goal.returns-clause-targets
returns-clause-targets c = λ r n.
    let wanted : c.args.wanted ≡ true = let t = c.if-not-wanted.false in cc in
    c.with_target.ensures.targets r n
    ∙ ap (λ b. if b && (r == c.args.leaf && n == c.args.node) then c.args.target else targets_of c.args.self.table r n) (sym wanted)
