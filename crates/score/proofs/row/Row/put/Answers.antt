use Rattle.std.proofs.Common.{refl, SFits, w32, rules, length, ap, ◌∙◌, arith}
use Rattle.std.proofs.lemmas.Int.{ints, to_z-of_z}
use Rattle.score.proofs.RowFrames.{frame_of, changed_to}
use Rattle.score.proofs.RowLaws.{row_finite, finite_same, put_stands}
use Rattle.score.proofs.Tallies.{length-tallies}
use Rattle.score.specs.StoredRows.{tallies}
use Rattle.score.proofs.row.Row.put.Goals as goal

pub raise-requires : goal.raise-requires
raise-requires c =
    let f = frame_of c.self.inside c.self.invariant _ c.self.view_is in
    rw c.deref_mut.ensures.value (omega (arith, c.requires.node, f.minus, f.nodes))

pub raise-requires-2 : goal.raise-requires-2
raise-requires-2 c =
    let f = frame_of c.self.inside c.self.invariant _ c.self.view_is in
    rw c.deref_mut-2.ensures.value (omega (arith, c.requires.node, f.plus, f.nodes))

pub put-requires-clause-node : goal.put-requires-clause-node
put-requires-clause-node c =
    let f = frame_of c.self.inside c.self.invariant _ c.self.view_is in
    rw c.deref_mut-3.ensures.value (omega (arith, c.requires.node, f.nodes))

pub put-requires-clause-room : goal.put-requires-clause-room
put-requires-clause-room c =
    let f = frame_of c.self.inside c.self.invariant _ c.self.view_is in
    let before = f.finite c.args.node (omega (arith, c.requires.node, f.nodes)) in
    let e = c.finite_points.ensures in
    let low = c.requires.room.0 in
    let high = c.requires.room.1 in
    rw c.deref_mut-3.ensures.value (omega (arith, ints), omega (arith, ints))

pub returns-clause-terms : goal.returns-clause-terms
returns-clause-terms c = λ terms h.
    let f = frame_of c.self.inside c.self.invariant _ c.self.view_is in
    let m = c.deref_mut.ensures.value in
    let p = c.deref_mut-2.ensures.value in
    let s = c.deref_mut-3.ensures.value in
    let to = changed_to c.self.inside c.self.invariant _ _ _ (c.raise.auto.flags ∙ ap length m) (c.raise-2.auto.flags ∙ ap length p) (c.put.auto.sums ∙ ap length s) in
    let minus = rw (m, c.is_minus.ensures) at c.raise.ensures in
    let plus = rw (p, c.is_plus.ensures) at c.raise-2.ensures in
    let fits : SFits w32 c.finite_points.result = search rules in
    let whole = simp to_z-of_z at c.put.ensures.added in
    let added = rw (s, c.finite_points.ensures) at whole in
    let others = rw s at c.put.ensures.others in
    rw (to.minus_put, to.plus_put, to.sums_put)
    (put_stands _ _ _ _ _ _ c.args.node c.args.term f.minus f.plus to.sums_nodes (omega (arith, c.requires.node, f.nodes)) minus plus added others terms
    (c.self.view_is ∙ h))

pub returns-clause-nodes : goal.returns-clause-nodes
returns-clause-nodes c =
    let f = frame_of c.self.inside c.self.invariant _ c.self.view_is in
    let m = c.deref_mut.ensures.value in
    let p = c.deref_mut-2.ensures.value in
    let s = c.deref_mut-3.ensures.value in
    let to = changed_to c.self.inside c.self.invariant _ _ _ (c.raise.auto.flags ∙ ap length m) (c.raise-2.auto.flags ∙ ap length p) (c.put.auto.sums ∙ ap length s) in
    let many = length-tallies c.raise.new.flags c.raise-2.new.flags c.put.new.sums (omega (arith, to.minus_nodes, to.sums_nodes)) (omega (arith, to.plus_nodes, to.sums_nodes)) in
    rw (to.minus_put, to.plus_put, to.sums_put) (omega (arith, f.nodes, to.sums_nodes))

pub returns-clause-finite : goal.returns-clause-finite
returns-clause-finite c =
    let f = frame_of c.self.inside c.self.invariant _ c.self.view_is in
    let m = c.deref_mut.ensures.value in
    let p = c.deref_mut-2.ensures.value in
    let s = c.deref_mut-3.ensures.value in
    let to = changed_to c.self.inside c.self.invariant _ _ _ (c.raise.auto.flags ∙ ap length m) (c.raise-2.auto.flags ∙ ap length p) (c.put.auto.sums ∙ ap length s) in
    let before = f.finite c.args.node (omega (arith, c.requires.node, f.nodes)) in
    let after = row_finite c.raise.new.flags c.raise-2.new.flags c.put.new.sums (tallies c.raise.new.flags c.raise-2.new.flags c.put.new.sums)
    (omega (arith, to.minus_nodes, to.sums_nodes)) (omega (arith, to.plus_nodes, to.sums_nodes)) refl c.args.node (omega (arith, c.requires.node, f.nodes, to.sums_nodes)) in
    let fits : SFits w32 c.finite_points.result = search rules in
    let whole = simp to_z-of_z at c.put.ensures.added in
    let added = rw (s, c.finite_points.ensures) at whole in
    rw (to.minus_put, to.plus_put, to.sums_put) (omega (arith, ints))

pub returns-clause-others : goal.returns-clause-others
returns-clause-others c = λ k other.
    let f = frame_of c.self.inside c.self.invariant _ c.self.view_is in
    let m = c.deref_mut.ensures.value in
    let p = c.deref_mut-2.ensures.value in
    let s = c.deref_mut-3.ensures.value in
    let to = changed_to c.self.inside c.self.invariant _ _ _ (c.raise.auto.flags ∙ ap length m) (c.raise-2.auto.flags ∙ ap length p) (c.put.auto.sums ∙ ap length s) in
    let same = rw s at c.put.ensures.others in
    rw (to.minus_put, to.plus_put, to.sums_put) (finite_same _ _ _ _ f.minus f.plus c.self.view_is _ _ _ to.minus_nodes to.plus_nodes to.sums_nodes k (same k other))
