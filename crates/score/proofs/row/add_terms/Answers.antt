use Rattle.std.proofs.Common.{refl, length, ap, ◌∙◌, arith}
use Rattle.std.proofs.lemmas.Int.{ints}
use Rattle.score.proofs.RowFrames.{frame_of, changed_to, sums_fit}
use Rattle.score.proofs.RowLaws.{row_finite, add_stands}
use Rattle.score.proofs.Tallies.{length-tallies}
use Rattle.score.specs.StoredRows.{tallies}
use Rattle.score.proofs.row.add_terms.Goals as goal

pub add-requires-clause-nodes : goal.add-requires-clause-nodes
add-requires-clause-nodes c =
    let f = frame_of c.into.inside c.into.invariant _ c.into.view_is in
    let f' = frame_of c.other.inside c.other.invariant _ c.other.view_is in
    rw (c.deref_mut.ensures.value, c.deref.ensures.value) (omega (arith, c.requires.nodes, f.minus, f.nodes, f'.minus, f'.nodes))

pub add-requires-2-clause-nodes : goal.add-requires-2-clause-nodes
add-requires-2-clause-nodes c =
    let f = frame_of c.into.inside c.into.invariant _ c.into.view_is in
    let f' = frame_of c.other.inside c.other.invariant _ c.other.view_is in
    rw (c.deref_mut-2.ensures.value, c.deref-2.ensures.value) (omega (arith, c.requires.nodes, f.plus, f.nodes, f'.plus, f'.nodes))

pub add-requires-3-clause-nodes : goal.add-requires-3-clause-nodes
add-requires-3-clause-nodes c =
    let f = frame_of c.into.inside c.into.invariant _ c.into.view_is in
    let f' = frame_of c.other.inside c.other.invariant _ c.other.view_is in
    rw (c.deref_mut-3.ensures.value, c.deref-3.ensures.value) (omega (arith, c.requires.nodes, f.nodes, f'.nodes))

pub add-requires-3-clause-fits : goal.add-requires-3-clause-fits
add-requires-3-clause-fits c =
    let f = frame_of c.into.inside c.into.invariant _ c.into.view_is in
    let f' = frame_of c.other.inside c.other.invariant _ c.other.view_is in
    rw (c.deref_mut-3.ensures.value, c.deref-3.ensures.value) (sums_fit _ _ _ _ f f' c.requires.nodes c.requires.room)

pub returns-clause-terms : goal.returns-clause-terms
returns-clause-terms c = λ terms others h h'.
    let f = frame_of c.into.inside c.into.invariant _ c.into.view_is in
    let f' = frame_of c.other.inside c.other.invariant _ c.other.view_is in
    let m = c.deref_mut.ensures.value in
    let p = c.deref_mut-2.ensures.value in
    let s = c.deref_mut-3.ensures.value in
    let to = changed_to c.into.inside c.into.invariant _ _ _ (c.add.auto.into ∙ ap length m) (c.add-2.auto.into ∙ ap length p) (c.add-3.auto.into ∙ ap length s) in
    let minus = rw (m, c.deref.ensures.value) at c.add.ensures in
    let plus = rw (p, c.deref-2.ensures.value) at c.add-2.ensures in
    let sums = rw (s, c.deref-3.ensures.value) at c.add-3.ensures in
    let fits = sums_fit _ _ _ _ f f' c.requires.nodes c.requires.room in
    rw (to.minus_put, to.plus_put, to.sums_put)
    (add_stands _ _ _ _ _ _ _ _ _ f.minus f.plus (omega (arith, c.requires.nodes, f.nodes, f'.nodes, f'.minus)) (omega (arith, c.requires.nodes, f.nodes, f'.nodes, f'.plus))
    (omega (arith, c.requires.nodes, f.nodes, f'.nodes)) to.minus_nodes to.plus_nodes to.sums_nodes
    (λ k l. minus k (omega (arith, to.minus_nodes))) (λ k l. plus k (omega (arith, to.plus_nodes)))
    (λ k l. omega (arith, sums k (omega (arith, to.sums_nodes)), (fits k l).0)) terms others (c.into.view_is ∙ h) (c.other.view_is ∙ h'))

pub returns-clause-nodes : goal.returns-clause-nodes
returns-clause-nodes c =
    let f = frame_of c.into.inside c.into.invariant _ c.into.view_is in
    let m = c.deref_mut.ensures.value in
    let p = c.deref_mut-2.ensures.value in
    let s = c.deref_mut-3.ensures.value in
    let to = changed_to c.into.inside c.into.invariant _ _ _ (c.add.auto.into ∙ ap length m) (c.add-2.auto.into ∙ ap length p) (c.add-3.auto.into ∙ ap length s) in
    let many = length-tallies c.add.new.into c.add-2.new.into c.add-3.new.into (omega (arith, to.minus_nodes, to.sums_nodes)) (omega (arith, to.plus_nodes, to.sums_nodes)) in
    rw (to.minus_put, to.plus_put, to.sums_put) (omega (arith, f.nodes, to.sums_nodes))

pub returns-clause-finite : goal.returns-clause-finite
returns-clause-finite c = λ k within.
    let f = frame_of c.into.inside c.into.invariant _ c.into.view_is in
    let f' = frame_of c.other.inside c.other.invariant _ c.other.view_is in
    let m = c.deref_mut.ensures.value in
    let p = c.deref_mut-2.ensures.value in
    let s = c.deref_mut-3.ensures.value in
    let to = changed_to c.into.inside c.into.invariant _ _ _ (c.add.auto.into ∙ ap length m) (c.add-2.auto.into ∙ ap length p) (c.add-3.auto.into ∙ ap length s) in
    let before = f.finite k (omega (arith, f.nodes)) in
    let more = f'.finite k (omega (arith, c.requires.nodes, f'.nodes)) in
    let after = row_finite c.add.new.into c.add-2.new.into c.add-3.new.into (tallies c.add.new.into c.add-2.new.into c.add-3.new.into)
    (omega (arith, to.minus_nodes, to.sums_nodes)) (omega (arith, to.plus_nodes, to.sums_nodes)) refl k (omega (arith, f.nodes, to.sums_nodes)) in
    let sums = rw (s, c.deref-3.ensures.value) at c.add-3.ensures in
    let sum = sums k (omega (arith, f.nodes, to.sums_nodes)) in
    let fits = (sums_fit _ _ _ _ f f' c.requires.nodes c.requires.room k (omega (arith, f.nodes))).0 in
    rw (to.minus_put, to.plus_put, to.sums_put) (omega (arith, ints))
