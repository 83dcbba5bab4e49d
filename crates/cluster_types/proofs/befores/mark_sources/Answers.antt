use Rattle.std.proofs.Common.{arith, get_or, ◌∙◌, true, refl}
use Rattle.std.proofs.lemmas.List.{length-set}
use Rattle.std.proofs.lemmas.List.Elements.{Contains-get_or}
use Rattle.edges.specs.declared.edge.Edge.{Edge}
use Rattle.cluster_types.proofs.Walks.{marked_more}
use Rattle.cluster_types.proofs.befores.mark_sources.Goals as goal

pub index_mut-requires : goal.index_mut-requires
index_mut-requires c =
    let l = c.loop-edge in
    let ends = c.requires _ (Contains-get_or c.args.edges.now l.edge-index (record { before = 0; after = 0 }) c.loop-edge-test.true) in
    omega (arith, ends.0, l.invariant.size)

pub loop-edge-preserved : goal.loop-edge-preserved
loop-edge-preserved c =
    let l = c.loop-edge in
    let edges = c.args.edges.now in
    let d : Edge = record { before = 0; after = 0 } in
    let ends = c.requires _ (Contains-get_or edges l.edge-index d c.loop-edge-test.true) in
    record {
      size = length-set l.marks.items (get_or edges l.edge-index d).before true ∙ l.invariant.size;
      so_far = marked_more edges l.edge-index (get_or edges l.edge-index d) d c.loop-edge-test.true refl c.args.position c.args.marks.now.items l.marks.items
          l.invariant.so_far (omega (arith, c.if-edge-position.false)) (omega (arith, ends.0, l.invariant.size));
    }
