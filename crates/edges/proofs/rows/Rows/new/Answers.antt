use Rattle.std.proofs.Common.{rules, arith, ◌≡◌, ◌<◌, ◌+◌, List, length, slice_index_or, ◌∙◌, ℕ, take, take_all, subst, refl}
use Rattle.std.proofs.lemmas.List.{get_or_read}
use Rattle.edges.specs.declared.edge.Edge.{Edge}
use Rattle.edges.specs.Loops.{EndsWithin}
use Rattle.edges.specs.declared.side.Side.TheVariants.{Before}
use Rattle.edges.specs.Rows.{edges_at}
use Rattle.edges.specs.Inner.Rows.{no_edge, AreRows, edges_below}
use Rattle.edges.proofs.Counted.{end_within}
use Rattle.edges.proofs.Filled.{is_place, place_within, one_filled, rows_are, rows_stand}
use Rattle.edges.proofs.rows.Rows.new.Goals as goal

-- what is known of the place that an edge's target takes
record Places (positions : ℕ) (edges : List Edge) (i : ℕ) (ends targets : List ℕ) (at : ℕ) : Type 0 where
  pub low : (slice_index_or edges i no_edge).before < positions
  pub from : (slice_index_or edges i no_edge).before < length ends
  pub is : at ≡ edges_below edges (slice_index_or edges i no_edge).before + edges_at Before (take i edges) (slice_index_or edges i no_edge).before
  pub within : at < length targets

places : (positions : ℕ) (edges : List Edge) (i : ℕ) (ends targets : List ℕ) (at : ℕ) → EndsWithin positions edges → (lt : i < length edges)
    → AreRows positions edges (take i edges) ends targets → at ≡ slice_index_or ends (slice_index_or edges i no_edge).before 0
    → Places positions edges i ends targets at
places positions edges i ends targets at ends_within lt rows read =
    let low : (slice_index_or edges i no_edge).before < positions = end_within Before positions edges i no_edge ends_within lt in
    let is : at ≡ edges_below edges (slice_index_or edges i no_edge).before + edges_at Before (take i edges) (slice_index_or edges i no_edge).before
    = read ∙ is_place edges i no_edge lt positions ends targets low rows in
    let w = place_within edges i no_edge lt positions ends targets low rows in
    record { low = low; from = let s = rows.size in omega arith; is = is; within = omega arith }

pub index-place-requires : goal.index-place-requires
index-place-requires c =
    let low = end_within Before c.args.positions c.args.edges.now c.loop-edge.edge-index no_edge c.requires c.loop-edge-test.true in
    let size = c.loop-edge.invariant.size in
    omega arith

pub index_mut-requires : goal.index_mut-requires
index_mut-requires c =
    let low = end_within Before c.args.positions c.args.edges.now c.loop-edge.edge-index no_edge c.requires c.loop-edge-test.true in
    let size = c.loop-edge.invariant.size in
    let read = get_or_read c.loop-edge.ends.items (slice_index_or c.args.edges.now c.loop-edge.edge-index no_edge).before c.index-place.result.now (omega arith)
    c.index-place.ensures 0 in
    let p = places c.args.positions c.args.edges.now c.loop-edge.edge-index c.loop-edge.ends.items c.loop-edge.targets.items c.index-place.result.now
    c.requires c.loop-edge-test.true c.loop-edge.invariant read in
    let w = p.within in
    omega arith

pub overflow_add-place : goal.overflow_add-place
overflow_add-place c =
    let low = end_within Before c.args.positions c.args.edges.now c.loop-edge.edge-index no_edge c.requires c.loop-edge-test.true in
    let size = c.loop-edge.invariant.size in
    let read = get_or_read c.loop-edge.ends.items (slice_index_or c.args.edges.now c.loop-edge.edge-index no_edge).before c.index-place.result.now (omega arith)
    c.index-place.ensures 0 in
    let p = places c.args.positions c.args.edges.now c.loop-edge.edge-index c.loop-edge.ends.items c.loop-edge.targets.items c.index-place.result.now
    c.requires c.loop-edge-test.true c.loop-edge.invariant read in
    let w = p.within in
    let room = c.loop-edge.invariant.room in
    omega arith

pub index_mut-requires-in-loop-edge : goal.index_mut-requires-in-loop-edge
index_mut-requires-in-loop-edge c =
    let low = end_within Before c.args.positions c.args.edges.now c.loop-edge.edge-index no_edge c.requires c.loop-edge-test.true in
    let size = c.loop-edge.invariant.size in
    omega arith

pub loop-edge-preserved : goal.loop-edge-preserved
loop-edge-preserved c =
    let low = end_within Before c.args.positions c.args.edges.now c.loop-edge.edge-index no_edge c.requires c.loop-edge-test.true in
    let size = c.loop-edge.invariant.size in
    let read = get_or_read c.loop-edge.ends.items (slice_index_or c.args.edges.now c.loop-edge.edge-index no_edge).before c.index-place.result.now (omega arith)
    c.index-place.ensures 0 in
    let p = places c.args.positions c.args.edges.now c.loop-edge.edge-index c.loop-edge.ends.items c.loop-edge.targets.items c.index-place.result.now
    c.requires c.loop-edge-test.true c.loop-edge.invariant read in
    let is = p.is in
    let more = one_filled c.args.edges.now c.loop-edge.edge-index no_edge c.loop-edge-test.true c.args.positions c.loop-edge.ends.items
    c.loop-edge.targets.items low c.loop-edge.invariant (c.index-place.result.now + 1) (slice_index_or c.args.edges.now c.loop-edge.edge-index no_edge).after
    (omega arith) refl in
    rw (← is) at more

pub invariant_of-result : goal.invariant_of-result
invariant_of-result c =
    let all : take c.loop-edge.edge-index c.args.edges.now ≡ c.args.edges.now = take_all c.loop-edge.edge-index c.args.edges.now (search rules) in
    let filled : AreRows c.args.positions c.args.edges.now c.args.edges.now c.loop-edge.ends.items c.loop-edge.targets.items
    = subst (λ (es : List Edge). AreRows c.args.positions c.args.edges.now es c.loop-edge.ends.items c.loop-edge.targets.items) all c.loop-edge.invariant in
    rows_stand c.args.positions c.args.edges.now c.loop-edge.ends.items c.loop-edge.targets.items filled

pub returns : goal.returns
returns c =
    let all : take c.loop-edge.edge-index c.args.edges.now ≡ c.args.edges.now = take_all c.loop-edge.edge-index c.args.edges.now (search rules) in
    let filled : AreRows c.args.positions c.args.edges.now c.args.edges.now c.loop-edge.ends.items c.loop-edge.targets.items
    = subst (λ (es : List Edge). AreRows c.args.positions c.args.edges.now es c.loop-edge.ends.items c.loop-edge.targets.items) all c.loop-edge.invariant in
    rows_are c.args.positions c.args.edges.now c.loop-edge.ends.items c.loop-edge.targets.items filled
