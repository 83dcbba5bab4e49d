use Rattle.std.proofs.Common.{arith, ◌≡◌, ◌-◌, ◌∙◌, length}
use Rattle.trace_text.proofs.Backward.{befores_found, gate_passed, walk_begun}
use Rattle.trace_text.proofs.Places.{few_behind}
use Rattle.trace_text.proofs.TurnedEdges.{rows_there, sources_within}
use Rattle.trace_text.proofs.found_positions.walk_back.Goals as goal

pub find_sources-requires-clause-position : goal.find_sources-requires-clause-position
find_sources-requires-clause-position c =
    let rows = rows_there c.args.graph.now.edges c.args.sources.now c.requires.sources in
    let enough = c.requires.graph.positions in
    omega arith

pub find_sources-requires-clause-within : goal.find_sources-requires-clause-within
find_sources-requires-clause-within c = λ x among.
    let enough = c.requires.graph.positions in
    let low = sources_within c.args.graph.now.edges c.args.sources.now c.requires.sources (c.args.number - 1) (omega arith) c.requires.graph.within x among in
    omega arith

pub loop-gate-init : goal.loop-gate-init
loop-gate-init c =
    let enough = c.requires.graph.positions in
    let size : length c.find_sources.new.found ≡ c.args.graph.now.edges.positions = c.find_sources.ensures.size ∙ (c.clear.ensures.size ∙ c.requires.size) in
    record {
      size = size;
      back = walk_begun c.args.graph.now c.requires.graph c.count-actions.result c.count-actions.ensures c.args.sources.now c.requires.sources (c.args.number - 1)
          (omega arith) c.clear.new.found c.find_sources.new.found size c.clear.ensures.none c.find_sources.ensures.found;
    }

pub find_sources-requires-in-Some-clause-position : goal.find_sources-requires-in-Some-clause-position
find_sources-requires-in-Some-clause-position c =
    let back = c.loop-gate.invariant.back in
    let last = c.in-Some.ensures.last back.lowest back.gates back.within back.are_behind in
    let rows = rows_there c.args.graph.now.edges c.args.sources.now c.requires.sources in
    omega (arith, last.above, last.high, back.within, c.loop-gate.invariant.size)

pub find_sources-requires-in-Some-clause-within : goal.find_sources-requires-in-Some-clause-within
find_sources-requires-in-Some-clause-within c = λ x among.
    let back = c.loop-gate.invariant.back in
    let last = c.in-Some.ensures.last back.lowest back.gates back.within back.are_behind in
    let low = sources_within c.args.graph.now.edges c.args.sources.now c.requires.sources (c.in-Some.gate - 1)
    (omega (arith, last.above, last.high, back.within, c.loop-gate.invariant.size)) c.requires.graph.within x among in
    omega (arith, low, c.loop-gate.invariant.size)

pub loop-gate-smaller : goal.loop-gate-smaller
loop-gate-smaller c =
    let back = c.loop-gate.invariant.back in
    let last = c.in-Some.ensures.last back.lowest back.gates back.within back.are_behind in
    let few = few_behind c.loop-gate.found c.count-actions.result back.lowest c.loop-gate.behind back.gates back.within back.are_behind c.in-Some.gate last in
    omega (arith, few, c.loop-gate.invariant.size)

pub loop-gate-preserved : goal.loop-gate-preserved
loop-gate-preserved c =
    let l = c.loop-gate in
    let back = l.invariant.back in
    let last = c.in-Some.ensures.last back.lowest back.gates back.within back.are_behind in
    let size = c.find_sources-in-Some.ensures.size ∙ l.invariant.size in
    record {
      size = size;
      back = gate_passed c.args.graph.now c.requires.graph c.count-actions.result c.count-actions.ensures c.args.sources.now c.requires.sources (c.args.number - 1)
          l.behind c.in-Some.gate l.found c.find_sources-in-Some.new.found back last l.invariant.size size c.find_sources-in-Some.ensures.found;
    }

pub returns-clause-befores : goal.returns-clause-befores
returns-clause-befores c =
    let l = c.loop-gate in
    let back = l.invariant.back in
    let none = c.in_default.ensures.last back.lowest back.gates back.within back.are_behind in
    rw c.count.ensures (befores_found c.args.graph.now c.count-actions.result c.args.number l.behind l.found c.requires.graph c.count-actions.ensures
    c.requires.from_one c.requires.to_count back none)
