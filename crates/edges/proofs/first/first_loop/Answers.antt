use Rattle.std.proofs.Common.{arith, length}
use Rattle.std.proofs.lemmas.List.{take_all}
use Rattle.edges.specs.Loops.{HasLoop}
use Rattle.edges.proofs.Fronts.{ends_front, none_without_edges, some_edge}
use Rattle.edges.proofs.first.first_loop.Goals as goal

pub loop-free-init : goal.loop-free-init
loop-free-init c =
    let l : HasLoop c.args.edges.now = c.in_ok-is_loop_free.ensures.loops.0 c.if-branch.false in
    record {
      apart = some_edge c.args.edges.now l;
      within = omega arith;
      none = none_without_edges;
      some = rw (take_all (length c.args.edges.now) c.args.edges.now (omega arith)) l;
    }

pub is_loop_free-requires-in-loop-free : goal.is_loop_free-requires-in-loop-free
is_loop_free-requires-in-loop-free c = ends_front c.args.positions c.args.edges.now c.requires _
