use Rattle.std.proofs.Common.{◌≡◌, ◌++◌, take}
use Rattle.planner.specs.Inner.Gates.{join_edges, key_at}
use Rattle.planner.proofs.precedence.gates.add_join.Given as goal

abbrev pub invariant-loop-place : goal.invariant-loop-place
invariant-loop-place l =
    l.list.items
    ≡ l.initial.list.items
    ++ join_edges l.base l.width (key_at l.known.cluster.now l.known.actions.now l.join.from) (key_at l.known.cluster.now l.known.actions.now l.join.to) (take l.place-index l.places)
