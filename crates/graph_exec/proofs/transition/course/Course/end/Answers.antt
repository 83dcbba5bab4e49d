use Rattle.std.proofs.Common.{◌≡◌, ◌-◌, refl}
use Rattle.std.proofs.lemmas.Option.{get_or_from_slice_get}
use Rattle.cluster_types.specs.declared.journal.Action.TheVariants.{Fence}
use Rattle.graph_exec.proofs.EndsOf.{low, high, has_run, not_yet, end_room, end_adds, ended_is}
use Rattle.run_safety.proofs.ByNumber.{action_of}
use Rattle.graph_exec.proofs.OneMore.{follows_more}
use Rattle.graph_exec.proofs.transition.course.Course.end.Goals as goal

pub action-action-requires-clause-from_one : goal.action-action-requires-clause-from_one
action-action-requires-clause-from_one c = low _ _ c.self.invariant c.args.number (rw (← c.self.view_is) at c.requires)

pub action-action-requires-clause-to_count : goal.action-action-requires-clause-to_count
action-action-requires-clause-to_count c =
    let h = high _ _ c.self.invariant c.args.number (rw (← c.self.view_is) at c.requires) in
    rw c.graph.ensures h

pub add-requires-clause-room : goal.add-requires-clause-room
add-requires-clause-room c = end_room _ _ c.self.invariant c.args.number (rw (← c.self.view_is) at c.requires)

pub end-requires-clause-from_one : goal.end-requires-clause-from_one
end-requires-clause-from_one c = low _ _ c.self.invariant c.args.number (rw (← c.self.view_is) at c.requires)

pub end-requires-clause-to_count : goal.end-requires-clause-to_count
end-requires-clause-to_count c = high _ _ c.self.invariant c.args.number (rw (← c.self.view_is) at c.requires)

pub end-requires-clause-begun : goal.end-requires-clause-begun
end-requires-clause-begun c = has_run _ _ c.self.invariant c.args.number (rw (← c.self.view_is) at c.requires)

pub end-requires-clause-not_yet : goal.end-requires-clause-not_yet
end-requires-clause-not_yet c = not_yet _ _ c.self.invariant c.args.number (rw (← c.self.view_is) at c.requires)

pub invariant_of-self : goal.invariant_of-self
invariant_of-self c =
    let flies = rw (← c.self.view_is) at c.requires in
    let read : action_of c.self.inside.flight.progress.graph.actions c.args.number ≡ c.action-action.result
    = get_or_from_slice_get c.self.inside.flight.progress.graph.actions (c.args.number - 1) c.action-action.result (Fence 0) (rw c.graph.ensures at c.action-action.ensures) in
    let adds = end_adds _ _ c.self.invariant c.args.number flies c.args.outcome c.moment-moment.result c.is_success-success.result (rw read (rw c.cluster.ensures at c.is_success-success.ensures)) in
    rw (c.add.ensures, c.end.ensures) (rw read at (follows_more _ _ _ _ c.self.invariant adds))

pub returns : goal.returns
returns c =
    let flies = rw (← c.self.view_is) at c.requires in
    let read : action_of c.self.inside.flight.progress.graph.actions c.args.number ≡ c.action-action.result
    = get_or_from_slice_get c.self.inside.flight.progress.graph.actions (c.args.number - 1) c.action-action.result (Fence 0) (rw c.graph.ensures at c.action-action.ensures) in
    let is = ended_is _ _ c.self.invariant c.args.number flies c.args.outcome in
    rw (← c.self.view_is) (rw (c.add.ensures, c.end.ensures, is, read, c.moment-moment.ensures) refl)
