use Rattle.std.proofs.Common.{◌∙◌, sym, refl}
use Rattle.graph_exec.proofs.Beginning.{settled_abort, settled_full, settled_for, opened, begins, low, high}
use Rattle.graph_exec.proofs.Begun.{begin_adds, begin_room}
use Rattle.graph_exec.proofs.OneMore.{follows_more}
use Rattle.graph_exec.proofs.transition.course.Course.begin_next.Goals as goal

pub returns-then-is_some-clause-settled : goal.returns-then-is_some-clause-settled
returns-then-is_some-clause-settled c =
    rw (← c.self.view_is) (record { settled = settled_abort _ _ c.self.invariant c.abort.result c.abort.ensures (sym c.is_some.ensures ∙ c.if-is_some.true); same = refl })

pub returns-then-not-has_room-clause-settled : goal.returns-then-not-has_room-clause-settled
returns-then-not-has_room-clause-settled c =
    rw (← c.self.view_is) (record {
      settled = settled_full _ _ c.self.invariant (rw (← c.self.view_is) at (sym c.has_room.ensures ∙ c.if-not-has_room.true));
      same = refl;
    })

pub returns-in-None-clause-settled : goal.returns-in-None-clause-settled
returns-in-None-clause-settled c =
    rw (← c.self.view_is) (record { settled = settled_for _ _ c.self.invariant (sym c.next.ensures ∙ c.in-None.is); same = refl })

pub action-action-requires-clause-from_one : goal.action-action-requires-clause-from_one
action-action-requires-clause-from_one c = low _ _ c.self.invariant c.in-Some.number (sym c.next.ensures ∙ c.in-Some.is)

pub action-action-requires-clause-to_count : goal.action-action-requires-clause-to_count
action-action-requires-clause-to_count c =
    let h = high _ _ c.self.invariant c.in-Some.number (sym c.next.ensures ∙ c.in-Some.is) in
    rw c.graph.ensures h

pub begin-requires-clause-from_one : goal.begin-requires-clause-from_one
begin-requires-clause-from_one c = low _ _ c.self.invariant c.in-Some.number (sym c.next.ensures ∙ c.in-Some.is)

pub begin-requires-clause-to_count : goal.begin-requires-clause-to_count
begin-requires-clause-to_count c = high _ _ c.self.invariant c.in-Some.number (sym c.next.ensures ∙ c.in-Some.is)

pub add-requires-clause-room : goal.add-requires-clause-room
add-requires-clause-room c = begin_room _ _ c.self.invariant c.in-Some.number (sym c.next.ensures ∙ c.in-Some.is)

pub invariant_of-self : goal.invariant_of-self
invariant_of-self c =
    let adds = begin_adds _ _ c.self.invariant c.in-Some.number (sym c.next.ensures ∙ c.in-Some.is) c.action-action.result in
    rw (c.begin.ensures, c.add.ensures) (follows_more _ _ _ _ c.self.invariant adds)

pub returns-clause-begins : goal.returns-clause-begins
returns-clause-begins c =
    let shut = opened _ _ c.self.invariant c.abort.result c.abort.ensures (sym c.is_some.ensures ∙ c.if-is_some.false) (rw (← c.self.view_is) at (sym c.has_room.ensures ∙ c.if-not-has_room.false)) in
    rw (← c.self.view_is) (record {
      action = c.action-action.result;
      begins = begins _ _ c.self.invariant c.in-Some.number (sym c.next.ensures ∙ c.in-Some.is) c.action-action.result (rw c.graph.ensures at c.action-action.ensures) shut;
      goes_on = rw (c.begin.ensures, c.add.ensures) refl;
    })
