use Rattle.std.proofs.Common.{◌<◌, Some, None, refl, sym, ◌∙◌, arith}
use Rattle.cluster_types.specs.Sources.{untold}
use Rattle.graph_exec.specs.Flights.{pairs_in_flight}
use Rattle.simulated.proofs.Agreeing.{all_numbers, ended_agrees, ended_applies, joined_agrees, joined_applies, left_agrees, left_applies, silent_agrees}
use Rattle.simulated.proofs.world.WorldOutcomes.next.Goals as goal

pub returns-then-count-eq0-clause-gives : goal.returns-then-count-eq0-clause-gives
returns-then-count-eq0-clause-gives c = untold None

pub returns-then-count-eq0-clause-agrees : goal.returns-then-count-eq0-clause-agrees
returns-then-count-eq0-clause-agrees c = λ d es taken a is.
    let s = c.self.inside in
    silent_agrees (record { reality = s.reality; since = s.since; asked = s.asked; answered = s.answered }) _ _ d es taken (pairs_in_flight c.args.flight.now) (rw (← c.self.view_is) at a)
    (sym c.count-count.ensures ∙ c.if-count-eq0.true)

pub returns-in-Leaves-clause-gives : goal.returns-in-Leaves-clause-gives
returns-in-Leaves-clause-gives c = untold (Some c.leave.result)

pub returns-in-Leaves-clause-agrees : goal.returns-in-Leaves-clause-agrees
returns-in-Leaves-clause-agrees c = λ d es taken a is.
    let s = c.self.inside in
    let flight = c.args.flight.now in
    let some : 0 < c.count-count.result = omega arith in
    rw c.leave.ensures.answer
    (left_agrees (record { reality = s.reality; since = s.since; asked = s.asked; answered = s.answered }) d es taken (rw (← c.self.view_is) at a) (record { reality = c.leave.new.self; since = s.since; asked = _; answered = _ })
    (record {
      same = record { cluster = c.leave.ensures.same.cluster ∙ c.turn.ensures.same.cluster; number = c.leave.ensures.same.number ∙ c.turn.ensures.same.number };
      since_stays = refl;
    })
    (pairs_in_flight flight) is (all_numbers flight) c.count-count.result c.count-count.ensures some c.turn.new.self c.turn.ensures.same c.turn.result c.turn.ensures.turn
    c.turn.ensures.shows c.in-Leaves.node c.in-Leaves.is c.leave.ensures.shows)

pub returns-in-Leaves-clause-fitting : goal.returns-in-Leaves-clause-fitting
returns-in-Leaves-clause-fitting c = λ d es taken careful a is.
    let s = c.self.inside in
    let flight = c.args.flight.now in
    let some : 0 < c.count-count.result = omega arith in
    rw c.leave.ensures.answer
    (left_applies (record { reality = s.reality; since = s.since; asked = s.asked; answered = s.answered }) d es taken (rw (← c.self.view_is) at a) (record { reality = c.leave.new.self; since = s.since; asked = s.asked; answered = s.answered })
    (record {
      same = record { cluster = c.leave.ensures.same.cluster ∙ c.turn.ensures.same.cluster; number = c.leave.ensures.same.number ∙ c.turn.ensures.same.number };
      since_stays = refl;
    })
    (pairs_in_flight flight) is (all_numbers flight) c.count-count.result c.count-count.ensures some c.turn.new.self c.turn.ensures.same c.turn.result c.turn.ensures.turn
    c.turn.ensures.shows c.in-Leaves.node c.in-Leaves.is)

pub returns-in-Joins-clause-gives : goal.returns-in-Joins-clause-gives
returns-in-Joins-clause-gives c = untold (Some c.join.result)

pub returns-in-Joins-clause-agrees : goal.returns-in-Joins-clause-agrees
returns-in-Joins-clause-agrees c = λ d es taken a is.
    let s = c.self.inside in
    let flight = c.args.flight.now in
    let some : 0 < c.count-count.result = omega arith in
    rw c.join.ensures.answer
    (joined_agrees (record { reality = s.reality; since = s.since; asked = s.asked; answered = s.answered }) d es taken (rw (← c.self.view_is) at a) (record { reality = c.join.new.self; since = s.since; asked = _; answered = _ })
    (record {
      same = record { cluster = c.join.ensures.same.cluster ∙ c.turn.ensures.same.cluster; number = c.join.ensures.same.number ∙ c.turn.ensures.same.number };
      since_stays = refl;
    })
    (pairs_in_flight flight) is (all_numbers flight) c.count-count.result c.count-count.ensures some c.turn.new.self c.turn.ensures.same c.turn.result c.turn.ensures.turn
    c.turn.ensures.shows c.in-Joins.node c.in-Joins.is c.join.ensures.shows)

pub returns-in-Joins-clause-fitting : goal.returns-in-Joins-clause-fitting
returns-in-Joins-clause-fitting c = λ d es taken careful a is.
    let s = c.self.inside in
    let flight = c.args.flight.now in
    let some : 0 < c.count-count.result = omega arith in
    rw c.join.ensures.answer
    (joined_applies (record { reality = s.reality; since = s.since; asked = s.asked; answered = s.answered }) d es taken (rw (← c.self.view_is) at a) (record { reality = c.join.new.self; since = s.since; asked = s.asked; answered = s.answered })
    (record {
      same = record { cluster = c.join.ensures.same.cluster ∙ c.turn.ensures.same.cluster; number = c.join.ensures.same.number ∙ c.turn.ensures.same.number };
      since_stays = refl;
    })
    (pairs_in_flight flight) is (all_numbers flight) c.count-count.result c.count-count.ensures some c.turn.new.self c.turn.ensures.same c.turn.result c.turn.ensures.turn
    c.turn.ensures.shows c.in-Joins.node c.in-Joins.is)

pub returns-in-Ends-clause-gives : goal.returns-in-Ends-clause-gives
returns-in-Ends-clause-gives c = untold (Some c.end.result)

pub returns-in-Ends-clause-agrees : goal.returns-in-Ends-clause-agrees
returns-in-Ends-clause-agrees c = λ d es taken a is.
    let s = c.self.inside in
    let flight = c.args.flight.now in
    let some : 0 < c.count-count.result = omega arith in
    ended_agrees (record { reality = s.reality; since = s.since; asked = s.asked; answered = s.answered }) d es taken (rw (← c.self.view_is) at a) (record { reality = c.end.new.self; since = s.since; asked = _; answered = _ })
    (record {
      same = record { cluster = c.end.ensures.same.cluster ∙ c.turn.ensures.same.cluster; number = c.end.ensures.same.number ∙ c.turn.ensures.same.number };
      since_stays = refl;
    })
    (pairs_in_flight flight) is (all_numbers flight) c.count-count.result c.count-count.ensures some c.turn.new.self c.turn.ensures.same c.turn.result c.turn.ensures.turn
    c.turn.ensures.shows c.in-Ends.place c.in-Ends.fate c.at-number.result.0 c.at-number.result.1 c.in-Ends.is c.at-number.ensures c.end.result c.end.ensures.answer c.end.ensures.shows

pub returns-in-Ends-clause-fitting : goal.returns-in-Ends-clause-fitting
returns-in-Ends-clause-fitting c = λ d es taken careful a is.
    let s = c.self.inside in
    let flight = c.args.flight.now in
    let some : 0 < c.count-count.result = omega arith in
    ended_applies (record { reality = s.reality; since = s.since; asked = s.asked; answered = s.answered }) d es taken (rw (← c.self.view_is) at a) (record { reality = c.end.new.self; since = s.since; asked = s.asked; answered = s.answered })
    (record {
      same = record { cluster = c.end.ensures.same.cluster ∙ c.turn.ensures.same.cluster; number = c.end.ensures.same.number ∙ c.turn.ensures.same.number };
      since_stays = refl;
    })
    (pairs_in_flight flight) is (all_numbers flight) c.count-count.result c.count-count.ensures some c.turn.new.self c.turn.ensures.same c.turn.result c.turn.ensures.turn
    c.turn.ensures.shows c.in-Ends.place c.in-Ends.fate c.at-number.result.0 c.at-number.result.1 c.in-Ends.is c.at-number.ensures c.end.result c.end.ensures.answer
