use Rattle.std.proofs.Common.{arith, ◌≡◌, ◌∙◌, length, sym}
use Rattle.cluster_types.specs.Steps.{numbers_in_flight, in_flight_by_number}
use Rattle.graph_exec.specs.Executors.{transition_in}
use Rattle.graph_exec.proofs.Flying.{stands_at, many_flying, gone_is, one_less}
use Rattle.graph_exec.proofs.Losses.{losing_pass, losing_end, losing_done}
use Rattle.graph_exec.proofs.transition.course.Course.end_all_on.Goals as goal

pub loop-place-smaller-then-not-is_on : goal.loop-place-smaller-then-not-is_on
loop-place-smaller-then-not-is_on c =
    let many : length (in_flight_by_number (transition_in c.loop-place.self) c.loop-place.self.since) ≡ length (numbers_in_flight (transition_in c.loop-place.self) c.loop-place.self.since)
    = many_flying c.loop-place.self in
    let counted = rw c.flight.ensures.pairs at c.count.ensures in
    let test = c.loop-place-test.true in
    omega arith

pub loop-place-preserved-then-not-is_on : goal.loop-place-preserved-then-not-is_on
loop-place-preserved-then-not-is_on c =
    let s = stands_at c.loop-place.self c.loop-place.place c.at-number.result.0 c.at-number.result.1 (rw c.flight-in-loop-place.ensures.pairs at c.at-number.ensures) in
    losing_pass c.args.self.now c.args.node c.loop-place.self c.loop-place.place c.loop-place.invariant _ _ s (sym c.is_on.ensures ∙ c.if-not-is_on.true)

pub end-requires : goal.end-requires
end-requires c =
    (stands_at c.loop-place.self c.loop-place.place c.at-number.result.0 c.at-number.result.1 (rw c.flight-in-loop-place.ensures.pairs at c.at-number.ensures)).flies

pub loop-place-smaller : goal.loop-place-smaller
loop-place-smaller c =
    let s = stands_at c.loop-place.self c.loop-place.place c.at-number.result.0 c.at-number.result.1 (rw c.flight-in-loop-place.ensures.pairs at c.at-number.ensures) in
    let many : length (in_flight_by_number (transition_in c.loop-place.self) c.loop-place.self.since) ≡ length (numbers_in_flight (transition_in c.loop-place.self) c.loop-place.self.since)
    = many_flying c.loop-place.self in
    let counted = rw c.flight.ensures.pairs at c.count.ensures in
    let test = c.loop-place-test.true in
    let less = one_less c.loop-place.self c.loop-place.place _ _ s in
    rw (c.end.ensures, gone_is c.loop-place.self c.loop-place.place _ _ s) (omega arith)

pub loop-place-preserved : goal.loop-place-preserved
loop-place-preserved c =
    let s = stands_at c.loop-place.self c.loop-place.place c.at-number.result.0 c.at-number.result.1 (rw c.flight-in-loop-place.ensures.pairs at c.at-number.ensures) in
    rw c.end.ensures (losing_end c.args.self.now c.args.node c.loop-place.self c.loop-place.place c.loop-place.invariant _ _ s (sym c.is_on.ensures ∙ c.if-not-is_on.false))

pub returns : goal.returns
returns c =
    let many : length (in_flight_by_number (transition_in c.loop-place.self) c.loop-place.self.since) ≡ length (numbers_in_flight (transition_in c.loop-place.self) c.loop-place.self.since)
    = many_flying c.loop-place.self in
    let counted = rw c.flight.ensures.pairs at c.count.ensures in
    let test = c.loop-place-test.false in
    losing_done c.args.self.now c.args.node c.loop-place.self c.loop-place.place c.loop-place.invariant (omega arith)
