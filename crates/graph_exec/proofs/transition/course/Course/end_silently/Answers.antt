use Rattle.std.proofs.Common.{arith, ◌≡◌, length, refl}
use Rattle.cluster_types.specs.Steps.{numbers_in_flight, in_flight_by_number}
use Rattle.graph_exec.specs.Executors.{transition_in}
use Rattle.graph_exec.proofs.Flying.{stands_at, many_flying}
use Rattle.graph_exec.proofs.Silent.{ends_silently}
use Rattle.graph_exec.proofs.transition.course.Course.end_silently.Goals as goal

pub at-number-requires : goal.at-number-requires
at-number-requires c =
    let many : length (in_flight_by_number (transition_in c.args.self.now) c.args.self.now.since) ≡ length (numbers_in_flight (transition_in c.args.self.now) c.args.self.now.since)
    = many_flying c.args.self.now in
    let busy = c.requires.busy in
    rw c.flight.ensures.pairs (omega arith)

pub end-requires : goal.end-requires
end-requires c =
    (stands_at c.args.self.now 0 c.at-number.result.0 c.at-number.result.1 (rw c.flight.ensures.pairs at c.at-number.ensures)).flies

pub returns : goal.returns
returns c =
    let s = stands_at c.args.self.now 0 c.at-number.result.0 c.at-number.result.1 (rw c.flight.ensures.pairs at c.at-number.ensures) in
    record {
      number = c.at-number.result.0;
      action = c.at-number.result.1;
      ends = ends_silently c.args.self.now c.flight.ensures.from_one c.requires _ _ s;
      goes_on = rw (c.end.ensures, c.silent_code-code.ensures) refl;
      given_is = rw c.silent_code-code.ensures refl;
    }
