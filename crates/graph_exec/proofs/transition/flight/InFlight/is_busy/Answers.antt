use Rattle.std.proofs.Common.{◌∙◌, sym, ℕ}
use Rattle.std.proofs.lemmas.Map.Keys.{any_passes_from_place}
use Rattle.cluster_types.specs.declared.journal.Action.{Action}
use Rattle.graph_exec.specs.Flights.{pairs_in_flight}
use Rattle.graph_exec.specs.Inner.Flights.{is_about}
use Rattle.graph_exec.proofs.Pairs.{passes_not_yet}
use Rattle.graph_exec.proofs.transition.flight.InFlight.is_busy.Goals as goal

pub returns-then-is_about : goal.returns-then-is_about
returns-then-is_about c =
    sym (any_passes_from_place (λ (p : ℕ × Action). is_about c.args.leaf c.args.node p.1) (pairs_in_flight c.args.self.now) c.loop-place.place _ c.at-action.ensures
    (sym c.is_about.ensures ∙ c.if-is_about.true))

pub loop-place-preserved : goal.loop-place-preserved
loop-place-preserved c =
    passes_not_yet (λ (p : ℕ × Action). is_about c.args.leaf c.args.node p.1) (pairs_in_flight c.args.self.now) c.loop-place.place _ c.at-action.ensures
    (sym c.is_about.ensures ∙ c.if-is_about.false) c.loop-place.invariant
