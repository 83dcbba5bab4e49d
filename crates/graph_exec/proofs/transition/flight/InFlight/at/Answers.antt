use Rattle.std.proofs.Common.{arith, ◌∙◌, ◌-◌, Some, ap}
use Rattle.std.proofs.lemmas.Option.{get_or_from_slice_get}
use Rattle.cluster_types.specs.declared.journal.Action.{Action}
use Rattle.cluster_types.specs.declared.journal.Action.TheVariants.{Fence}
use Rattle.graph_exec.proofs.Pairs.{pairs_many, pair_at, placed}
use Rattle.graph_exec.proofs.transition.flight.InFlight.at.Goals as goal

pub nth-number-requires : goal.nth-number-requires
nth-number-requires c =
    let many = pairs_many _ c.self.invariant in
    let lt = rw (← c.self.view_is) at c.requires in
    omega arith

pub action-requires-clause-from_one : goal.action-requires-clause-from_one
action-requires-clause-from_one c = (placed _ c.self.invariant c.args.place c.nth-number.result c.nth-number.ensures).low

pub action-requires-clause-to_count : goal.action-requires-clause-to_count
action-requires-clause-to_count c =
    let p = placed _ c.self.invariant c.args.place c.nth-number.result c.nth-number.ensures in
    let high = p.high in
    rw c.graph.ensures high

pub returns : goal.returns
returns c =
    let at = pair_at _ c.self.invariant c.args.place c.nth-number.result c.nth-number.ensures in
    let read = get_or_from_slice_get c.self.inside.waiting.graph.actions (c.nth-number.result - 1) c.action.result (Fence 0) (rw c.graph.ensures at c.action.ensures) in
    rw (← c.self.view_is) (at ∙ ap (λ (a : Action). Some (c.nth-number.result, a)) read)
