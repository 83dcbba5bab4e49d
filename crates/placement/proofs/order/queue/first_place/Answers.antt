use Rattle.std.proofs.Common.{sym, ◌∙◌}
use Rattle.placement.proofs.FirstPlaces.{a-place, from-one, no-place}
use Rattle.placement.proofs.order.queue.first_place.Goals as goal

pub overflow_sub-result : goal.overflow_sub-result
overflow_sub-result c = from-one c.args.ready.now c.in-Some.number (sym c.in-Some.is ∙ c.first.ensures)

pub returns-in-Some : goal.returns-in-Some
returns-in-Some c = a-place c.args.ready.now c.in-Some.number (sym c.in-Some.is ∙ c.first.ensures)

pub returns-in-None : goal.returns-in-None
returns-in-None c = no-place c.args.ready.now (sym c.in-None.is ∙ c.first.ensures)
