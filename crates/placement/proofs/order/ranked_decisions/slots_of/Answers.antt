use Rattle.std.proofs.Common.{arith, ◌≡◌, ◌<◌, ◌*◌, Contains, sym, subst}
use Rattle.std.proofs.lemmas.List.Elements.{Contains-get_or}
use Rattle.placement.specs.declared.order.ranked_decisions.Ranked.{Ranked}
use Rattle.placement.specs.Inner.Flags.{slot_of}
use Rattle.placement.proofs.FlagLaws.{slot-within}
use Rattle.placement.proofs.order.ranked_decisions.slots_of.Goals as goal

pub overflow_cast-slot_of : goal.overflow_cast-slot_of
overflow_cast-slot_of c =
    let one : Ranked = c.one-item.result in
    let there : Contains c.args.ranked.now one = subst (Contains c.args.ranked.now) (sym c.one-item.is) (Contains-get_or c.args.ranked.now c.loop-one.one-index one c.loop-one-test.true) in
    let low : slot_of one.decision < 1000 * 2 = slot-within 1000 one.decision (c.requires one there) in
    let is : c.slot_of.result ≡ slot_of one.decision = c.slot_of.ensures in
    omega (arith, low, is)
