use Rattle.std.proofs.Common.{rules, ◌≡◌, ◌<◌, ◌≤◌, if◌then◌else◌, length, set, sym, subst, arith}
use Rattle.cluster_types.specs.Decisions.{is_same_decision}
use Rattle.placement.specs.Inner.Flags.{slot_of}
use Rattle.placement.specs.Inner.Lending.{AreKeys}
use Rattle.placement.proofs.SlotLaws.{set-one, set-out}
use Rattle.placement.proofs.order.key_slots.set_key.Goals as goal

pub returns-then-slot-len : goal.returns-then-slot-len
returns-then-slot-len c = λ leaves kept are.
    let slots = c.args.slots.now.items in
    let x = c.args.decision in
    let size : c.len.result ≡ length slots = search rules in
    let low : slot_of x < length slots = omega (arith, c.if-slot-len.true, size, c.slot_of-slot.ensures) in
    subst (λ k. AreKeys leaves (λ d. if is_same_decision x d then c.args.key else kept d) (set slots k c.args.key)) (sym c.slot_of-slot.ensures)
    (set-one leaves kept slots are x c.args.key low)

pub returns-else-slot-len : goal.returns-else-slot-len
returns-else-slot-len c = λ leaves kept are.
    let slots = c.args.slots.now.items in
    let size : c.len.result ≡ length slots = search rules in
    let high : length slots ≤ slot_of c.args.decision = omega (arith, c.if-slot-len.false, size, c.slot_of-slot.ensures) in
    set-out leaves kept slots are c.args.decision c.args.key high
