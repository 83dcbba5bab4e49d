use Rattle.std.proofs.Common.{rules, ◌≡◌, ◌<◌, ◌≤◌, ◌||◌, ◌&&◌, true, length, set, sym, subst, arith}
use Rattle.cluster_types.specs.Decisions.{is_same_decision}
use Rattle.placement.specs.Inner.Flags.{AreFlags, slot_of}
use Rattle.placement.proofs.FlagLaws.{raised, raised-none, raised-out}
use Rattle.placement.proofs.order.flags.raise_if.Goals as goal

pub returns-then-not-wanted : goal.returns-then-not-wanted
returns-then-not-wanted c = λ leaves passes are. raised-none leaves passes c.args.flags.now.items are c.args.decision c.args.wanted c.if-not-wanted.true

pub returns-then-slot-len : goal.returns-then-slot-len
returns-then-slot-len c = λ leaves passes are.
    let flags = c.args.flags.now.items in
    let x = c.args.decision in
    let size : c.len.result ≡ length flags = search rules in
    let low : slot_of x < length flags = omega (arith, c.if-slot-len.true, size, c.slot_of-slot.ensures) in
    subst (λ k. AreFlags leaves (λ d. passes d || (c.args.wanted && is_same_decision x d)) (set flags k true)) (sym c.slot_of-slot.ensures)
    (raised leaves passes flags are x c.args.wanted c.if-not-wanted.false low)

pub returns-else-slot-len : goal.returns-else-slot-len
returns-else-slot-len c = λ leaves passes are.
    let flags = c.args.flags.now.items in
    let size : c.len.result ≡ length flags = search rules in
    let high : length flags ≤ slot_of c.args.decision = omega (arith, c.if-slot-len.false, size, c.slot_of-slot.ensures) in
    raised-out leaves passes flags are c.args.decision c.args.wanted high
