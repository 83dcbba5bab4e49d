use Rattle.std.proofs.Common.{rules, ◌≡◌, ◌*◌, None, replicate, subst, sym, arith}
use Rattle.placement.specs.Inner.Lending.{AreKeys}
use Rattle.placement.proofs.SlotLaws.{no-keys}
use Rattle.placement.proofs.order.key_slots.no_keys.Goals as goal

pub returns : goal.returns
returns c =
    let is : c.in_ok-slots.slots.items ≡ replicate (2 * c.args.leaves) None = search rules in
    subst (AreKeys c.args.leaves (λ d. None)) (sym is) (no-keys c.args.leaves (2 * c.args.leaves) (omega arith))
