use Rattle.std.proofs.Common.{rules, ◌≡◌, ◌*◌, false, replicate, subst, sym, arith}
use Rattle.placement.specs.Inner.Flags.{AreFlags}
use Rattle.placement.proofs.FlagLaws.{none-raised}
use Rattle.placement.proofs.order.flags.no_flags.Goals as goal

pub returns : goal.returns
returns c =
    let is : c.in_ok-flags.flags.items ≡ replicate (2 * c.args.leaves) false = search rules in
    subst (AreFlags c.args.leaves (λ d. false)) (sym is) (none-raised c.args.leaves (2 * c.args.leaves) (omega arith))
