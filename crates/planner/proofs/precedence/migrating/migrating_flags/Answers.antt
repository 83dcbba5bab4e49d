use Rattle.std.proofs.Common.{rules, ◌≡◌, ◌<◌, length, refl, sym, IfSome}
use Rattle.std.specs.Prelude.{vec_len}
use Rattle.planner.proofs.FlagsMore.{flags_more}
use Rattle.planner.proofs.precedence.migrating.migrating_flags.Goals as goal

pub loop-action-preserved : goal.loop-action-preserved
loop-action-preserved c =
    let still : vec_len c.set_flag.new.flags ≡ c.args.leaves = search rules in
    let inside : IfSome c.send_if.result (λ leaf. leaf < length c.loop-action.flags.items) = search rules in (
      still,
      flags_more c.args.actions.now c.loop-action.action-index c.loop-action.flags.items c.set_flag.new.flags.items _ _ c.send_if.result refl c.loop-action-test.true
          (sym c.send_if.ensures) inside c.loop-action.invariant.1 c.set_flag.ensures.set,
    )
