use Rattle.std.proofs.Common.{◌≡◌, ◌∙◌, ap, sym, Some, arith, rules, ◌-ℤ◌, w64, to_z, of_z}
use Rattle.std.proofs.lemmas.Int.{ints}
use Rattle.date_rules.proofs.MomentLemmas.{after_midnight-short, after_midnight-parts}
use Rattle.date_rules.proofs.moment.after_midnight.Goals as goal

pub returns-in_err-time-clause-value : goal.returns-in_err-time-clause-value
returns-in_err-time-clause-value c =
    c.from_residual.ensures ∙ after_midnight-short c.args.text.now (sym c.if-is_empty.ensures) c.in_err-time.ensures.cases

pub returns-clause-value : goal.returns-clause-value
returns-clause-value c =
    let exact : to_z w64 (of_z w64 (to_z w64 (of_z w64 c.in_ok-seconds.seconds) -ℤ to_z w64 (of_z w64 c.in_ok-ahead.ahead))) ≡ c.in_ok-seconds.seconds -ℤ c.in_ok-ahead.ahead = omega (arith, ints, c.in_ok-seconds.ensures.bound.0, c.in_ok-seconds.ensures.bound.1, c.in_ok-ahead.ensures.bound.0, c.in_ok-ahead.ensures.bound.1) in
    ap Some exact ∙ after_midnight-parts c.args.text.now c.in_ok-time.time.now c.in_ok-time.zone.now _ _ (sym c.if-is_empty.ensures) (search rules) (search rules) (sym c.in_ok-seconds.ensures.value) (sym c.in_ok-ahead.ensures.value)
