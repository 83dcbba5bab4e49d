use Rattle.std.proofs.Common.{◌≡◌, ◌∙◌, ap, sym, Some, arith, rules, ◌+ℤ◌, w64, to_z, of_z}
use Rattle.std.proofs.lemmas.Int.{ints}
use Rattle.date_rules.proofs.MomentLemmas.{instant-short, instant-parts, instant-no_day, instant-no_time}
use Rattle.date_rules.proofs.moment.instant.Goals as goal

pub returns-in_err-day : goal.returns-in_err-day
returns-in_err-day c = c.from_residual.ensures ∙ instant-short c.args.text.now c.in_err-day.ensures.cases

pub returns-in_err-start : goal.returns-in_err-start
returns-in_err-start c =
    c.from_residual-in_err-start.ensures ∙ instant-no_day c.args.text.now c.in_ok-day.day.now (search rules) (sym c.in_err-start.ensures.value)

pub returns-in_err-seconds : goal.returns-in_err-seconds
returns-in_err-seconds c =
    c.from_residual-in_err-seconds.ensures
    ∙ instant-no_time c.args.text.now c.in_ok-day.day.now c.in_ok-day.rest.now c.in_ok-start.start (search rules) (search rules) (sym c.in_ok-start.ensures.value) (sym c.in_err-seconds.ensures.value)

pub returns : goal.returns
returns c =
    let exact : to_z w64 (of_z w64 (to_z w64 (of_z w64 c.in_ok-start.start) +ℤ to_z w64 (of_z w64 c.in_ok-seconds.seconds))) ≡ c.in_ok-start.start +ℤ c.in_ok-seconds.seconds = omega (arith, ints, c.in_ok-start.ensures.bound.0, c.in_ok-start.ensures.bound.1, c.in_ok-seconds.ensures.bound.0, c.in_ok-seconds.ensures.bound.1) in
    ap Some exact ∙ instant-parts c.args.text.now c.in_ok-day.day.now c.in_ok-day.rest.now _ _ (search rules) (search rules) (sym c.in_ok-start.ensures.value) (sym c.in_ok-seconds.ensures.value)
