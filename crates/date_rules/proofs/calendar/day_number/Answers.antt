use Rattle.std.proofs.Common.{◌≡◌, ◌∙◌, Some, ap, refl, arith, w32, to_z, of_z}
use Rattle.std.proofs.lemmas.Int.{ints}
use Rattle.date_rules.proofs.DayLemmas.{day_number-date}
use Rattle.date_rules.proofs.calendar.day_number.Goals as goal

pub returns-in-Ok-clause-value : goal.returns-in-Ok-clause-value
returns-in-Ok-clause-value c =
    let number : to_z w32 (of_z w32 c.to_unix_epoch_day.result) ≡ c.to_unix_epoch_day.result = omega (arith, ints) in
    ap Some (number ∙ c.to_unix_epoch_day.ensures.value)
    ∙ day_number-date c.args.year c.args.month c.args.day _ _ _ c.in-Ok.date (omega arith) (omega (arith, ints)) (omega (arith, ints)) (omega (arith, ints)) (c.in-Ok.ensures.succeeds.0 refl) c.in-Ok.ensures.value
