use Rattle.std.proofs.Common.{refl, sym, arith}
use Rattle.date_rules.proofs.MomentLemmas.{time_digits}
use Rattle.date_rules.proofs.moment.time_of_day.Goals as goal

pub two_digits-hours-requires : goal.two_digits-hours-requires
two_digits-hours-requires c = time_digits c.args.text.now 1 (sym c.if-not-is_time.ensures) refl refl refl refl (omega arith)

pub two_digits-minutes-requires : goal.two_digits-minutes-requires
two_digits-minutes-requires c = time_digits c.args.text.now 4 (sym c.if-not-is_time.ensures) refl refl refl refl (omega arith)

pub two_digits-seconds-requires : goal.two_digits-seconds-requires
two_digits-seconds-requires c = time_digits c.args.text.now 7 (sym c.if-not-is_time.ensures) refl refl refl refl (omega arith)
