use Rattle.std.proofs.Common.{refl, sym, arith}
use Rattle.std.specs.Prelude.{codes}
use Rattle.date_rules.proofs.FormLemmas.{has_two_digits}
use Rattle.date_rules.proofs.moment.midnight.Goals as goal

pub two_digits-requires : goal.two_digits-requires
two_digits-requires c = has_two_digits (codes "0000-00-00") c.args.text.now 0 (sym c.if-not-has_form.ensures) refl refl (omega arith)

pub two_digits-requires-3 : goal.two_digits-requires-3
two_digits-requires-3 c = has_two_digits (codes "0000-00-00") c.args.text.now 5 (sym c.if-not-has_form.ensures) refl refl (omega arith)

pub two_digits-requires-4 : goal.two_digits-requires-4
two_digits-requires-4 c = has_two_digits (codes "0000-00-00") c.args.text.now 8 (sym c.if-not-has_form.ensures) refl refl (omega arith)

pub two_digits-requires-2 : goal.two_digits-requires-2
two_digits-requires-2 c = has_two_digits (codes "0000-00-00") c.args.text.now 2 (sym c.if-not-has_form.ensures) refl refl (omega arith)
