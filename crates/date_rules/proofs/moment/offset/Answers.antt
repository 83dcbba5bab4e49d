use Rattle.std.proofs.Common.{refl, sym, arith}
use Rattle.std.specs.Prelude.{codes}
use Rattle.date_rules.proofs.FormLemmas.{has_two_digits}
use Rattle.date_rules.proofs.moment.offset.Goals as goal

pub width-requires-clause-hours : goal.width-requires-clause-hours
width-requires-clause-hours c = has_two_digits (codes "+00:00") c.args.text.now 1 (sym c.if-has_form.ensures) refl refl (omega arith)

pub width-requires-clause-minutes : goal.width-requires-clause-minutes
width-requires-clause-minutes c = has_two_digits (codes "+00:00") c.args.text.now 4 (sym c.if-has_form.ensures) refl refl (omega arith)

pub width-requires-then-has_form-2-clause-hours : goal.width-requires-then-has_form-2-clause-hours
width-requires-then-has_form-2-clause-hours c = has_two_digits (codes "-00:00") c.args.text.now 1 (sym c.if-has_form-2.ensures) refl refl (omega arith)

pub width-requires-then-has_form-2-clause-minutes : goal.width-requires-then-has_form-2-clause-minutes
width-requires-then-has_form-2-clause-minutes c = has_two_digits (codes "-00:00") c.args.text.now 4 (sym c.if-has_form-2.ensures) refl refl (omega arith)
