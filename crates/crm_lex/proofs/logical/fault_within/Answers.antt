use Rattle.std.proofs.Common.{◌≡◌, false, is_some, Option, Some, None, refl, sym, ap, ◌∙◌, arith}
use Rattle.crm_lex.specs.RawLines.{physical_lines}
use Rattle.crm_lex.specs.Words.{is_open}
use Rattle.crm_lex.specs.LogicalLines.{line_text}
use Rattle.crm_lex.proofs.Faults.{first_fault-later}
use Rattle.crm_lex.proofs.logical.fault_within.Goals as goal

none : {A : Type 0} (o : Option A) → is_some o ≡ false → None ≡ o
none None e = refl
none (Some x) e = cc

pub returns : goal.returns
returns c =
    let closed : is_open (line_text (physical_lines c.args.raw.now)) ≡ false = ap is_open (sym c.requires.text) ∙ sym c.if-is_open.ensures in
    let clean = none c.byte_fault-fault.result (grind (arith, c.if-is_some.ensures)) ∙ c.byte_fault-fault.ensures in
    rw (c.first_byte_fault.ensures, c.from.ensures) (sym (first_fault-later c.args.first _ _ _ c.first_line.ensures.lines c.requires.short clean closed))
