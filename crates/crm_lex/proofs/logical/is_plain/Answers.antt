use Rattle.std.proofs.Common.{◌≡◌, false, sym, ap, ◌∙◌, arith}
use Rattle.crm_lex.specs.Inner.Parts.{is_plain_line}
use Rattle.crm_lex.proofs.PlainLines.{two_lines}
use Rattle.crm_lex.proofs.logical.is_plain.Goals as goal

pub returns-else-is_empty : goal.returns-else-is_empty
returns-else-is_empty c =
    let more = two_lines c.first_line.result.0.now c.first_line.result.1.now (grind (arith, c.is_empty.ensures, c.if-is_empty.false)) in
    let none : c.is_empty.result ≡ false = cc in
    none ∙ sym (ap is_plain_line c.first_line.ensures.lines ∙ more)
