use Rattle.std.proofs.Common.{◌≡◌, take}
use Rattle.std.specs.List.{flat_map}
use Rattle.crm_print.specs.Text.{ended_line}
use Rattle.crm_print.proofs.text.print.Given as goal

abbrev pub invariant-loop-statement : goal.invariant-loop-statement
invariant-loop-statement l = l.text.items ≡ flat_map ended_line (take l.statement-index l.crm.statements)
