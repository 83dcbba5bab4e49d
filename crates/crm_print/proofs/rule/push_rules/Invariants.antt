use Rattle.std.proofs.Common.{◌≡◌, ◌++◌, take}
use Rattle.std.specs.List.{flat_map}
use Rattle.crm_print.specs.Quoting.{spaced}
use Rattle.crm_print.specs.Items.{rule}
use Rattle.crm_print.proofs.rule.push_rules.Given as goal

abbrev pub invariant-loop-rule : goal.invariant-loop-rule
invariant-loop-rule l = l.text.items ≡ l.fn.text.items ++ flat_map spaced (flat_map rule (take l.rule-index l.rules))
