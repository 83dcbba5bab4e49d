use Rattle.std.proofs.Common.{◌≡◌, drop}
use Rattle.crm_parse.specs.Values.{bool_of}
use Rattle.cluster_model.specs.Settings.{option_as}
use Rattle.cluster_model.proofs.expansion.settings.flag_in.Given as goal

abbrev pub invariant-loop-statement : goal.invariant-loop-statement
invariant-loop-statement l = option_as bool_of l.fn.key l.statements ≡ option_as bool_of l.fn.key (drop l.statement-index l.statements)
