use Rattle.std.proofs.Common.{◌≡◌, drop}
use Rattle.cluster_model.specs.Inner.Settings.{defaults_from, defaults_of}
use Rattle.cluster_model.proofs.expansion.settings.defaults_of.Given as goal

abbrev pub invariant-loop-statement : goal.invariant-loop-statement
invariant-loop-statement l = defaults_of l.statements ≡ defaults_from l.found (drop l.statement-index l.statements)
