use Rattle.std.proofs.Common.{◌≡◌, drop}
use Rattle.std.specs.Prelude.{codes}
use Rattle.cluster_model.specs.Options.{policy_of}
use Rattle.cluster_model.specs.Settings.{option_as}
use Rattle.cluster_model.proofs.resolution.options.policy_in.Given as goal

abbrev pub invariant-loop-statement : goal.invariant-loop-statement
invariant-loop-statement l = option_as policy_of (codes "no-quorum-policy") l.statements ≡ option_as policy_of (codes "no-quorum-policy") (drop l.statement-index l.statements)
