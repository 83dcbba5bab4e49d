use Rattle.std.proofs.Common.{◌≡◌, take}
use Rattle.cluster_model.specs.Inner.Colocations.{colocations_of}
use Rattle.cluster_model.proofs.resolution.colocations.colocations_of.Given as goal

abbrev pub invariant-loop-statement : goal.invariant-loop-statement
invariant-loop-statement l = l.colocations ≡ colocations_of l.directory (take l.statement-index l.statements)
