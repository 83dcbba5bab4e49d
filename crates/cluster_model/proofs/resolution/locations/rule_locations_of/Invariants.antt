use Rattle.std.proofs.Common.{◌≡◌, take}
use Rattle.cluster_model.specs.Inner.Locations.{rule_locations_of}
use Rattle.cluster_model.proofs.resolution.locations.rule_locations_of.Given as goal

abbrev pub invariant-loop-statement : goal.invariant-loop-statement
invariant-loop-statement l = l.locations ≡ rule_locations_of l.directory (take l.statement-index l.statements)
