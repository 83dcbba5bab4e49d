use Rattle.std.proofs.Common.{◌≡◌, take, map, ◌++◌}
use Rattle.cluster_model.specs.Inner.Locations.{rule_location_of}
use Rattle.cluster_model.proofs.resolution.locations.add_rules.Given as goal

abbrev pub invariant-loop-rule : goal.invariant-loop-rule
invariant-loop-rule l = l.locations ≡ l.fn.locations ++ map (rule_location_of l.directory l.id l.resource l.written) (take l.rule-index l.rules)
