use Rattle.cluster_model.proofs.ResolvedRoles.{colocations, locations, orders, rule_locations}
use Rattle.cluster_model.proofs.laws.resolved_rules_name_able_leaves.Goals as goal

pub returns-clause-locations : goal.returns-clause-locations
returns-clause-locations c leaves statements cluster r x h = locations leaves statements cluster r x h

pub returns-clause-rule_locations : goal.returns-clause-rule_locations
returns-clause-rule_locations c leaves statements cluster r x h = rule_locations leaves statements cluster r x h

pub returns-clause-dependents : goal.returns-clause-dependents
returns-clause-dependents c leaves statements cluster r x h = let m = colocations leaves statements cluster r x h in m.dependent

pub returns-clause-primaries : goal.returns-clause-primaries
returns-clause-primaries c leaves statements cluster r x h = let m = colocations leaves statements cluster r x h in m.primary

pub returns-clause-firsts : goal.returns-clause-firsts
returns-clause-firsts c leaves statements cluster r x h = let m = orders leaves statements cluster r x h in m.first

pub returns-clause-thens : goal.returns-clause-thens
returns-clause-thens c leaves statements cluster r x h = let m = orders leaves statements cluster r x h in m.later

pub returns-clause-upward : goal.returns-clause-upward
returns-clause-upward c leaves statements cluster r x h u = let m = orders leaves statements cluster r x h in m.upward u
