use Rattle.std.proofs.Common.{◌≡◌, filter, map, take}
use Rattle.cluster_types.specs.Terms.{is_tie}
use Rattle.placement.specs.Ties.{tie_of}
use Rattle.placement.proofs.totals.ties.listed_ties.Given as goal

abbrev pub invariant-loop-rule : goal.invariant-loop-rule
invariant-loop-rule l = l.ties.items ≡ map tie_of (filter (is_tie l.cluster) (take l.rule-index l.rule-items))
