use Rattle.std.proofs.Common.{◌-◌, length}
use Rattle.crm_lex.proofs.Groups.{Fronts}
use Rattle.crm_lex.proofs.logical.first_logical_length.Given as goal

abbrev pub invariant-loop-at : goal.invariant-loop-at
invariant-loop-at l = Fronts l.text l.at l.continues

abbrev pub decreases-loop-at : goal.decreases-loop-at
decreases-loop-at l = length l.text - l.at
