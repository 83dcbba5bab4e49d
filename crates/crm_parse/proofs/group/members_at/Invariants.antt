use Rattle.std.proofs.Common.{◌≡◌, [], length}
use Rattle.crm_parse.specs.Groups.{members_from}
use Rattle.crm_parse.proofs.group.members_at.Given as goal

abbrev pub invariant-loop-rest : goal.invariant-loop-rest
invariant-loop-rest l = members_from [] l.words ≡ members_from l.members l.rest

abbrev pub decreases-loop-rest : goal.decreases-loop-rest
decreases-loop-rest l = length l.rest
