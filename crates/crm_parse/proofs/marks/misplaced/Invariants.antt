use Rattle.std.proofs.Common.{◌≡◌, [], take, drop}
use Rattle.crm_parse.specs.Marks.{misplaced}
use Rattle.crm_parse.proofs.marks.misplaced.Given as goal

abbrev pub invariant-loop-place : goal.invariant-loop-place
invariant-loop-place l = misplaced l.last [] l.lines ≡ misplaced l.last (take l.place l.lines) (drop l.place l.lines)
