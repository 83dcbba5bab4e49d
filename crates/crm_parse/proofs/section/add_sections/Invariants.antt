use Rattle.std.proofs.Common.{◌≡◌, length}
use Rattle.crm_parse.specs.Sections.{sections_from}
use Rattle.crm_parse.proofs.section.add_sections.Given as goal

abbrev pub invariant-loop-rest : goal.invariant-loop-rest
invariant-loop-rest l = sections_from l.owner l.fn.sections l.words ≡ sections_from l.owner l.sections l.rest

abbrev pub decreases-loop-rest : goal.decreases-loop-rest
decreases-loop-rest l = length l.rest
