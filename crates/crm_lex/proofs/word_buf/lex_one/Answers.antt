use Rattle.crm_lex.specs.RawLines.{physical_lines}
use Rattle.crm_lex.proofs.LineFaults.{never_memory}
use Rattle.crm_lex.proofs.word_buf.lex_one.Goals as goal

pub returns-in-Some-clause-no_memory : goal.returns-in-Some-clause-no_memory
returns-in-Some-clause-no_memory c =
    never_memory c.args.line (physical_lines c.args.raw.now) c.in-Some.fault c.in-Some.ensures.fault
