use Rattle.std.proofs.Common.{◌++◌}
use Rattle.crm_lex.specs.RawLines.{raw_lines}
use Rattle.live_run.proofs.NoFault.{coming_no_fault}
use Rattle.live_run.proofs.run_laws.lines_say_no_read_fault.Goals as goal

pub returns : goal.returns
returns c = λ cl lines left. coming_no_fault cl lines.reading.longest lines.reading.room lines.at (raw_lines (lines.reading.held ++ left))
