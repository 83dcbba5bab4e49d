-- The names of the causes for which a result line is refused, and the line that says so (rule of this project).
use Rattle.std.specs.Prelude.{ℕ, List, ◌++◌, codes, decimal}
use Rattle.crm_lex.specs.Causes.{lex_name}
use Rattle.input_reading.specs.Causes.{result_name}
use Rattle.live_run.specs.declared.line_stop.LineCause.{LineCause}
use Rattle.live_run.specs.declared.line_stop.LineCause.TheVariants.{Words, Form}

abbrev pub line_cause_name : LineCause → List ℕ
line_cause_name (Words cause) = lex_name cause
line_cause_name (Form cause) = result_name cause

-- `refused LINE CAUSE`
abbrev pub line_refusal_text : ℕ → LineCause → List ℕ
line_refusal_text line cause = codes "refused " ++ decimal line ++ codes " " ++ line_cause_name cause ++ codes "\n"
