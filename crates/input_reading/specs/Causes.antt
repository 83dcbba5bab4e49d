-- The names of the causes for which an input is refused, and the line that says so. The name of a cause is that of its variant (rules of this project).
use Rattle.std.specs.Prelude.{ℕ, List, ◌++◌, codes, decimal}
use Rattle.input_reading.specs.declared.history_fault.StatusCause.{StatusCause}
use Rattle.input_reading.specs.declared.history_fault.StatusCause.TheVariants as status
use Rattle.crm_lex.specs.Causes.{lex_name}
use Rattle.crm_parse.specs.Causes.{parse_name}
use Rattle.cluster_model.specs.Causes.{expand_name, model_name}
use Rattle.input_reading.specs.declared.history_fault.ResultCause.{ResultCause}
use Rattle.input_reading.specs.declared.history_fault.ResultCause.TheVariants as result
use Rattle.input_reading.specs.declared.words.word_cause.WordCause.{WordCause}
use Rattle.input_reading.specs.declared.words.word_cause.WordCause.TheVariants as word
use Rattle.input_reading.specs.declared.input.cause.InputCause.{InputCause}
use Rattle.input_reading.specs.declared.input.cause.InputCause.TheVariants.{Words, Statements, Leaves, Cluster, Status, Results, Run}

abbrev pub word_name : WordCause → List ℕ
word_name word.UnknownStatement = codes "UnknownStatement"
word_name word.MissingWord = codes "MissingWord"
word_name word.ExtraWord = codes "ExtraWord"
word_name word.BadValue = codes "BadValue"
word_name word.UnknownName = codes "UnknownName"

abbrev pub status_name : StatusCause → List ℕ
status_name (status.Form cause) = word_name cause
status_name status.Repeated = codes "Repeated"

abbrev pub result_name : ResultCause → List ℕ
result_name (result.Form cause) = word_name cause
result_name result.TooManyResults = codes "TooManyResults"

abbrev pub cause_name : InputCause → List ℕ
cause_name (Words cause) = lex_name cause
cause_name (Statements cause) = parse_name cause
cause_name (Leaves cause) = expand_name cause
cause_name (Cluster cause) = model_name cause
cause_name (Status cause) = status_name cause
cause_name (Results cause) = result_name cause
cause_name (Run cause) = word_name cause

-- `refused LINE CAUSE`
abbrev pub refusal_text : ℕ → InputCause → List ℕ
refusal_text line why = codes "refused " ++ decimal line ++ codes " " ++ cause_name why ++ codes "\n"
