-- What one logical line says where an answer is due (rule of this project).
use Rattle.std.specs.Prelude.{ℕ, ◌+◌, Bool, true, false, Result, Ok, Err, List, ◌∷◌, []}
use Rattle.std.specs.List.{concat}
use Rattle.cluster_io.specs.NextLine.{line_answer}
use Rattle.cluster_io.specs.declared.line_step.LineStep.{LineStep}
use Rattle.cluster_io.specs.declared.line_step.LineStep.TheVariants as step
use Rattle.cluster_types.specs.declared.cluster.Cluster.{Cluster}
use Rattle.cluster_types.specs.declared.journal.Answer.{Answer}
use Rattle.crm_lex.specs.Reading.{reads_line}
use Rattle.crm_lex.specs.declared.fault.LexCause.{LexCause}
use Rattle.crm_lex.specs.declared.fault.LexCause.TheVariants.{LineTooLong}
use Rattle.faults.specs.declared.fault.Fault.{Fault}
use Rattle.faults.specs.declared.fault.Fault.TheVariants.{At, NoMemory}
use Rattle.cluster_types.specs.AnswersThatApply.{seconds_in}
use Rattle.input_reading.specs.Results.{result_of}
use Rattle.input_reading.specs.declared.history_fault.ResultCause.{ResultCause}
use Rattle.live_run.specs.declared.line_stop.LineCause.{LineCause}
use Rattle.live_run.specs.declared.line_stop.LineCause.TheVariants as cause
use Rattle.live_run.specs.declared.line_stop.LineStop.{LineStop}
use Rattle.live_run.specs.declared.line_stop.LineStop.TheVariants.{ReadFault, TooLarge, Refused}
use Rattle.live_run.specs.declared.place.Place.{Place}
use Rattle.live_run.specs.declared.line_saying.Said.{Said}
use Rattle.live_run.specs.declared.line_saying.Said.TheVariants as said

-- why a line is refused. A line is read without memory, so that `NoMemory` never comes; its row only makes the table whole
abbrev pub refused_for : {C : Type 0} → (C → LineCause) → Fault C → LineStop
refused_for cause_of (At line why) = Refused line (cause_of why)
refused_for cause_of NoMemory = TooLarge

-- what a line says of which this was read
abbrev pub answer_says : Result Answer (Fault ResultCause) → Said
answer_says (Ok given) = said.Answer given
answer_says (Err fault) = said.Stop (refused_for cause.Form fault)

-- what the words of a line say. A line without words says nothing
abbrev pub words_say : Cluster → Place → List (List ℕ) → Said
words_say c at [] = said.Nothing
words_say c at (word ∷ words) = answer_says (result_of c at.moment at.before at.line (word ∷ words))

abbrev pub read_says : Cluster → Place → Result (List (List ℕ)) (Fault LexCause) → Said
read_says c at (Ok words) = words_say c at words
read_says c at (Err fault) = said.Stop (refused_for cause.Words fault)

-- what the bytes of a line say
abbrev pub due_line_says : Cluster → Place → List ℕ → Said
due_line_says c at raw = read_says c at (reads_line at.line raw)

-- what a line of these physical lines says, by its size. The last row is for `TooLarge`: of a line `line_answer` never gives `End` or `Failed`
abbrev pub sized_says : Cluster → Place → LineStep → List (List ℕ) → Said
sized_says c at step.Line lines = due_line_says c at (concat lines)
sized_says c at step.TooLong lines = said.Stop (Refused at.line (cause.Words LineTooLong))
sized_says c at _ lines = said.Stop TooLarge

-- the same, where a line may have so many bytes without line ends, and so many of the bytes to come lie within the limit
abbrev pub line_says_within : Cluster → (longest room : ℕ) → Place → List (List ℕ) → Said
line_says_within c longest room at lines = sized_says c at (line_answer room longest lines) lines

-- the place behind a line that says this and has so many physical lines
abbrev pub place_behind_said : Place → Said → ℕ → Place
place_behind_said at (said.Answer given) lines = record { moment = at.moment + seconds_in given; before = at.before + 1; line = at.line + lines }
place_behind_said at _ lines = record { moment = at.moment; before = at.before; line = at.line + lines }

-- no line is read behind this one: it is refused, or goes past the limit
abbrev pub is_last : LineStop → Bool
is_last ReadFault = false
is_last _ = true
