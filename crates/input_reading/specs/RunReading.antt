-- How the lines of a run are read, by their words, and at which word they are faulty (rule of this project).
use Rattle.std.specs.Prelude.{ℕ, if◌then◌else◌, List, [], ◌∷◌, ◌++◌, codes, Result, Ok}
use Rattle.std.specs.Option.{ok_or}
use Rattle.crm_lex.specs.Names.{is}
use Rattle.cluster_types.specs.declared.cluster.Cluster.{Cluster}
use Rattle.cluster_types.specs.declared.journal.Action.{Action}
use Rattle.cluster_types.specs.declared.journal.Action.TheVariants.{Fence, Probe, Operation, MigrateTo, MigrateFrom}
use Rattle.cluster_types.specs.declared.leaf.Op.{Op}
use Rattle.cluster_types.specs.declared.leaf.Role.TheVariants.{Started}
use Rattle.cluster_types.specs.declared.placement.NoReason.TheVariants.{Held}
use Rattle.cluster_types.specs.declared.run.RunLine.{RunLine}
use Rattle.cluster_types.specs.declared.run.RunLine.TheVariants as line
use Rattle.cluster_types.specs.AnswersThatApply.{monitor_action}
use Rattle.crm_lex.specs.declared.line.Line.{Line}
use Rattle.faults.specs.declared.fault.Fault.{Fault}
use Rattle.faults.specs.Reading.{◌>>=◌, on_line}
use Rattle.input_reading.specs.declared.words.word_cause.WordCause.{WordCause}
use Rattle.input_reading.specs.declared.words.word_cause.WordCause.TheVariants.{BadValue}
use Rattle.input_reading.specs.WordPlaces.{WordsOfLine, line_end_at, leaf_at, node_at, number_at, word_at}
use Rattle.input_reading.specs.Results.{answer_of}
use Rattle.input_reading.specs.declared.run.text.RunTextLine.{RunTextLine}
use Rattle.input_reading.specs.declared.run.words.ActionWord.{ActionWord}
use Rattle.input_reading.specs.declared.run.words.ActionWord.TheVariants as action
use Rattle.input_reading.specs.declared.run.words.LineWord.{LineWord}
use Rattle.input_reading.specs.declared.run.words.LineWord.TheVariants as word
use Rattle.input_reading.specs.LineWords.{action_word_at, id_at, line_word, pin_at, reason_of, target_at}

-- a word and a number, and nothing more
unfoldable pub number_alone : WordsOfLine → Result ℕ WordCause
number_alone words = do
  number ← number_at 1 words
  end ← line_end_at 2 words
  Ok number

-- `transition K`
unfoldable pub transition_line : WordsOfLine → Result RunLine WordCause
transition_line words = do
  number ← number_alone words
  Ok (line.Transition number)

-- `complete K`
unfoldable pub complete_line : WordsOfLine → Result RunLine WordCause
complete_line words = do
  number ← number_alone words
  Ok (line.Complete number)

-- `aborted K`
unfoldable pub aborted_line : WordsOfLine → Result RunLine WordCause
aborted_line words = do
  number ← number_alone words
  Ok (line.Aborted number)

-- `unexpected LINE`
unfoldable pub unexpected_line : WordsOfLine → Result RunLine WordCause
unexpected_line words = do
  number ← number_alone words
  Ok (line.Unexpected number)

-- `pinned LEAF unmanaged` or `pinned LEAF blocked`
unfoldable pub pinned_line : Cluster → WordsOfLine → Result RunLine WordCause
pinned_line c words = do
  leaf ← leaf_at c 1 words
  pin ← pin_at 2 words
  end ← line_end_at 3 words
  Ok (line.Pinned leaf pin)

-- `target LEAF NODE started` or `target LEAF NODE promoted`
unfoldable pub target_line : Cluster → WordsOfLine → Result RunLine WordCause
target_line c words = do
  leaf ← leaf_at c 1 words
  node ← node_at c 2 words
  goal ← target_at 3 words
  end ← line_end_at 4 words
  Ok (line.Goal leaf node goal)

-- `none LEAF Held RULE`, from the rule on
unfoldable pub held_line : ℕ → WordsOfLine → Result RunLine WordCause
held_line leaf words = do
  id ← id_at 3 words
  end ← line_end_at 4 words
  Ok (line.Lacking leaf (Held id))

-- `none LEAF REASON` of a reason without a rule, from the reason on
unfoldable pub plain_line : ℕ → List ℕ → WordsOfLine → Result RunLine WordCause
plain_line leaf text words = do
  reason ← ok_or (reason_of text) BadValue
  end ← line_end_at 3 words
  Ok (line.Lacking leaf reason)

-- `none LEAF REASON`
unfoldable pub lacking_line : Cluster → WordsOfLine → Result RunLine WordCause
lacking_line c words = do
  leaf ← leaf_at c 1 words
  text ← word_at 2 words
  if is text (codes "Held") then held_line leaf words else plain_line leaf text words

-- `fence NODE`, at the end of a line
unfoldable pub fence_at_end : Cluster → WordsOfLine → Result Action WordCause
fence_at_end c words = do
  node ← node_at c 3 words
  end ← line_end_at 4 words
  Ok (Fence node)

-- `probe LEAF NODE`
unfoldable pub probe_at_end : Cluster → WordsOfLine → Result Action WordCause
probe_at_end c words = do
  leaf ← leaf_at c 3 words
  node ← node_at c 4 words
  end ← line_end_at 5 words
  Ok (Probe leaf node)

-- `monitor LEAF NODE MS`. Its role is that of the leaf's monitor of this interval
unfoldable pub monitor_at_end : Cluster → WordsOfLine → Result Action WordCause
monitor_at_end c words = do
  leaf ← leaf_at c 3 words
  node ← node_at c 4 words
  interval ← number_at 5 words
  end ← line_end_at 6 words
  Ok (monitor_action c leaf node interval)

-- `start LEAF NODE`, and so on
unfoldable pub operation_at_end : Cluster → Op → WordsOfLine → Result Action WordCause
operation_at_end c op words = do
  leaf ← leaf_at c 3 words
  node ← node_at c 4 words
  end ← line_end_at 5 words
  Ok (Operation op leaf node 0 Started)

-- `migrate_to LEAF SOURCE TARGET`
unfoldable pub migrate_to_at_end : Cluster → WordsOfLine → Result Action WordCause
migrate_to_at_end c words = do
  leaf ← leaf_at c 3 words
  source ← node_at c 4 words
  target ← node_at c 5 words
  end ← line_end_at 6 words
  Ok (MigrateTo leaf source target)

-- `migrate_from LEAF SOURCE TARGET`
unfoldable pub migrate_from_at_end : Cluster → WordsOfLine → Result Action WordCause
migrate_from_at_end c words = do
  leaf ← leaf_at c 3 words
  source ← node_at c 4 words
  target ← node_at c 5 words
  end ← line_end_at 6 words
  Ok (MigrateFrom leaf source target)

abbrev pub action_as : Cluster → ActionWord → WordsOfLine → Result Action WordCause
action_as c action.Fence words = fence_at_end c words
action_as c action.Probe words = probe_at_end c words
action_as c (action.Operation op) words = operation_at_end c op words
action_as c action.Monitor words = monitor_at_end c words
action_as c action.MigrateTo words = migrate_to_at_end c words
action_as c action.MigrateFrom words = migrate_from_at_end c words

-- `begin NUMBER WHAT`
unfoldable pub begin_line : Cluster → WordsOfLine → Result RunLine WordCause
begin_line c words = do
  number ← number_at 1 words
  form ← action_word_at 2 words
  what ← action_as c form words
  Ok (line.Begin number what)

-- an answer, as of a result line at the moment 0: the waits of a run aren't added up, so any SECONDS will do
unfoldable pub answer_line : Cluster → WordsOfLine → Result RunLine WordCause
answer_line c words = do
  given ← answer_of c 0 words
  Ok (line.Taken given)

abbrev pub line_as : Cluster → LineWord → WordsOfLine → Result RunLine WordCause
line_as c word.Transition words = transition_line words
line_as c word.Pinned words = pinned_line c words
line_as c word.Target words = target_line c words
line_as c word.Lacking words = lacking_line c words
line_as c word.Begin words = begin_line c words
line_as c word.Complete words = complete_line words
line_as c word.Aborted words = aborted_line words
line_as c word.Unexpected words = unexpected_line words
line_as c word.Answer words = answer_line c words

-- what the words of a line say
unfoldable pub line_of_words : Cluster → WordsOfLine → Result RunLine WordCause
line_of_words c words = do
  first ← word_at 0 words
  line_as c (line_word first) words

-- what a line of a text says, with its number
abbrev pub text_line : Cluster → Line → Result RunTextLine (Fault WordCause)
text_line c at =
    on_line at.line (line_of_words c at.words) >>= (λ (what : RunLine). Ok (record { line = at.line; what = what }))

-- some lines, and those that further lines of a text say; the first line that is at fault counts
abbrev pub with_run_lines : Cluster → List RunTextLine → List Line → Result (List RunTextLine) (Fault WordCause)
with_run_lines c so_far [] = Ok so_far
with_run_lines c so_far (at ∷ more) = text_line c at >>= (λ (one : RunTextLine). with_run_lines c (so_far ++ one ∷ []) more)

-- what the lines of a text say
abbrev pub read_run_lines : Cluster → List Line → Result (List RunTextLine) (Fault WordCause)
read_run_lines c lines = with_run_lines c [] lines
