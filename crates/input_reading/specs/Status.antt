-- The lines of a status: what each of them tells (Pacemaker Explained, operation history; the lines are a rule of this project).
use Rattle.std.specs.Prelude.{ℕ, ◌==◌, Bool, true, if◌then◌else◌, List, codes, Option, Some, None, option_map, Result, Ok, Err, ℤ}
use Rattle.std.specs.Option.{ok_or}
use Rattle.crm_lex.specs.Names.{is}
use Rattle.score.specs.ScoreText.{read_score}
use Rattle.cluster_types.specs.declared.cluster.Cluster.{Cluster}
use Rattle.cluster_types.specs.declared.journal.Action.{Action}
use Rattle.cluster_types.specs.declared.journal.Action.TheVariants.{Probe, Operation}
use Rattle.cluster_types.specs.declared.journal.Event.TheVariants.{Cleanup, Ended}
use Rattle.cluster_types.specs.declared.journal.Outcome.{Outcome}
use Rattle.cluster_types.specs.declared.journal.Outcome.TheVariants.{Code, TimedOut}
use Rattle.cluster_types.specs.declared.leaf.Op.{Op}
use Rattle.cluster_types.specs.declared.leaf.Op.TheVariants.{Promote, Demote, Monitor}
use Rattle.cluster_types.specs.declared.leaf.Role.TheVariants as role
use Rattle.cluster_types.specs.Fields.{is_promotable, monitors}
use Rattle.cluster_types.specs.AnswersThatApply.{role_of_interval}
use Rattle.faults.specs.Digits.{number_up_to}
use Rattle.faults.specs.Reading.{◌>>=◌}
use Rattle.input_reading.specs.declared.words.word_cause.WordCause.{WordCause}
use Rattle.input_reading.specs.declared.words.word_cause.WordCause.TheVariants.{BadValue, UnknownStatement}
use Rattle.input_reading.specs.Numbers.{read_exit_code, read_interval}
use Rattle.cluster_types.specs.OperationNames.{operation_named}
use Rattle.input_reading.specs.WordPlaces.{WordsOfLine, line_end_at, leaf_at, node_at, seconds_at, word_at, yes_at}
use Rattle.input_reading.specs.declared.status.status_lines.StatusWord.{StatusWord}
use Rattle.input_reading.specs.declared.status.status_lines.StatusWord.TheVariants as first
use Rattle.input_reading.specs.declared.status.line_meaning.NodeWord.{NodeWord}
use Rattle.input_reading.specs.declared.status.line_meaning.NodeWord.TheVariants.{Online, Offline, Unclean}
use Rattle.input_reading.specs.declared.status.line_meaning.Fact.{Fact}
use Rattle.input_reading.specs.declared.status.line_meaning.Fact.TheVariants.{Now, Quorum, Node, Past, Promoting}

-- what a first word begins
unfoldable pub status_word : List ℕ → Result StatusWord WordCause
status_word word =
    if is word (codes "now") then Ok first.Now
    else if is word (codes "quorum") then Ok first.Quorum
    else if is word (codes "node") then Ok first.Node
    else if is word (codes "op") then Ok first.Op
    else if is word (codes "cleanup") then Ok first.Cleanup
    else if is word (codes "promotion") then Ok first.Promotion
    else Err UnknownStatement

-- `now SECONDS`
unfoldable pub now_line : WordsOfLine → Result Fact WordCause
now_line words = do
  seconds ← seconds_at 1 words
  end ← line_end_at 2 words
  Ok (Now seconds)

-- `quorum yes` or `quorum no`
unfoldable pub quorum_line : WordsOfLine → Result Fact WordCause
quorum_line words = do
  quorate ← yes_at 1 words
  end ← line_end_at 2 words
  Ok (Quorum quorate)

abbrev pub node_word : List ℕ → Option NodeWord
node_word word =
    if is word (codes "online") then Some Online
    else if is word (codes "offline") then Some Offline
    else if is word (codes "unclean") then Some Unclean
    else None

unfoldable pub state_at : ℕ → WordsOfLine → Result NodeWord WordCause
state_at place words = do
  word ← word_at place words
  ok_or (node_word word) BadValue

-- `node NODE online`, `offline` or `unclean`
unfoldable pub node_line : Cluster → WordsOfLine → Result Fact WordCause
node_line c words = do
  node ← node_at c 1 words
  state ← state_at 2 words
  end ← line_end_at 3 words
  Ok (Node node state)

-- only a promotable leaf is promoted and demoted
abbrev pub may_have : Cluster → ℕ → Op → Bool
may_have c r Promote = is_promotable c r
may_have c r Demote = is_promotable c r
may_have c r _ = true

abbrev pub fitting : Cluster → ℕ → Op → Result Op WordCause
fitting c r op = if may_have c r op then Ok op else Err BadValue

-- an operation that the leaf may have
unfoldable pub op_at : Cluster → ℕ → ℕ → WordsOfLine → Result Op WordCause
op_at c r place words = do
  word ← word_at place words
  op ← ok_or (operation_named word) BadValue
  fitting c r op

-- the milliseconds of an operation: 0 but for a monitor
abbrev pub interval_as : Op → List ℕ → Option ℕ
interval_as Monitor word = read_interval word
interval_as _ word = number_up_to 0 word

unfoldable pub interval_at : Op → ℕ → WordsOfLine → Result ℕ WordCause
interval_at op place words = do
  word ← word_at place words
  ok_or (interval_as op word) BadValue

-- an exit code, or that the operation was killed after its time
abbrev pub outcome_of : List ℕ → Option Outcome
outcome_of word = if is word (codes "timeout") then Some TimedOut else option_map Code (read_exit_code word)

unfoldable pub outcome_at : ℕ → WordsOfLine → Result Outcome WordCause
outcome_at place words = do
  word ← word_at place words
  ok_or (outcome_of word) BadValue

-- the operation as an action of the cell: a monitor of interval 0 is a probe, and another has the role of its interval's statement
abbrev pub history_action : Cluster → Op → ℕ → ℕ → ℕ → Action
history_action c Monitor r n interval = if interval == 0 then Probe r n else Operation Monitor r n interval (role_of_interval (monitors c r) interval)
history_action c op r n interval = Operation op r n 0 role.Started

-- `op NODE LEAF OP MS CODE SECONDS`: an operation that ended. It has the number 0
unfoldable pub op_line : Cluster → WordsOfLine → Result Fact WordCause
op_line c words = do
  node ← node_at c 1 words
  leaf ← leaf_at c 2 words
  op ← op_at c leaf 3 words
  interval ← interval_at op 4 words
  outcome ← outcome_at 5 words
  moment ← seconds_at 6 words
  end ← line_end_at 7 words
  Ok (Past (Ended 0 (history_action c op leaf node interval) outcome moment))

-- `cleanup NODE LEAF`
unfoldable pub cleanup_line : Cluster → WordsOfLine → Result Fact WordCause
cleanup_line c words = do
  node ← node_at c 1 words
  leaf ← leaf_at c 2 words
  end ← line_end_at 3 words
  Ok (Past (Cleanup leaf node))

abbrev pub promotable : Cluster → ℕ → Result ℕ WordCause
promotable c r = if is_promotable c r then Ok r else Err BadValue

-- a promotable leaf
unfoldable pub promotable_at : Cluster → ℕ → WordsOfLine → Result ℕ WordCause
promotable_at c place words = do
  leaf ← leaf_at c place words
  promotable c leaf

-- the points of a score
unfoldable pub score_at : ℕ → WordsOfLine → Result ℤ WordCause
score_at place words = do
  word ← word_at place words
  ok_or (read_score word) BadValue

-- `promotion NODE LEAF SCORE`
unfoldable pub promotion_line : Cluster → WordsOfLine → Result Fact WordCause
promotion_line c words = do
  node ← node_at c 1 words
  leaf ← promotable_at c 2 words
  score ← score_at 3 words
  end ← line_end_at 4 words
  Ok (Promoting (record { leaf = leaf; node = node; score = score }))

abbrev pub told_as : Cluster → StatusWord → WordsOfLine → Result Fact WordCause
told_as c first.Now words = now_line words
told_as c first.Quorum words = quorum_line words
told_as c first.Node words = node_line c words
told_as c first.Op words = op_line c words
told_as c first.Cleanup words = cleanup_line c words
told_as c first.Promotion words = promotion_line c words

-- what the words of a line tell
unfoldable pub told_of : Cluster → WordsOfLine → Result Fact WordCause
told_of c words = do
  word ← word_at 0 words
  form ← status_word word
  told_as c form words
