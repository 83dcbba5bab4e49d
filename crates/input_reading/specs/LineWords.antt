-- The words of the lines of a run, and what they stand for (rule of this project).
use Rattle.std.specs.Prelude.{ℕ, if◌then◌else◌, List, codes, Option, Some, None, Result, Ok, Err}
use Rattle.std.specs.Option.{ok_or, option_map}
use Rattle.cluster_types.specs.declared.leaf.Op.{Op}
use Rattle.cluster_types.specs.declared.leaf.Op.TheVariants.{Start, Stop, Promote, Demote, Monitor}
use Rattle.cluster_types.specs.declared.placement.NoReason.{NoReason}
use Rattle.cluster_types.specs.declared.placement.NoReason.TheVariants.{NoCopies, Stopped, OnFail, StopAll, NoQuorum, NoNode}
use Rattle.cluster_types.specs.declared.placement.Pin.{Pin}
use Rattle.cluster_types.specs.declared.placement.Pin.TheVariants.{Unmanaged, Blocked}
use Rattle.cluster_types.specs.declared.placement.Target.{Target}
use Rattle.cluster_types.specs.declared.placement.Target.TheVariants as target
use Rattle.crm_lex.specs.Names.{is, is_name}
use Rattle.faults.specs.Reading.{◌>>=◌}
use Rattle.input_reading.specs.declared.words.word_cause.WordCause.{WordCause}
use Rattle.input_reading.specs.declared.words.word_cause.WordCause.TheVariants.{BadValue}
use Rattle.cluster_types.specs.OperationNames.{operation_named}
use Rattle.input_reading.specs.WordPlaces.{WordsOfLine, word_at}
use Rattle.input_reading.specs.declared.run.words.ActionWord.{ActionWord}
use Rattle.input_reading.specs.declared.run.words.ActionWord.TheVariants as action
use Rattle.input_reading.specs.declared.run.words.LineWord.{LineWord}
use Rattle.input_reading.specs.declared.run.words.LineWord.TheVariants as word

-- what a first word begins. A line of none of these words may be an answer
unfoldable pub line_word : List ℕ → LineWord
line_word text =
    if is text (codes "transition") then word.Transition
    else if is text (codes "pinned") then word.Pinned
    else if is text (codes "target") then word.Target
    else if is text (codes "none") then word.Lacking
    else if is text (codes "begin") then word.Begin
    else if is text (codes "complete") then word.Complete
    else if is text (codes "aborted") then word.Aborted
    else if is text (codes "unexpected") then word.Unexpected
    else word.Answer

-- why a leaf is left as it is
abbrev pub pin_named : List ℕ → Option Pin
pin_named text =
    if is text (codes "unmanaged") then Some Unmanaged else if is text (codes "blocked") then Some Blocked else None

-- what a leaf is to be on a node
abbrev pub target_of : List ℕ → Option Target
target_of text =
    if is text (codes "started") then Some target.Started
    else if is text (codes "promoted") then Some target.Promoted else None

-- why a leaf has no target, where no rule holds it back
unfoldable pub reason_of : List ℕ → Option NoReason
reason_of text =
    if is text (codes "NoCopies") then Some NoCopies
    else if is text (codes "Stopped") then Some Stopped
    else if is text (codes "OnFail") then Some OnFail
    else if is text (codes "StopAll") then Some StopAll
    else if is text (codes "NoQuorum") then Some NoQuorum
    else if is text (codes "NoNode") then Some NoNode
    else None

-- the action that runs an operation
abbrev pub action_of_op : Op → ActionWord
action_of_op Start = action.Operation Start
action_of_op Stop = action.Operation Stop
action_of_op Promote = action.Operation Promote
action_of_op Demote = action.Operation Demote
action_of_op Monitor = action.Monitor

-- what an action does
unfoldable pub action_word : List ℕ → Option ActionWord
action_word text =
    if is text (codes "fence") then Some action.Fence
    else if is text (codes "probe") then Some action.Probe
    else if is text (codes "migrate_to") then Some action.MigrateTo
    else if is text (codes "migrate_from") then Some action.MigrateFrom
    else option_map action_of_op (operation_named text)

-- what stands at a place, counted from 0
unfoldable pub pin_at : ℕ → WordsOfLine → Result Pin WordCause
pin_at place words = do
  text ← word_at place words
  ok_or (pin_named text) BadValue

unfoldable pub target_at : ℕ → WordsOfLine → Result Target WordCause
target_at place words = do
  text ← word_at place words
  ok_or (target_of text) BadValue

-- the id of a rule
unfoldable pub id_at : ℕ → WordsOfLine → Result (List ℕ) WordCause
id_at place words = do
  text ← word_at place words
  if is_name text then Ok text else Err BadValue

unfoldable pub action_word_at : ℕ → WordsOfLine → Result ActionWord WordCause
action_word_at place words = do
  text ← word_at place words
  ok_or (action_word text) BadValue
