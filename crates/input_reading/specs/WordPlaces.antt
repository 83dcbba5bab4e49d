-- How the words of a line are read, by their places: what a word stands for, or the cause at the first word that is faulty (rule of this project).
use Rattle.std.specs.Prelude.{ℕ, Bool, true, false, if◌then◌else◌, List, codes, slice_get, Option, Some, None, Result, Ok, Err}
use Rattle.std.specs.Option.{ok_or}
use Rattle.crm_lex.specs.Names.{is}
use Rattle.cluster_types.specs.declared.cluster.Cluster.{Cluster}
use Rattle.faults.specs.Reading.{◌>>=◌}
use Rattle.input_reading.specs.declared.words.word_cause.WordCause.{WordCause}
use Rattle.input_reading.specs.declared.words.word_cause.WordCause.TheVariants.{MissingWord, ExtraWord, BadValue, UnknownName}
use Rattle.names.specs.Names.{leaf_of_word, node_of_word}
use Rattle.input_reading.specs.Numbers.{read_exit_code, read_action_number, read_seconds}

abbrev pub WordsOfLine : Type 0
WordsOfLine = List (List ℕ)

-- the word at a place, counted from 0
abbrev pub word_at : ℕ → WordsOfLine → Result (List ℕ) WordCause
word_at place words = ok_or (slice_get words place) MissingWord

-- no word stands at the place where the line has to end
abbrev pub line_end_at : ℕ → WordsOfLine → Result (Unit {0}) WordCause
line_end_at place words = elim (slice_get words place) [ None ↦ Ok tt | Some word ↦ Err ExtraWord ]

-- a node of the cluster by its name
unfoldable pub node_at : Cluster → ℕ → WordsOfLine → Result ℕ WordCause
node_at c place words = do
  word ← word_at place words
  ok_or (node_of_word c word) UnknownName

-- a leaf of the cluster by its name
unfoldable pub leaf_at : Cluster → ℕ → WordsOfLine → Result ℕ WordCause
leaf_at c place words = do
  word ← word_at place words
  ok_or (leaf_of_word c word) UnknownName

-- the number of an action
unfoldable pub number_at : ℕ → WordsOfLine → Result ℕ WordCause
number_at place words = do
  word ← word_at place words
  ok_or (read_action_number word) BadValue

-- an exit code
unfoldable pub code_at : ℕ → WordsOfLine → Result ℕ WordCause
code_at place words = do
  word ← word_at place words
  ok_or (read_exit_code word) BadValue

-- some seconds
unfoldable pub seconds_at : ℕ → WordsOfLine → Result ℕ WordCause
seconds_at place words = do
  word ← word_at place words
  ok_or (read_seconds word) BadValue

-- yes or no
abbrev pub yes_or_no : List ℕ → Option Bool
yes_or_no word = if is word (codes "yes") then Some true else if is word (codes "no") then Some false else None

unfoldable pub yes_at : ℕ → WordsOfLine → Result Bool WordCause
yes_at place words = do
  word ← word_at place words
  ok_or (yes_or_no word) BadValue
