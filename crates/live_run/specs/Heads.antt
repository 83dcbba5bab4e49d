-- The head of an input: its logical lines up to the one that begins the results, or all where none does (rule of this project).
use Rattle.std.specs.Prelude.{◌≡◌, ℕ, ◌+◌, ◌-◌, ◌^◌, ◌≤◌, Bool, false, if◌then◌else◌, Option, None, Result, Ok, Err, List, [], ◌∷◌, ◌++◌, length, codes, option_map, IfSome}
use Rattle.std.specs.List.{concat}
use Rattle.crm_lex.specs.Names.{is}
use Rattle.cluster_io.specs.NextLine.{holds_line, line_answer, IsUndecided}
use Rattle.cluster_io.specs.Readings.{Reading}
use Rattle.cluster_io.specs.declared.line_step.LineStep.{LineStep}
use Rattle.cluster_io.specs.declared.line_step.LineStep.TheVariants as step
use Rattle.crm_lex.specs.RawLines.{raw_lines}
use Rattle.crm_lex.specs.Reading.{reads_line}
use Rattle.crm_lex.specs.declared.fault.LexCause.{LexCause}
use Rattle.crm_lex.specs.declared.fault.LexCause.TheVariants.{LineTooLong}
use Rattle.faults.specs.declared.fault.Fault.{Fault}
use Rattle.faults.specs.declared.fault.Fault.TheVariants.{At, NoMemory}
use Rattle.input_reading.specs.declared.input.cause.InputCause.{InputCause}
use Rattle.input_reading.specs.declared.input.cause.InputCause.TheVariants.{Words}
use Rattle.live_run.specs.SourceFollowed.{StandWhole, bytes_of, count_lines}
use Rattle.live_run.specs.declared.head.HeadStop.{HeadStop}
use Rattle.live_run.specs.declared.head.HeadStop.TheVariants as stop

-- what a source gives as the head: its bytes, with the number of the line behind it and how many of the bytes behind it lie within the limit; the first
-- line that can't be cut into words, and why; or a line that goes past the limit
pub data HeadFound : Type 0 where
  taken : (text : List ℕ) (next room : ℕ) → HeadFound
  refused : (line : ℕ) (why : InputCause) → HeadFound
  too_large : HeadFound

-- the line of these words begins the results
abbrev pub begins_results : List (List ℕ) → Bool
begins_results [] = false
begins_results (word ∷ words) = is word (codes "%results")

-- what a logical line says of the head: it ends with this line, or goes on behind it; or the line can't be cut into words, and why; or it goes past the
-- limit of bytes
pub data LineOfHead : Type 0 where
  ends_head : LineOfHead
  goes_on_behind : LineOfHead
  has_bad_words : (line : ℕ) (why : LexCause) → LineOfHead
  passes_limit : LineOfHead

-- what a line says, by its words. It is cut without memory, so that `NoMemory` never comes; its row only makes the table whole
abbrev pub line_by_words : Result (List (List ℕ)) (Fault LexCause) → LineOfHead
line_by_words (Ok words) = if begins_results words then ends_head else goes_on_behind
line_by_words (Err (At line why)) = has_bad_words line why
line_by_words (Err NoMemory) = passes_limit

-- by its size, the number of its first physical line and its bytes. The last row is for `TooLarge`: of a line `line_answer` never gives `End` or `Failed`
abbrev pub line_by_size : LineStep → ℕ → List ℕ → LineOfHead
line_by_size step.Line n raw = line_by_words (reads_line n raw)
line_by_size step.TooLong n raw = has_bad_words n LineTooLong
line_by_size _ n raw = passes_limit

-- by its physical lines. A line may have so many bytes without line ends, so many of the bytes to come lie within the limit, and the first physical line has
-- this number
abbrev pub line_of_head : (longest room n : ℕ) → List (List ℕ) → LineOfHead
line_of_head longest room n lines = line_by_size (line_answer room longest lines) n (concat lines)

-- what is found, by what a line says: the head that ends with the line, or what is found behind the line
abbrev pub found_by : LineOfHead → HeadFound → HeadFound → HeadFound
found_by ends_head with_it behind = with_it
found_by goes_on_behind with_it behind = behind
found_by (has_bad_words line why) with_it behind = refused line (Words why)
found_by passes_limit with_it behind = too_large

-- the head of a text and some logical lines behind it, line by line: up to the first behind which it doesn't go on
abbrev pub head_found : (longest room n : ℕ) → List ℕ → List (List (List ℕ)) → HeadFound
head_found longest room n before [] = taken before n room
head_found longest room n before (lines ∷ more) =
    found_by (line_of_head longest room n lines) (taken (before ++ concat lines) (n + length lines) (room - length (concat lines)))
    (head_found longest (room - length (concat lines)) (n + length lines) (before ++ concat lines) more)

-- the head that these logical lines are: their bytes, the number of the line behind them, and how many of the bytes behind them lie within the limit
abbrev pub head_of_lines : (room n : ℕ) → List (List (List ℕ)) → HeadFound
head_of_lines room n lines = taken (bytes_of lines) (n + count_lines lines) (room - length (bytes_of lines))

-- what a line says of the head that stands behind these: they leave its room and its number
abbrev pub head_line_behind : (longest room n : ℕ) → List (List (List ℕ)) → List (List ℕ) → LineOfHead
head_line_behind longest room n before lines = line_of_head longest (room - length (bytes_of before)) (n + count_lines before) lines

-- behind each of these logical lines the head goes on, by the room and the number that those before it leave
abbrev pub AllGoOnBehind : (longest room n : ℕ) → List (List (List ℕ)) → Type 0
AllGoOnBehind longest room n all = (before after : List (List (List ℕ))) (lines : List (List ℕ)) → all ≡ before ++ lines ∷ after
    → head_line_behind longest room n before lines ≡ goes_on_behind

-- the head of some logical lines, without steps: it goes on behind each of them, and they all are the head; or it goes on behind some of them, and at the next
-- line it ends, with that line, or that line can't be cut into words, or goes past the limit
pub data IsHeadOfLines (longest room n : ℕ) (all : List (List (List ℕ))) : HeadFound → Type 0 where
  all_lines : AllGoOnBehind longest room n all → IsHeadOfLines longest room n all (head_of_lines room n all)
  up_to_results : (before after : List (List (List ℕ))) (lines : List (List ℕ)) → all ≡ before ++ lines ∷ after → AllGoOnBehind longest room n before
      → head_line_behind longest room n before lines ≡ ends_head → IsHeadOfLines longest room n all (head_of_lines room n (before ++ lines ∷ []))
  at_bad_words : (before after : List (List (List ℕ))) (lines : List (List ℕ)) (line : ℕ) (why : LexCause) → all ≡ before ++ lines ∷ after
      → AllGoOnBehind longest room n before → head_line_behind longest room n before lines ≡ has_bad_words line why → IsHeadOfLines longest room n all (refused line (Words why))
  at_limit : (before after : List (List (List ℕ))) (lines : List (List ℕ)) → all ≡ before ++ lines ∷ after → AllGoOnBehind longest room n before
      → head_line_behind longest room n before lines ≡ passes_limit → IsHeadOfLines longest room n all too_large

-- the head of a text and of all bytes to come: those that a reader holds, and those that its source has left
abbrev pub head_behind : List ℕ → Reading → List ℕ → HeadFound
head_behind before reading left = head_found reading.longest reading.room reading.next before (raw_lines (reading.held ++ left))

-- a text and the lines of a reader behind it
pub record ReaderSofar : Type 0 where
  pub text : List ℕ
  pub reading : Reading

abbrev pub so_far : List ℕ → Reading → ReaderSofar
so_far text reading = record { text = text; reading = reading }

-- all bytes, those of the text and those to come, are as before
abbrev pub KeepsBytes : ReaderSofar → ReaderSofar → Option (List ℕ) → Option (List ℕ) → Type 0
KeepsBytes old new before after =
    option_map (λ (left : List ℕ). old.text ++ (old.reading.held ++ left)) before ≡ option_map (λ (left : List ℕ). new.text ++ (new.reading.held ++ left)) after

-- why no head was given: a line is refused, or goes past the limit. Of a source or memory that failed nothing is said
abbrev pub IsStopOf : HeadFound → HeadStop → Type 0
IsStopOf head (stop.Refused line why) = head ≡ refused line why
IsStopOf head stop.TooLarge = head ≡ too_large
IsStopOf head _ = Unit {0}

-- the first of the logical lines to come were taken, and this is their text: behind them a reader has the number and the room that they
-- leave. Before the end of the source each of them is whole
pub record HasTaken (old new : Reading) (text : List ℕ) (before after : Option (List ℕ)) : Type 0 where
  pub lines : List (List (List ℕ))
  pub text_is : text ≡ bytes_of lines
  pub cut : option_map (λ left. raw_lines (old.held ++ left)) before ≡ option_map (λ left. lines ++ raw_lines (new.held ++ left)) after
  pub whole : new.ended ≡ false → (old.ended ≡ false) × StandWhole lines
  pub number : new.next ≡ old.next + count_lines lines
  pub room : length text + new.room ≡ old.room

-- behind each of the lines that were taken the head goes on, where the source tells its bytes
pub record HasHeadGoneOn (old new : Reading) (text : List ℕ) (before after : Option (List ℕ)) : Type 0 where
  pub taken : HasTaken old new text before after
  pub same_size : new.longest ≡ old.longest
  pub goes_on : IfSome after (λ left. AllGoOnBehind old.longest old.room old.next taken.lines)

-- reading stopped amid the head, before the end of the source: behind each line that was taken whole the head goes on, and this is the text of these lines. No further line was taken
-- whole, and what is held gives no answer yet
pub record IsAmid (old new : Reading) (before after : Option (List ℕ)) : Type 0 where
  pub text : List ℕ
  pub keeps : KeepsBytes (so_far [] old) (so_far text new) before after
  pub gone_on : HasHeadGoneOn old new text before after
  pub not_ended : new.ended ≡ false
  pub none_whole : holds_line new.held ≡ false
  pub undecided : IsUndecided new.room new.longest new.held

-- more lines can be read: of at most 1,048,576 bytes, with numbers below 2^32
pub record CanGoOn (reading : Reading) : Type 0 where
  pub longest : reading.longest ≡ 1048576
  pub going : reading.stop ≡ None
  pub numbered : reading.next + reading.room ≤ 2 ^ 32
