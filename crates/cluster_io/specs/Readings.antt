-- What a reader of lines holds, and what one call of it leaves (rule of this project).
use Rattle.std.specs.Prelude.{◌≡◌, ◌≢◌, ℕ, ◌+◌, ◌-◌, ◌≤◌, ◌<◌, Bool, true, false, Option, Some, List, [], ◌++◌, length, IfSome}
use Rattle.crm_lex.specs.RawLines.{physical_lines}
use Rattle.cluster_io.specs.Streams.{TakesBytes}
use Rattle.cluster_io.specs.NextLine.{reader_answer, first_line, holds_line, IsUndecided}
use Rattle.cluster_io.specs.declared.line_step.LineStep.{LineStep}
use Rattle.cluster_io.specs.declared.line_step.LineStep.TheVariants.{Line, End, Failed}

-- a reader of lines
pub record Reading : Type 0 where
  -- the bytes that it took and didn't hand out
  pub held : List ℕ
  -- the line that its last call handed out, with its line ends, or none; and the number of the line that was handed out last
  pub raw : List ℕ
  pub number : ℕ
  -- the number of the first line that it holds
  pub next : ℕ
  -- how many of the bytes not handed out lie within its limit
  pub room : ℕ
  -- how many bytes a line may have without its line ends
  pub longest : ℕ
  -- the answer that it gives from now on, where it gives one
  pub stop : Option LineStep
  -- whether the source has ended
  pub ended : Bool

-- a line is handed out: it is the first logical line of what was held, whatever follows, or the last one at the end of the source
pub record HandsOut (old new : Reading) (ended : Bool) : Type 0 where
  pub parts : old.held ≡ new.raw ++ new.held
  pub first : (rest : List ℕ) → (ended ≡ true → rest ≡ []) → first_line (old.held ++ rest) ≡ physical_lines new.raw
  pub short : length new.held < 4096
  pub in_room : length new.raw ≤ old.room
  pub others : new ≡ record old {
    held = new.held;
    raw = new.raw;
    number = old.next;
    next = old.next + length (physical_lines new.raw);
    room = old.room - length new.raw;
    ended = ended;
  }

-- what an answer leaves of what was held. Only a line is handed out. Behind a line that is too long or too large the reader stops, and says so from then on
abbrev pub ReaderIsLeft : LineStep → Reading → Reading → Bool → Type 0
ReaderIsLeft Line old new ended = HandsOut old new ended
ReaderIsLeft End old new ended = (new ≡ record old { raw = []; ended = true }) × (old.held ≡ []) × (ended ≡ true)
ReaderIsLeft Failed old new ended = (new ≡ record old { raw = [] }) × (holds_line old.held ≡ false) × (ended ≡ false)
ReaderIsLeft step old new ended = new ≡ record old { raw = []; stop = Some step; ended = ended }

-- these bytes came by reads, each of which was made where no whole line was held, and gave at least one byte and at most 4,096
pub data CameBy (held : List ℕ) : List ℕ → Type 0 where
  nothing_came : CameBy held []
  more_came : (earlier last bytes : List ℕ) → CameBy held earlier → holds_line (held ++ earlier) ≡ false → 0 < length last → length last ≤ 4096
      → bytes ≡ earlier ++ last → CameBy held bytes

-- an answer: the bytes that were taken from the source, whether it has ended, and the answer to what is held then, whatever follows. Where the source
-- failed, what is held then gives no answer yet. Once the source has ended, nothing more is taken from it
pub record ReaderAnswered (step : LineStep) (old new : Reading) (before after : Option (List ℕ)) : Type 0 where
  pub bytes : List ℕ
  pub taken : TakesBytes before bytes after
  pub needed : CameBy old.held bytes
  pub ended : Bool
  pub at_end : ended ≡ true → IfSome after (λ left. left ≡ [])
  pub remembers : old.ended ≡ true → (ended ≡ true) × (bytes ≡ [])
  pub exact : step ≢ Failed → (rest : List ℕ) → (ended ≡ true → rest ≡ [])
      → step ≡ reader_answer old.room old.longest ((old.held ++ bytes) ++ rest)
  pub undecided : step ≡ Failed → IsUndecided old.room old.longest (old.held ++ bytes)
  pub leaves : ReaderIsLeft step (record old { held = old.held ++ bytes }) new ended

-- where the source tells its bytes, the answer is that of all bytes to come
abbrev pub TellsAnswer : LineStep → Reading → Option (List ℕ) → Type 0
TellsAnswer step old before = IfSome before (λ left. step ≢ Failed → step ≡ reader_answer old.room old.longest (old.held ++ left))
