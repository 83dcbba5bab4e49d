-- What one turn of a reader of lines does.
use Rattle.std.specs.Prelude.{◌≡◌, ◌≢◌, ℕ, ◌+◌, ◌-◌, ◌≤◌, ◌<◌, Bool, true, false, Option, Some, None, List, [], ◌++◌, length, take, drop, IfSome}
use Rattle.cluster_io.specs.Streams.{TakesBytes}
use Rattle.cluster_io.specs.NextLine.{reader_answer, holds_line, IsUndecided}
use Rattle.cluster_io.specs.Readings.{Reading, ReaderIsLeft, CameBy}
use Rattle.cluster_io.specs.declared.line_scan.Found.{Found}
use Rattle.cluster_io.specs.declared.line_scan.Found.TheVariants as found
use Rattle.cluster_io.specs.declared.line_step.LineStep.{LineStep}
use Rattle.cluster_io.specs.declared.line_step.LineStep.TheVariants.{Line, TooLong, TooLarge, Failed}

-- what is found may be given
abbrev pub MayGiveFound : Found → Reading → Type 0
MayGiveFound (found.Line count lines) r = (0 < count) × (count ≤ length r.held) × (length r.held < count + 4096) × (count ≤ r.room) × (lines ≤ count)
MayGiveFound found.More r = ⊥
MayGiveFound _ r = Unit {0}

-- what is left where it is given
abbrev pub GivesFound : Found → LineStep → Reading → Reading → Type 0
GivesFound (found.Line count lines) step old new = (step ≡ Line) × (new ≡ record old {
  held = drop count old.held;
  raw = take count old.held;
  number = old.next;
  next = old.next + lines;
  room = old.room - count;
})
GivesFound found.TooLong step old new = (step ≡ TooLong) × (new ≡ record old { raw = []; stop = Some TooLong })
GivesFound found.TooLarge step old new = (step ≡ TooLarge) × (new ≡ record old { raw = []; stop = Some TooLarge })
GivesFound found.More step old new = ⊥

-- a turn that read some bytes, since no whole line was held
pub record ReadsOn (old new : Reading) (before after : Option (List ℕ)) : Type 0 where
  pub bytes : List ℕ
  pub some : 0 < length bytes
  pub small : length bytes ≤ 4096
  pub taken : TakesBytes before bytes after
  pub unfinished : holds_line old.held ≡ false
  pub going : old.ended ≡ false
  pub leaves : new ≡ record old { held = old.held ++ bytes; raw = [] }
  pub in_room : length new.held ≤ old.room + 1

-- a turn that answered
pub record Settles (step : LineStep) (old new : Reading) (before after : Option (List ℕ)) : Type 0 where
  pub unread : after ≡ before
  pub ended : Bool
  pub at_end : ended ≡ true → IfSome after (λ left. left ≡ [])
  pub remembers : old.ended ≡ true → ended ≡ true
  pub exact : step ≢ Failed → (rest : List ℕ) → (ended ≡ true → rest ≡ []) → step ≡ reader_answer old.room old.longest (old.held ++ rest)
  pub undecided : step ≡ Failed → IsUndecided old.room old.longest old.held
  pub leaves : ReaderIsLeft step old new ended

-- what one turn did
abbrev pub Turned : Option LineStep → Reading → Reading → Option (List ℕ) → Option (List ℕ) → Type 0
Turned None old new before after = ReadsOn old new before after
Turned (Some step) old new before after = Settles step old new before after

-- some turns that read: what was taken in them, and that it was needed
pub record Sofar (old now : Reading) (before between : Option (List ℕ)) : Type 0 where
  pub bytes : List ℕ
  pub taken : TakesBytes before bytes between
  pub leaves : now ≡ record old { held = old.held ++ bytes; raw = [] }
  pub needed : CameBy old.held bytes
  pub unread : holds_line old.held ≡ true → bytes ≡ []
  pub quiet : old.ended ≡ true → bytes ≡ []
