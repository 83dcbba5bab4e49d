-- Which logical lines were read until something came of them (follows from the definition of what was read).
use Rattle.std.specs.Prelude.{◌≡◌, ℕ, false, Option, Some, None, List, [], ◌∷◌}
use Rattle.cluster_io.specs.NextLine.{holds_line, IsUndecided}
use Rattle.cluster_types.specs.declared.cluster.Cluster.{Cluster}
use Rattle.input_reading.specs.declared.results.result_lines.ResultLine.{ResultLine}
use Rattle.live_run.specs.AnswersToCome.{LineReaderAt}
use Rattle.live_run.specs.declared.result_reader.Came.{Came}
use Rattle.live_run.specs.declared.result_reader.Came.TheVariants as came
use Rattle.live_run.specs.SourceFollowed.{LastLineSays, HasRead, AreNear, AllIsRead, IsStoppedBy}

-- lines without words were passed over
pub record HasPassed (c : Cluster) (old new : LineReaderAt) (before after : Option (List ℕ)) : Type 0 where
  pub lines : List (List (List ℕ))
  pub bytes : List ℕ
  pub read : HasRead c old new before after lines [] bytes
  pub near : AreNear old lines bytes

-- an answer came
pub record HasGiven (c : Cluster) (old new : LineReaderAt) (before after : Option (List ℕ)) (result : ResultLine) : Type 0 where
  pub lines : List (List (List ℕ))
  pub bytes : List ℕ
  pub read : HasRead c old new before after lines (result ∷ []) bytes
  pub near : AreNear old lines bytes
  pub ends : LastLineSays c old lines

-- the end came
pub record HasReachedEnd (c : Cluster) (old new : LineReaderAt) (before after : Option (List ℕ)) : Type 0 where
  pub lines : List (List (List ℕ))
  pub bytes : List ℕ
  pub read : HasRead c old new before after lines [] bytes
  pub all : AllIsRead new after

-- the source of bytes failed, which hadn't ended. No whole line is held, and what is held gives no answer yet
pub record HasFaltered (c : Cluster) (old new : LineReaderAt) (before after : Option (List ℕ)) : Type 0 where
  pub lines : List (List (List ℕ))
  pub bytes : List ℕ
  pub read : HasRead c old new before after lines [] bytes
  pub not_ended : new.reading.ended ≡ false
  pub unfinished : holds_line new.reading.held ≡ false
  pub undecided : IsUndecided new.reading.room new.reading.longest new.reading.held

-- what was read until this came
abbrev pub ReadUntil : Cluster → Option Came → LineReaderAt → LineReaderAt → Option (List ℕ) → Option (List ℕ) → Type 0
ReadUntil c None old new before after = HasPassed c old new before after
ReadUntil c (Some (came.Answer result)) old new before after = HasGiven c old new before after result
ReadUntil c (Some came.End) old new before after = HasReachedEnd c old new before after
ReadUntil c (Some (came.Stop why)) old new before after = IsStoppedBy c old before after [] why
ReadUntil c (Some came.Fault) old new before after = HasFaltered c old new before after
