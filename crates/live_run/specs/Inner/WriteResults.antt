-- What a write of a text or of lines did, by its result.
use Rattle.std.specs.Prelude.{◌≡◌, ℕ, Bool, Option, Some, Result, Ok, Err, List, [], ◌∷◌, ◌++◌}
use Rattle.cluster_io.specs.declared.sink.WriteFault.{WriteFault}
use Rattle.cluster_types.specs.declared.run.RunLine.{RunLine}
use Rattle.graph_exec.specs.WatcherLines.{StopsAmong}
use Rattle.graph_exec.specs.declared.transition.watcher.Heard.{Heard}
use Rattle.graph_exec.specs.declared.transition.watcher.Heard.TheVariants as heard
use Rattle.live_run.specs.HeldAndWritten.{WritesInPart, GoesOut, HasFailedBehind, HasWrittenLines, OffersHeld, WriterView}

-- whoever writes goes on until a write fails
abbrev pub heard_of : Result (Unit {0}) WriteFault → Heard
heard_of (Ok done) = heard.Go
heard_of (Err fault) = heard.Stop

-- a text was added behind what was held back, or the sink failed
abbrev pub PutsBehind : Result (Unit {0}) WriteFault → List ℕ → List ℕ → List ℕ → Option (List ℕ) → Option (List ℕ) → Type 0
PutsBehind (Ok done) text held held_now before after = GoesOut text held held_now before after
PutsBehind (Err fault) text held held_now before after = WritesInPart held text before after

-- a text is held back behind the rest and no piece was offered, or it alone is, and the rest was offered as one piece
pub data HoldsBehind (text held held_now : List ℕ) (before after : Option (List (List ℕ))) : Type 0 where
  has_room : held_now ≡ held ++ text → after ≡ before → HoldsBehind text held held_now before after
  has_left : held_now ≡ text → OffersHeld held before after → HoldsBehind text held held_now before after

-- the same, unless the sink failed as the rest was offered
abbrev pub OffersBehind : Result (Unit {0}) WriteFault → List ℕ → List ℕ → List ℕ → Option (List (List ℕ)) → Option (List (List ℕ)) → Type 0
OffersBehind (Ok done) text held held_now before after = HoldsBehind text held held_now before after
OffersBehind (Err fault) text held held_now before after = OffersHeld held before after

module _ (exact : Bool) (old new : WriterView) where
  -- this line was added, or the sink failed at it
  abbrev pub PutsLine : Result (Unit {0}) WriteFault → RunLine → Type 0
  PutsLine (Ok done) line = HasWrittenLines exact old new (line ∷ [])
  PutsLine (Err fault) line = HasFailedBehind exact old new [] (Some line)

  -- these lines were added, or some of them, behind which the sink failed
  abbrev pub PutsLines : Result (Unit {0}) WriteFault → List RunLine → Type 0
  PutsLines (Ok done) lines = HasWrittenLines exact old new lines
  PutsLines (Err fault) lines = StopsAmong (λ (front : List RunLine) (at : RunLine). HasFailedBehind exact old new front (Some at)) lines
