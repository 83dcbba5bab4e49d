-- What is written of some lines of a run, and what is held back (rule of this project).
use Rattle.std.specs.Prelude.{◌≡◌, ◌⊎◌, ℕ, ◌+◌, ◌≤◌, Bool, Option, Some, None, Result, Ok, Err, List, ◌++◌, length, []}
use Rattle.cluster_io.specs.Streams.{Adds, AddsPrefix, Bears, OffersWhole}
use Rattle.cluster_io.specs.declared.sink.WriteFault.{WriteFault}
use Rattle.cluster_types.specs.declared.cluster.Cluster.{Cluster}
use Rattle.cluster_types.specs.declared.run.RunLine.{RunLine}
use Rattle.cluster_types.specs.Texts.{run_line}
use Rattle.live_run.specs.Ends.{run_lines_text}

-- how many bytes are held back at most
abbrev pub most_held : ℕ
most_held = 65536

-- the sink failed as a last text was added behind a text: a front of both was written, or all, and of the text at most 65,536 bytes are missing
pub record WritesInPart (text last : List ℕ) (before after : Option (List ℕ)) : Type 0 where
  pub front : AddsPrefix (text ++ last) before after
  pub few_missing : length text ≤ front.count + most_held

-- all of a text was written, or a front of it where the sink failed
abbrev pub Puts : Result (Unit {0}) WriteFault → List ℕ → Option (List ℕ) → Option (List ℕ) → Type 0
Puts (Ok done) text before after = Adds before text after
Puts (Err fault) text before after = AddsPrefix text before after

-- a writer still writes to the sink to which it wrote
abbrev pub IsSameSink : ℕ → ℕ → Type 0
IsSameSink loan loan_now = loan_now ≡ loan

-- a text was added behind what was held back: of both a front was written, and the rest is held back now
pub record GoesOut (text held held_now : List ℕ) (before after : Option (List ℕ)) : Type 0 where
  pub out : List ℕ
  pub parts : held ++ text ≡ out ++ held_now
  pub written : Adds before out after

-- what was held back and a text behind it were written, or the sink failed
abbrev pub PutsLast : Result (Unit {0}) WriteFault → List ℕ → List ℕ → Option (List ℕ) → Option (List ℕ) → Type 0
PutsLast (Ok done) text held before after = Adds before (held ++ text) after
PutsLast (Err fault) text held before after = WritesInPart held text before after

-- what was held back was offered to the sink as one piece, and then only what was left of it; where nothing was held back, no piece was offered
pub record OffersHeld (held : List ℕ) (before after : Option (List (List ℕ))) : Type 0 where
  pub whole : OffersWhole held before after
  pub nothing : held ≡ [] → after ≡ before

-- what was held back and a text behind it were offered one after the other, each as one piece
pub record OffersInTurn (held text : List ℕ) (before after : Option (List (List ℕ))) : Type 0 where
  pub between : Option (List (List ℕ))
  pub first : OffersHeld held before between
  pub last : OffersHeld text between after

-- what was held back and a last text were offered as one piece or in turn, or the sink failed before the last text
abbrev pub OffersLast : Result (Unit {0}) WriteFault → List ℕ → List ℕ → Option (List (List ℕ)) → Option (List (List ℕ)) → Type 0
OffersLast (Ok done) text held before after = OffersHeld (held ++ text) before after ⊎ OffersInTurn held text before after
OffersLast (Err fault) text held before after = (OffersHeld (held ++ text) before after ⊎ OffersInTurn held text before after) ⊎ OffersHeld held before after

-- what the writing of some lines has left of a sink's count of faults, by whether the last write failed. It is the sink that it was
pub record HasPut (exact : Bool) (failed : Type 0) (faults faults_now loan loan_now : ℕ) : Type 0 where
  pub bears : Bears exact failed faults faults_now
  pub same_sink : IsSameSink loan loan_now

-- a writer at a moment
pub record WriterView : Type 0 where
  -- by its names of nodes and leaves it writes
  pub names : Cluster
  -- the bytes of lines that it was told, which it hasn't handed to the sink yet
  pub held : List ℕ
  -- what the sink holds, if that is told
  pub written : Option (List ℕ)
  -- how often the sink has failed
  pub faults : ℕ
  -- which sink it is: two writers with one number here write to one sink
  pub loan : ℕ

-- the text of a line, if there is one
abbrev pub last_text : Cluster → Option RunLine → List ℕ
last_text c (Some at) = run_line c at
last_text c None = []

module _ (exact : Bool) (old new : WriterView) (lines : List RunLine) where
  -- a writer has come on by some lines
  pub record HasWrittenLines : Type 0 where
    pub names_stay : new.names ≡ old.names
    pub put : HasPut exact ⊥ old.faults new.faults old.loan new.loan
    pub text : GoesOut (run_lines_text old.names lines) old.held new.held old.written new.written

  -- the sink has failed behind some lines, at the next or as all that was held back left
  pub record HasFailedBehind (at : Option RunLine) : Type 0 where
    pub names_stay : new.names ≡ old.names
    pub put : HasPut exact (Unit {0}) old.faults new.faults old.loan new.loan
    pub text : WritesInPart (old.held ++ run_lines_text old.names lines) (last_text old.names at) old.written new.written
