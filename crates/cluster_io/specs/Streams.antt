-- What a source has left, what a sink holds, and when a count of faults has risen.
use Rattle.std.specs.Prelude.{◌≡◌, ◌≢◌, ℕ, ◌+◌, ◌-◌, ◌^◌, ◌≤◌, ◌<◌, min, All, Bool, true, false, Option, Some, List, [], ◌∷◌, ◌++◌, length, take, drop, IfSome, option_map}
use Rattle.cluster_io.specs.declared.source.ReadStep.{ReadStep}
use Rattle.cluster_io.specs.declared.source.ReadStep.TheVariants as read
use Rattle.cluster_io.specs.declared.sink.WriteStep.{WriteStep}
use Rattle.cluster_io.specs.declared.sink.WriteStep.TheVariants as write

-- the count of faults after one more, which stays at the last value of its counter
abbrev pub next_fault : ℕ → ℕ
next_fault faults = min (faults + 1) (2 ^ 64 - 1)

-- the count is greater, or stands at the last value of its counter
abbrev pub Rose : ℕ → ℕ → Type 0
Rose before now = next_fault before ≤ now

-- what a call leaves of a count of faults: it never falls, and a failure raises it. Where failures alone raise it, a failure raises it by one, and
-- any other call leaves it as it was
pub record Bears (alone : Bool) (failed : Type 0) (before now : ℕ) : Type 0 where
  pub count : before ≤ now
  pub cause : failed → Rose before now
  pub no_failure : alone ≡ true → (failed → ⊥) → now ≡ before
  pub once : alone ≡ true → failed → now ≡ next_fault before

-- these bytes were taken from the front of what was left, if that is told; it stays told or untold
abbrev pub TakesBytes : Option (List ℕ) → List ℕ → Option (List ℕ) → Type 0
TakesBytes before bytes after = before ≡ option_map (λ left. bytes ++ left) after

-- some bytes, at most this many, were taken from the front of what was left
pub record TakesAtMost (most : ℕ) (before after : Option (List ℕ)) : Type 0 where
  pub bytes : List ℕ
  pub within : length bytes ≤ most
  pub taken : TakesBytes before bytes after

-- exactly this many bytes were taken from the front of what was left
pub record TakesCount (count : ℕ) (before after : Option (List ℕ)) : Type 0 where
  pub bytes : List ℕ
  pub counted : length bytes ≡ count
  pub taken : TakesBytes before bytes after

-- these bytes were added to what a sink holds, if that is told; it stays told or untold
abbrev pub Adds : Option (List ℕ) → List ℕ → Option (List ℕ) → Type 0
Adds before bytes after = after ≡ option_map (λ held. held ++ bytes) before

-- the first bytes of a text, some number of them, were added to what a sink holds
pub record AddsPrefix (text : List ℕ) (before after : Option (List ℕ)) : Type 0 where
  pub count : ℕ
  pub within : count ≤ length text
  pub added : Adds before (take count text) after

-- a read has found the end
abbrev pub is_end : ReadStep → Bool
is_end read.End = true
is_end _ = false

-- a read gives at least one byte, and no more than the buffer holds; or nothing, at the end of input or at a fault
abbrev pub ReadsBytes : Option (List ℕ) → Option (List ℕ) → ReadStep → List ℕ → Type 0
ReadsBytes before after (read.Got count) buffer =
    (0 < count) × (count ≤ length buffer) × TakesBytes before (take count buffer) after
ReadsBytes before after read.End buffer = (after ≡ before) × IfSome before (λ left. left ≡ [])
ReadsBytes before after read.Failed buffer = after ≡ before

-- a write takes at least one byte of the piece, from its front; or nothing, at a fault
abbrev pub Writes : Option (List ℕ) → Option (List ℕ) → WriteStep → List ℕ → Type 0
Writes before after (write.Took count) piece =
    (0 < count) × (count ≤ length piece) × Adds before (take count piece) after
Writes before after write.Failed piece = after ≡ before

-- a sink was offered one piece more, if it tells the pieces now
abbrev pub Offers : Option (List (List ℕ)) → List ℕ → Option (List (List ℕ)) → Type 0
Offers before piece after = IfSome after (λ (now : List (List ℕ)). Some now ≡ option_map (λ pieces. pieces ++ piece ∷ []) before)

-- an end of a text: what is left of it behind some of its bytes
pub record IsLeftOf (text piece : List ℕ) : Type 0 where
  pub count : ℕ
  pub some : 0 < count
  pub left : piece ≡ drop count text

-- the pieces that were offered since: the whole of a text first, and then only ends of it
pub record WholeFirst (text : List ℕ) (before : Option (List (List ℕ))) (now : List (List ℕ)) : Type 0 where
  pub earlier : List (List ℕ)
  pub told : before ≡ Some earlier
  pub rest : List (List ℕ)
  pub pieces : now ≡ earlier ++ text ∷ rest
  pub left : All (IsLeftOf text) rest

-- a text that isn't empty was offered as one piece, and after it only ends of it, if the sink still tells the pieces
abbrev pub OffersWhole : List ℕ → Option (List (List ℕ)) → Option (List (List ℕ)) → Type 0
OffersWhole text before after = text ≢ [] → IfSome after (WholeFirst text before)
