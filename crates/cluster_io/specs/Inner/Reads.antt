-- What one read into a window of bytes leaves of it and of its source.
use Rattle.std.specs.Prelude.{◌≡◌, ℕ, ◌+◌, ◌≤◌, ◌<◌, Option, List, [], ◌++◌, length, take, IfSome}
use Rattle.cluster_io.specs.Streams.{TakesBytes}
use Rattle.cluster_io.specs.declared.source.ReadStep.{ReadStep}
use Rattle.cluster_io.specs.declared.source.ReadStep.TheVariants as read

-- some bytes, at least one, came behind what was held
pub record BytesCame (most : ℕ) (old new : List ℕ) (before after : Option (List ℕ)) : Type 0 where
  pub bytes : List ℕ
  pub some : 0 < length bytes
  pub within : length bytes ≤ most
  pub added : new ≡ old ++ bytes
  pub taken : TakesBytes before bytes after

-- what one read left of what was held and of the source
abbrev pub Received : ReadStep → ℕ → List ℕ → List ℕ → Option (List ℕ) → Option (List ℕ) → Type 0
Received (read.Got _) most old new before after = BytesCame most old new before after
Received read.End most old new before after = (new ≡ old) × (after ≡ before) × IfSome before (λ left. left ≡ [])
Received read.Failed most old new before after = (new ≡ old) × (after ≡ before)

-- the bytes up to a place, and behind it those that a read gave
abbrev pub reached : ReadStep → ℕ → List ℕ → List ℕ
reached (read.Got count) end bytes = take (end + count) bytes
reached _ end bytes = take end bytes
