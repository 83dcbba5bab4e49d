-- What one call of a reader or a writer of std came to.
use Rattle.std.specs.Prelude.{Bool, true, false}
use Rattle.cluster_io.specs.declared.attempts.Attempt.{Attempt}
use Rattle.cluster_io.specs.declared.attempts.Attempt.TheVariants as attempt

-- the call was answered: it moved bytes, or a reader found its end
abbrev pub is_answer : Attempt → Bool
is_answer (attempt.Moved _) = true
is_answer _ = false
