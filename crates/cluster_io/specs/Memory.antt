-- What contracts see of a source and a sink in memory.
use Rattle.std.specs.Prelude.{ℕ, ◌+◌, ◌-◌, ◌^◌, min, Bool, List}

-- a source in memory: the bytes to come, the most that a call gives, which calls fail, how many were
-- made and failed, and whether one has found the end
pub record Supply : Type 0 where
  pub left : List ℕ
  pub step : ℕ
  pub fails : List ℕ
  pub calls : ℕ
  pub faults : ℕ
  pub ended : Bool

-- a sink in memory: what was written, for how many bytes room is left, the most that a call takes,
-- which calls fail, and how many were made and failed
pub record Store : Type 0 where
  pub held : List ℕ
  pub room : ℕ
  pub step : ℕ
  pub fails : List ℕ
  pub calls : ℕ
  pub faults : ℕ

-- the number of calls after one more, which stays at the last value of its counter
abbrev pub next_call : ℕ → ℕ
next_call calls = min (calls + 1) (2 ^ 32 - 1)
