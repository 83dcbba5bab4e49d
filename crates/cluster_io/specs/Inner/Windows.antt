-- What contracts see of a window of bytes.
use Rattle.std.specs.Prelude.{ℕ, Bool, List}

-- the piece that was handed out last, the bytes that are held behind it, how many bytes lie before these, for how
-- many there is room, and whether the source has ended
pub record Pane : Type 0 where
  pub handed : List ℕ
  pub held : List ℕ
  pub before : ℕ
  pub room : ℕ
  pub ended : Bool
