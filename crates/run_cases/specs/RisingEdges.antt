-- Which edges rise (rule of this project).
use Rattle.std.specs.Prelude.{ℕ, nat_lt, ◌&&◌, Bool}
use Rattle.edges.specs.declared.edge.Edge.{Edge}

-- the edge leads from an action to a later one, of so many
abbrev pub rises : ℕ → Edge → Bool
rises count e = nat_lt e.before e.after && nat_lt e.after count
