-- A simulated cluster before its turn: what comes up has come up, and how many numbers were drawn.
use Rattle.std.specs.Prelude.{ℕ, ◌+◌}
use Rattle.simulated.specs.RealWorlds.{RealWorld, risen}

-- in each cell what comes up has come up
abbrev pub calm : RealWorld → RealWorld
calm w = record { nodes = w.nodes; cells = λ r n. risen (w.cells r n); drawn = w.drawn; faults = w.faults }

-- some numbers more were drawn
abbrev pub with_draws : RealWorld → ℕ → RealWorld
with_draws w more = record { nodes = w.nodes; cells = w.cells; drawn = w.drawn + more; faults = w.faults }
