-- Ways of at most so many edges, and loops of at most so many. Where no loop is, as many as there are positions are enough (rule of this project). No public
-- clause cites this module.
use Rattle.std.specs.Prelude.{◌≡◌, ℕ, suc, zero, ◌==◌, ◌&&◌, ◌||◌, Bool, true, false, List}
use Rattle.std.specs.List.{list_any}
use Rattle.edges.specs.declared.edge.Edge.{Edge}

-- at most so many edges lead from a position to another, one after the other
abbrev pub leads_within : ℕ → List Edge → ℕ → ℕ → Bool
leads_within zero edges x y = false
leads_within (suc most) edges x y = list_any (λ e. e.before == x && (e.after == y || leads_within most edges e.after y)) edges

-- from some position at most so many edges lead back to it
pub record HasShortLoop (most : ℕ) (edges : List Edge) : Type 0 where
  pub at : ℕ
  pub leads : leads_within most edges at at ≡ true
