-- How the actions before one are found: the positions from which edges lead to it are marked, and then those from which edges lead to a gate that
-- is marked (rule of this project). No public clause cites this module.
use Rattle.std.specs.Prelude.{◌≡◌, ◌≤◌, nat_le, ◌==◌, ◌&&◌, ◌||◌, ℕ, suc, zero, Bool, true, false, List, Contains}
use Rattle.std.specs.List.{list_any}
use Rattle.listed.specs.Flags.{is_marked}
use Rattle.edges.specs.declared.edge.Edge.{Edge}
use Rattle.cluster_types.specs.Graphs.{LeadsByGates}

-- from position x at most so many edges lead to position y through gates alone. In a graph, as many as there are positions are enough
abbrev pub leads_by_gates_within : ℕ → ℕ → List Edge → ℕ → ℕ → Bool
leads_by_gates_within zero actions edges x y = false
leads_by_gates_within (suc most) actions edges x y =
    list_any (λ e. e.before == x && (e.after == y || nat_le actions e.after && leads_by_gates_within most actions edges e.after y)) edges

-- the edge leads on from x, and after it at most so many others to y
abbrev pub leads_by : ℕ → ℕ → List Edge → ℕ → ℕ → Edge → Bool
leads_by most actions edges x y e = e.before == x && (e.after == y || nat_le actions e.after && leads_by_gates_within most actions edges e.after y)

-- the edge leads from x to y
abbrev pub joins : ℕ → ℕ → Edge → Bool
joins x y e = e.after == y && e.before == x

-- what is marked leads to y, and all is marked that leads to it by one edge, or to a gate from `lowest` on that is marked
pub record AreMarked (actions : ℕ) (edges : List Edge) (y lowest : ℕ) (marks : List Bool) : Type 0 where
  pub leading : (x : ℕ) → is_marked marks x ≡ true → LeadsByGates actions edges x y
  pub direct : (e : Edge) → Contains edges e → e.after ≡ y → is_marked marks e.before ≡ true
  pub through : (e : Edge) → Contains edges e → actions ≤ e.after → lowest ≤ e.after → is_marked marks e.after ≡ true → is_marked marks e.before ≡ true
