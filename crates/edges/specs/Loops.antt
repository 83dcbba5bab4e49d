-- Loops of a list of edges between positions (rule of this project).
use Rattle.std.specs.Prelude.{◌<◌, ◌+◌, ℕ, ◌==◌, ◌&&◌, Bool, List, Option, Some, None, length, take, Contains}
use Rattle.std.specs.List.{list_any}
use Rattle.edges.specs.declared.edge.Edge.{Edge}
use Rattle.edges.specs.Chains.{Chain, LinksHaveNoLoop, IsLinked}

-- one of the edges leads from a position to another
abbrev pub IsEdge : List Edge → ℕ → ℕ → Type 0
IsEdge edges x y = IsLinked (λ (e : Edge). e.before) (λ (e : Edge). e.after) edges x y

-- the edges lead from a position to another, one after the other
abbrev pub Leads : List Edge → ℕ → ℕ → Type 0
Leads edges x y = Chain (IsEdge edges) x y

-- `IsEdge` as a test
abbrev pub is_edge : List Edge → ℕ → ℕ → Bool
is_edge edges x y = list_any (λ e. e.before == x && e.after == y) edges

-- both ends of each edge are positions
abbrev pub EndsWithin : ℕ → List Edge → Type 0
EndsWithin positions edges = (e : Edge) → Contains edges e → (e.before < positions) × (e.after < positions)

-- no edges lead from a position back to it
abbrev pub HasNoLoop : List Edge → Type 0
HasNoLoop edges = LinksHaveNoLoop (IsEdge edges)

-- from some position edges lead back to it
pub record HasLoop (edges : List Edge) : Type 0 where
  pub at : ℕ
  pub leads : Leads edges at at

-- some height of the positions rises along each edge
pub record RiseSomehow (edges : List Edge) : Type 0 where
  pub height : ℕ → ℕ
  pub rises : (e : Edge) → Contains edges e → height e.before < height e.after

-- the edges before this place have no loop, and with the edge at it they have one
pub record ClosesFirst (edges : List Edge) (place : ℕ) : Type 0 where
  pub within : place < length edges
  pub before : HasNoLoop (take place edges)
  pub closed : HasLoop (take (place + 1) edges)

-- where the first loop is closed, and None where there is no loop
abbrev pub IsFirstLoop : List Edge → Option ℕ → Type 0
IsFirstLoop edges None = HasNoLoop edges
IsFirstLoop edges (Some place) = ClosesFirst edges place
