-- A walk back through a graph that tells which actions come before one (rule of this project).
use Rattle.std.specs.Prelude.{◌≡◌, ◌+◌, ◌-◌, ◌<◌, ◌≤◌, ℕ, Bool, true, false, List, [], ◌∷◌, ◌++◌, length, map, filter}
use Rattle.std.specs.List.{range_with_len}
use Rattle.edges.specs.declared.edge.Edge.{Edge}
use Rattle.edges.specs.Rows.{edge_targets}
use Rattle.cluster_types.specs.declared.graph_edges.Edges.{Edges}
use Rattle.cluster_types.specs.Graphs.{GraphOf, IsGraph, is_before}
use Rattle.cluster_types.specs.Inner.Walks.{AreMarked}
use Rattle.listed.specs.Flags.{is_marked}
use Rattle.listed.specs.Sets.{is_member, members}

-- a graph, and the numbers that are still to be told, ascending
pub record Walk : Type 0 where
  pub graph : GraphOf
  pub left : List ℕ

-- the numbers of the actions that come before that of a number, ascending
abbrev pub befores : GraphOf → ℕ → List ℕ
befores g k = filter (λ j. is_before g j k) (range_with_len 1 (length g.actions))

-- an edge turned round
abbrev pub turned_edge : Edge → Edge
turned_edge e = record { before = e.after; after = e.before }

-- from where the edges lead to each position
abbrev pub source_rows : Edges → List (List ℕ)
source_rows edges = edge_targets edges.positions (map turned_edge edges.list)

-- The positions that a walk has found are a set of numbers, each by one more than its place: actions by their numbers, and gates behind them.

-- the numbers of those that were found below a position
abbrev pub found_below : List Bool → ℕ → List ℕ
found_below found to = filter (is_member found) (range_with_len 1 to)

-- so many were found from a position on
abbrev pub AreBehind : List Bool → ℕ → ℕ → Type 0
AreBehind found to behind = length (found_below found to) + behind ≡ length (members found)

-- none was found from one position up to another
pub record NoneFound (found : List Bool) (from to : ℕ) : Type 0 where
  pub none : (x : ℕ) → from ≤ x → x < to → is_marked found x ≡ false
  pub same : found_below found to ≡ found_below found from

-- the last that was found there has this number
pub record IsLastFound (found : List Bool) (from to number : ℕ) : Type 0 where
  pub above : from < number
  pub high : number ≤ to
  pub is : is_marked found (number - 1) ≡ true
  pub none : (x : ℕ) → number ≤ x → x < to → is_marked found x ≡ false
  pub last : found_below found to ≡ found_below found (number - 1) ++ number ∷ []

-- on the way back from y all was found but what leads to gates below some position, and so many stand from there on
pub record GoesBack (actions : ℕ) (edges : List Edge) (y behind : ℕ) (found : List Bool) : Type 0 where
  pub lowest : ℕ
  pub gates : actions ≤ lowest
  pub within : lowest ≤ length found
  pub are_behind : AreBehind found lowest behind
  pub marked : AreMarked actions edges y lowest found

-- what a walk keeps fits its graph, and it has found so many actions
pub record WalkRests (g : GraphOf) (rows : List (List ℕ)) (found : List Bool) (count : ℕ) : Type 0 where
  pub graph : IsGraph g
  pub sources : rows ≡ source_rows g.edges
  pub size : length found ≡ g.edges.positions
  pub few : count ≤ length (members found)
