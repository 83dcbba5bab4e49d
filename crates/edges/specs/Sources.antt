-- Where the edges into a position begin (rule of this project).
use Rattle.std.specs.Prelude.{ℕ, ◌==◌, Bool, List, map, filter}
use Rattle.std.specs.List.{list_any}
use Rattle.edges.specs.declared.edge.Edge.{Edge}

-- the position stands in the list
abbrev pub is_in_list : List ℕ → ℕ → Bool
is_in_list xs x = list_any (◌==◌ x) xs

-- where the edges into a position begin
abbrev pub sources_of : List Edge → ℕ → List ℕ
sources_of edges y = map (λ e. e.before) (filter (λ e. e.after == y) edges)
