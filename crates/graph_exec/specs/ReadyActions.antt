-- Which actions wait for no other any more: all that come before them have succeeded (rule of this project).
-- This module and Flights say how what is kept of the actions is read: by flags, one for each number. The promises speak of none of these, but of what has
-- happened, and of `pairs_in_flight` of Flights.
use Rattle.std.specs.Prelude.{ℕ, ◌||◌, ◌&&◌, Bool, false, not, List, length, filter, replicate}
use Rattle.std.specs.List.{list_all, range_with_len}
use Rattle.cluster_types.specs.Graphs.{GraphOf, is_before}
use Rattle.listed.specs.Sets.{is_member}

-- the actions of a graph, of which some have begun and some have succeeded. The flag at place k - 1 is that of the action of number k
pub record Progress : Type 0 where
  pub graph : GraphOf
  pub begun : List Bool
  pub succeeded : List Bool

-- no action has begun
abbrev pub none_begun : GraphOf → Progress
none_begun g = record { graph = g; begun = replicate (length g.actions) false; succeeded = replicate (length g.actions) false }

-- each action that comes before this one has succeeded
abbrev pub inputs_have_succeeded : GraphOf → List Bool → ℕ → Bool
inputs_have_succeeded g succeeded k = list_all (λ j. not (is_before g j k) || is_member succeeded j) (range_with_len 1 (length g.actions))

-- the numbers of the actions that haven't begun and before which all have succeeded, ascending
abbrev pub startable : Progress → List ℕ
startable p = filter (λ k. inputs_have_succeeded p.graph p.succeeded k && not (is_member p.begun k)) (range_with_len 1 (length p.graph.actions))
