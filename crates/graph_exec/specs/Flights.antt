-- The actions of a transition as far as they went, and those in flight (rule of this project).
-- This module and ReadyActions say how what is kept of them is read: by flags, one for each number. The promises speak of `pairs_in_flight` alone, which is
-- the list of the actions in flight, each with its number, ascending.
use Rattle.std.specs.Prelude.{ℕ, Bool, List, [], ◌∷◌}
use Rattle.std.specs.List.{flat_map}
use Rattle.std.specs.Option.{option_map_or}
use Rattle.cluster_types.specs.declared.journal.Action.{Action}
use Rattle.cluster_types.specs.Steps.{numbered}
use Rattle.listed.specs.Sets.{members}
use Rattle.graph_exec.specs.ReadyActions.{Progress}

-- which actions have begun and succeeded, and which are in flight
pub record InFlightOf : Type 0 where
  pub progress : Progress
  pub in_flight : List Bool

-- a number with its action
abbrev pub paired : List Action → ℕ → List (ℕ × Action)
paired actions k = option_map_or (λ a. (k, a) ∷ []) (numbered actions k) []

-- the actions in flight, in the order of their numbers
abbrev pub pairs_in_flight : InFlightOf → List (ℕ × Action)
pairs_in_flight f = flat_map (paired f.progress.graph.actions) (members f.in_flight)
