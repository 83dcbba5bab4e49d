-- Whether one colocation allows a decision on a node, and whether it can forbid one (follows from the definitions of what all colocations say).
use Rattle.std.specs.Prelude.{ℕ, ◌&&◌, ◌||◌, Bool}
use Rattle.cluster_types.specs.declared.placement.Decision.{Decision}
use Rattle.cluster_types.specs.declared.rules.Colocation.{Colocation}
use Rattle.cluster_types.specs.Choice.{is_dependent, is_mandatory, is_primary, is_separation}
use Rattle.cluster_types.specs.Tables.{Targets}
use Rattle.placement.specs.Tests.{has_primary, keeps_apart}

-- it allows the decision there
abbrev pub allows : Targets → Decision → ℕ → Colocation → Bool
allows table d n col = has_primary table d n col && keeps_apart table d n col

-- it may forbid the decision a node: the decision gives its dependent the role, or one of two that must be apart
abbrev pub is_strict : Decision → Colocation → Bool
is_strict d col = is_mandatory col && is_dependent d col || is_separation col && (is_dependent d col || is_primary d col)
