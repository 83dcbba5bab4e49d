-- What mandatory rules ask of the chosen targets: that a leaf holds a role only where another leaf holds its own (follows from the definition of the held
-- cells).
use Rattle.std.specs.Prelude.{◌&&◌, Bool, true, if◌then◌else◌, Option, Some, None, List, [], ◌∷◌, ◌++◌}
use Rattle.std.specs.List.{flat_map}
use Rattle.cluster_types.specs.declared.cluster.Cluster.{Cluster}
use Rattle.cluster_types.specs.declared.placement.Pin.{Pin}
use Rattle.cluster_types.specs.declared.rules.Colocation.{Colocation}
use Rattle.cluster_types.specs.declared.rules.Order.{Order}
use Rattle.cluster_types.specs.Choice.{is_mandatory}
use Rattle.cluster_types.specs.Pins.{is_pinned_in}
use Rattle.cluster_types.specs.Precedence.{is_mandatory_order, is_giving, role_given}
use Rattle.placement.specs.declared.held_targets.dependencies.Dependency.{Dependency}

-- the order may hold its then back: it is mandatory, and both its words give a role
abbrev pub may_hold_back : Order → Bool
may_hold_back o = is_mandatory_order o.kind && is_giving o.first_op && is_giving o.then_op

-- the then may hold its role only where the first holds its own, in scope
abbrev pub from_order : Order → Dependency
from_order o = record {
  dependent = o.then_leaf;
  dependent_role = role_given o.then_op;
  primary = o.first;
  primary_role = role_given o.first_op;
  local = o.local;
}

-- the dependent may hold its role only on a node where the primary holds its own
abbrev pub from_colocation : Colocation → Dependency
from_colocation col = record {
  dependent = col.dependent;
  dependent_role = col.dependent_role;
  primary = col.primary;
  primary_role = col.primary_role;
  local = true;
}

abbrev pub of_order : Order → Option Dependency
of_order o = if may_hold_back o then Some (from_order o) else None

abbrev pub of_colocation : Colocation → Option Dependency
of_colocation col = if is_mandatory col then Some (from_colocation col) else None

-- a dependency counts where its dependent isn't left as it is
abbrev pub free_of : List (Option Pin) → Option Dependency → List Dependency
free_of pins None = []
free_of pins (Some rule) = if is_pinned_in pins rule.dependent then [] else rule ∷ []

module _ (c : Cluster) (pins : List (Option Pin)) where
  abbrev pub by_colocations : List Colocation → List Dependency
  by_colocations rules = flat_map (λ col. free_of pins (of_colocation col)) rules

  abbrev pub by_orders : List Order → List Dependency
  by_orders rules = flat_map (λ o. free_of pins (of_order o)) rules

  -- all that count
  abbrev pub dependencies_by : List Dependency
  dependencies_by = by_colocations c.colocations ++ by_orders c.orders
