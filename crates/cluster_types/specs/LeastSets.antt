-- Which sets are closed under the rules of `Held` and of `Cycled`. Each of the two is closed, and lies in each closed set of which a test says what is in it
-- (follows from their rules). The laws alone cite this module.
use Rattle.std.specs.Prelude.{◌≡◌, ℕ, ◌<◌, nat_lt, true, false, List, length}
use Rattle.cluster_types.specs.declared.cluster.Cluster.{Cluster}
use Rattle.cluster_types.specs.declared.journal.Event.{Event}
use Rattle.cluster_types.specs.declared.leaf.Role.TheVariants as role
use Rattle.cluster_types.specs.declared.placement.Decision.{Decision}
use Rattle.cluster_types.specs.declared.placement.Decision.TheVariants.{Place, Promote}
use Rattle.cluster_types.specs.declared.rules.Colocation.{Colocation}
use Rattle.cluster_types.specs.declared.rules.Order.{Order}
use Rattle.cluster_types.specs.Decisions.{decision_of}
use Rattle.cluster_types.specs.Fields.{copies}
use Rattle.cluster_types.specs.Held.{ColocationCanHoldBack, LacksFirst, LacksPrimary, OrderCanHoldBack}
use Rattle.cluster_types.specs.NeededActions.{OrderCanCycle, can_cycle, has_disturbing, steps_at}
use Rattle.cluster_types.specs.Tables.{Targets, holds_role}
use Rattle.cluster_types.specs.Terms.{active_count}
use Rattle.cluster_types.specs.Precedence.{role_given}

module _ (c : Cluster) (es : List Event) (table : Targets) where
  -- the rules of what is held
  pub record IsClosedUnderHolding (set : Decision → ℕ → Type 0) : Type 0 where
    pub by_order : (o : Order) (n : ℕ) → OrderCanHoldBack c es table o n → LacksFirst c es table set o n → set (decision_of o.then_leaf (role_given o.then_op)) n
    pub by_colocation : (col : Colocation) (n : ℕ) → ColocationCanHoldBack c es table col n → LacksPrimary c es table set col n
        → set (decision_of col.dependent col.dependent_role) n
    pub by_place : (r n : ℕ) → holds_role table r role.Promoted n ≡ true → set (Place r) n → set (Promote r) n

module _ (c : Cluster) (es : List Event) (targets : Targets) where
  -- the rules of what is cycled
  pub record IsClosedUnderCycling (set : ℕ → ℕ → Type 0) : Type 0 where
    pub by_copies : (r n : ℕ) → r < length c.leaves → n < length c.nodes → can_cycle c es targets r n ≡ true → nat_lt (copies c r) (active_count c es r) ≡ true
        → set r n
    pub by_order : (o : Order) (n m : ℕ) → OrderCanCycle c es targets o n m
        → has_disturbing o.first_op (steps_at c es targets o.first m false) ≡ true → set o.then_leaf n
    pub by_cycled : (o : Order) (n m : ℕ) → OrderCanCycle c es targets o n m → set o.first m
        → has_disturbing o.first_op (steps_at c es targets o.first m true) ≡ true → set o.then_leaf n
