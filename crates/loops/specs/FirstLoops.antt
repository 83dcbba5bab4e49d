-- The first rule with which the rules of a cluster have a loop (rule of this project).
use Rattle.std.specs.Prelude.{◌≢◌, ◌<◌, ◌+◌, ◌&&◌, ℕ, nat_lt, Bool, false, Option, Some, None, length, map, take, Contains}
use Rattle.std.specs.List.{list_any}
use Rattle.edges.specs.Chains.{Chain, leads_through}
use Rattle.cluster_types.specs.declared.cluster.Cluster.{Cluster}
use Rattle.cluster_types.specs.declared.leaf.Op.TheVariants.{Monitor}
use Rattle.cluster_types.specs.declared.placement.Decision.{Decision}
use Rattle.cluster_types.specs.declared.rules.Colocation.{Colocation}
use Rattle.cluster_types.specs.declared.rules.Order.{Order}
use Rattle.cluster_types.specs.Decisions.{IsNeedLink, NeedsHaveNoLoop, all_decisions, needs_through}
use Rattle.cluster_types.specs.Numbers.{IsStepLink, StepsHaveNoLoop, LeafStep, is_same_step, links}

-- both leaves of the colocation are there
pub record JoinsLeaves (c : Cluster) (col : Colocation) : Type 0 where
  pub dependent : col.dependent < length c.leaves
  pub primary : col.primary < length c.leaves

-- both leaves of the order are there, and its words are of steps
pub record OrdersSteps (c : Cluster) (o : Order) : Type 0 where
  pub first : o.first < length c.leaves
  pub later : o.then_leaf < length c.leaves
  pub first_word : o.first_op ≢ Monitor
  pub later_word : o.then_op ≢ Monitor

abbrev pub AllJoin : Cluster → Type 0
AllJoin c = (col : Colocation) → Contains c.colocations col → JoinsLeaves c col

abbrev pub AllOrder : Cluster → Type 0
AllOrder c = (o : Order) → Contains c.orders o → OrdersSteps c o

-- the cluster with so many of its colocations, the first ones
abbrev pub with_first_colocations : Cluster → ℕ → Cluster
with_first_colocations c count = record c { colocations = take count c.colocations }

-- the cluster with so many of its orders, the first ones
abbrev pub with_first_orders : Cluster → ℕ → Cluster
with_first_orders c count = record c { orders = take count c.orders }

-- a chain of needs leads from some decision back to it
pub record NeedsHaveLoop (c : Cluster) : Type 0 where
  pub decision : Decision
  pub loop : Chain (IsNeedLink c (all_decisions c)) decision decision

-- a chain of links leads from some step back to it
pub record StepsHaveLoop (c : Cluster) : Type 0 where
  pub step : LeafStep
  pub loop : Chain (IsStepLink c) step step

-- some decision needs itself through a chain of needs, computed (`loops_are_computed`)
abbrev pub has_need_loop : Cluster → Bool
has_need_loop c = list_any (λ d. needs_through c (all_decisions c) d d) (all_decisions c)

-- a link leads from the one step to the other
abbrev pub is_link : Cluster → LeafStep → LeafStep → Bool
is_link c s t = list_any (λ l. is_same_step l.before s && is_same_step l.after t) (links c)

-- a chain of links leads from some step back to it, through none but steps at which links begin, computed (`loops_are_computed`)
abbrev pub has_step_loop : Cluster → Bool
has_step_loop c = list_any (λ s. leads_through (is_link c) (map (λ l. l.before) (links c)) s s) (map (λ l. l.before) (links c))

-- the colocation at this place, from 0, closes the first loop: the colocations before it make no loop of needs, and with it they make one
pub record ClosesNeeds (c : Cluster) (place : ℕ) : Type 0 where
  pub within : place < length c.colocations
  pub before : NeedsHaveNoLoop (with_first_colocations c place)
  pub closed : NeedsHaveLoop (with_first_colocations c (place + 1))

-- the order at this place, from 0, closes the first loop: the orders before it make no loop of links, and with it they make one
pub record ClosesSteps (c : Cluster) (place : ℕ) : Type 0 where
  pub within : place < length c.orders
  pub before : StepsHaveNoLoop (with_first_orders c place)
  pub closed : StepsHaveLoop (with_first_orders c (place + 1))

-- the place of the colocation that closes the first loop of needs, and None where there is no loop
abbrev pub IsFirstColocation : Cluster → Option ℕ → Type 0
IsFirstColocation c None = NeedsHaveNoLoop c
IsFirstColocation c (Some place) = ClosesNeeds c place

-- the place of the order that closes the first loop of links, and None where there is no loop
abbrev pub IsFirstOrder : Cluster → Option ℕ → Type 0
IsFirstOrder c None = StepsHaveNoLoop c
IsFirstOrder c (Some place) = ClosesSteps c place

-- the rule that closes the first loop is among the first so many
abbrev pub is_closed_by : Option ℕ → ℕ → Bool
is_closed_by None count = false
is_closed_by (Some place) count = nat_lt place count
