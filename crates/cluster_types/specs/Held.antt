-- Which chosen cells are held back, and what the targets are in the end (Pacemaker Explained, ordering and mandatory
-- colocation; that they are found after the choice is a rule of this project).
use Rattle.std.specs.Prelude.{◌≡◌, ℕ, ◌<◌, true, false, List, length, Contains}
use Rattle.cluster_types.specs.declared.cluster.Cluster.{Cluster}
use Rattle.cluster_types.specs.declared.journal.Event.{Event}
use Rattle.cluster_types.specs.declared.leaf.Role.TheVariants as role
use Rattle.cluster_types.specs.declared.placement.Decision.{Decision}
use Rattle.cluster_types.specs.declared.placement.Decision.TheVariants.{Place, Promote}
use Rattle.cluster_types.specs.declared.placement.Target.{Target}
use Rattle.cluster_types.specs.declared.placement.Target.TheVariants as target
use Rattle.cluster_types.specs.declared.rules.Colocation.{Colocation}
use Rattle.cluster_types.specs.declared.rules.Order.{Order}
use Rattle.cluster_types.specs.declared.rules.OrderKind.TheVariants as kind
use Rattle.cluster_types.specs.Choice.{is_mandatory}
use Rattle.cluster_types.specs.Decisions.{decision_of}
use Rattle.cluster_types.specs.Pins.{is_pinned}
use Rattle.cluster_types.specs.Tables.{Targets, holds_role, is_in_scope}
use Rattle.cluster_types.specs.Precedence.{is_giving, role_given}

module _ (c : Cluster) (es : List Event) (table : Targets) where
  -- a mandatory order whose words both give a role may hold its then back on a node where it has the role, chosen and not pinned. The table is that after all
  -- decisions
  pub record OrderCanHoldBack (o : Order) (n : ℕ) : Type 0 where
    pub present : Contains c.orders o
    pub mandatory : o.kind ≡ kind.Mandatory
    pub first_gives : is_giving o.first_op ≡ true
    pub then_gives : is_giving o.then_op ≡ true
    pub not_pinned : is_pinned c es o.then_leaf ≡ false
    pub within : n < length c.nodes
    pub chosen : holds_role table o.then_leaf (role_given o.then_op) n ≡ true

  -- a mandatory colocation may hold its dependent back on a node where it has its role, chosen and not pinned
  pub record ColocationCanHoldBack (col : Colocation) (n : ℕ) : Type 0 where
    pub present : Contains c.colocations col
    pub mandatory : is_mandatory col ≡ true
    pub not_pinned : is_pinned c es col.dependent ≡ false
    pub within : n < length c.nodes
    pub chosen : holds_role table col.dependent col.dependent_role n ≡ true

  -- the decision on each target that the first of the order has, in its role and in scope, is in the set there (the first may have no target)
  abbrev pub LacksFirst : (Decision → ℕ → Type 0) → Order → ℕ → Type 0
  LacksFirst set o n =
      (m : ℕ) → m < length c.nodes → is_in_scope o n m ≡ true → holds_role table o.first (role_given o.first_op) m ≡ true
      → set (decision_of o.first (role_given o.first_op)) m

  -- the primary has no target in its role on the node, or the decision on it is in the set there
  abbrev pub LacksPrimary : (Decision → ℕ → Type 0) → Colocation → ℕ → Type 0
  LacksPrimary set col n = holds_role table col.primary col.primary_role n ≡ true → set (decision_of col.primary col.primary_role) n

  -- the chosen cells that are held back, by three rules and nothing else: a then where each target of its first, in the order's role and in scope, is held,
  -- or there is none; a dependent where its primary has no target in its role on the node, or that one is held; and a promote where the place of its leaf
  -- is held. What LacksFirst and LacksPrimary say of Held is written out in the fields, since these may not cite a definition over Held
  pub data Held : Decision → ℕ → Type 0 where
    by_order : (o : Order) (n : ℕ) → OrderCanHoldBack o n
        → ((m : ℕ) → m < length c.nodes → is_in_scope o n m ≡ true → holds_role table o.first (role_given o.first_op) m ≡ true
        → Held (decision_of o.first (role_given o.first_op)) m)
        → Held (decision_of o.then_leaf (role_given o.then_op)) n
    by_colocation : (col : Colocation) (n : ℕ) → ColocationCanHoldBack col n
        → (holds_role table col.primary col.primary_role n ≡ true → Held (decision_of col.primary col.primary_role) n)
        → Held (decision_of col.dependent col.dependent_role) n
    by_place : (r n : ℕ) → holds_role table r role.Promoted n ≡ true → Held (Place r) n → Held (Promote r) n

  -- the target of a cell in the end: what the table has there and isn't held. What a pinned leaf keeps is never held
  abbrev pub IsFinalTarget : ℕ → ℕ → Target → Type 0
  IsFinalTarget r n target.Nowhere = holds_role table r role.Started n ≡ true → Held (Place r) n
  IsFinalTarget r n target.Started =
      (holds_role table r role.Started n ≡ true) × (¬ Held (Place r) n) × (holds_role table r role.Promoted n ≡ true → Held (Promote r) n)
  IsFinalTarget r n target.Promoted = (holds_role table r role.Promoted n ≡ true) × (¬ Held (Promote r) n)

  -- these are the targets in the end
  abbrev pub AreTargets : Targets → Type 0
  AreTargets targets = (r n : ℕ) → r < length c.leaves → n < length c.nodes → IsFinalTarget r n (targets r n)
