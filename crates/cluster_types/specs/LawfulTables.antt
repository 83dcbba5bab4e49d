-- Which tables are lawful: what holds of the targets of each leaf that isn't pinned (Pacemaker Explained, constraints).
use Rattle.std.specs.Prelude.{◌≡◌, ℕ, ◌<◌, ◌≤◌, true, false, List, length, Contains, count_by}
use Rattle.std.specs.List.{range_with_len}
use Rattle.cluster_types.specs.declared.cluster.Cluster.{Cluster}
use Rattle.cluster_types.specs.declared.journal.Event.{Event}
use Rattle.cluster_types.specs.declared.leaf.Role.{Role}
use Rattle.cluster_types.specs.declared.leaf.Role.TheVariants as role
use Rattle.cluster_types.specs.declared.placement.Decision.TheVariants.{Place, Promote}
use Rattle.cluster_types.specs.declared.rules.Colocation.{Colocation}
use Rattle.cluster_types.specs.declared.rules.Order.{Order}
use Rattle.cluster_types.specs.declared.rules.OrderKind.TheVariants as kind
use Rattle.cluster_types.specs.Choice.{is_mandatory, is_separation, cap_of}
use Rattle.cluster_types.specs.Failures.{is_banned}
use Rattle.cluster_types.specs.NodeStates.{is_usable}
use Rattle.cluster_types.specs.Pins.{is_pinned}
use Rattle.cluster_types.specs.Tables.{Targets, holds_role, is_in_scope}
use Rattle.cluster_types.specs.Precedence.{is_giving, role_given}

module _ (c : Cluster) (es : List Event) (targets : Targets) where
  -- what holds of a leaf on a node where it has a target
  pub record IsLawfulCell (r n : ℕ) : Type 0 where
    pub usable : is_usable c n es ≡ true
    pub not_banned : is_banned c r n es ≡ false
    pub with_primaries : (col : Colocation) → Contains c.colocations col → is_mandatory col ≡ true → col.dependent ≡ r
        → holds_role targets r col.dependent_role n ≡ true → holds_role targets col.primary col.primary_role n ≡ true
    pub apart_from_primaries : (col : Colocation) → Contains c.colocations col → is_separation col ≡ true → col.dependent ≡ r
        → holds_role targets r col.dependent_role n ≡ true → holds_role targets col.primary col.primary_role n ≡ false
    pub apart_from_dependents : (col : Colocation) → Contains c.colocations col → is_separation col ≡ true → col.primary ≡ r
        → holds_role targets r col.primary_role n ≡ true → holds_role targets col.dependent col.dependent_role n ≡ false
    pub after_firsts : (o : Order) → Contains c.orders o → o.kind ≡ kind.Mandatory → o.then_leaf ≡ r → is_giving o.first_op ≡ true → is_giving o.then_op ≡ true
        → holds_role targets r (role_given o.then_op) n ≡ true
        → (m : ℕ) × (m < length c.nodes) × (is_in_scope o n m ≡ true) × (holds_role targets o.first (role_given o.first_op) m ≡ true)

  -- on how many nodes a leaf holds a role
  abbrev pub role_count : ℕ → Role → ℕ
  role_count r given = count_by (λ n. holds_role targets r given n) (range_with_len 0 (length c.nodes))

  pub record IsLawful : Type 0 where
    pub cells : (r n : ℕ) → r < length c.leaves → n < length c.nodes → is_pinned c es r ≡ false → holds_role targets r role.Started n ≡ true → IsLawfulCell r n
    pub copies : (r : ℕ) → r < length c.leaves → is_pinned c es r ≡ false → role_count r role.Started ≤ cap_of c es (Place r)
    pub promoted_copies : (r : ℕ) → r < length c.leaves → is_pinned c es r ≡ false → role_count r role.Promoted ≤ cap_of c es (Promote r)
