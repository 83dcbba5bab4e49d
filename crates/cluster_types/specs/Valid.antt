-- Which clusters are valid: those that a configuration can say (roles and the words of orders after the crmsh manual; limits, and that names differ, are
-- rules of this project). Intervals, timeouts and scores are bounded by their types.
use Rattle.std.specs.Prelude.{◌≡◌, ◌≢◌, ℕ, ◌+◌, ◌<◌, ◌≤◌, true, false, length, Contains, AllPairs}
use Rattle.crm_lex.specs.Names.{is_name}
use Rattle.cluster_types.specs.declared.cluster.Cluster.{Cluster}
use Rattle.cluster_types.specs.declared.leaf.Leaf.{Leaf}
use Rattle.cluster_types.specs.declared.leaf.Monitor.{Monitor as MonitorOf}
use Rattle.cluster_types.specs.declared.leaf.Op.{Op}
use Rattle.cluster_types.specs.declared.leaf.Op.TheVariants.{Start, Stop, Promote, Demote, Monitor}
use Rattle.cluster_types.specs.declared.leaf.Role.{Role}
use Rattle.cluster_types.specs.declared.leaf.Role.TheVariants as role
use Rattle.cluster_types.specs.declared.node.Node.{Node}
use Rattle.cluster_types.specs.declared.rules.Colocation.{Colocation}
use Rattle.cluster_types.specs.declared.rules.Location.{Location}
use Rattle.cluster_types.specs.declared.rules.Order.{Order}
use Rattle.cluster_types.specs.declared.rules.RuleLocation.{RuleLocation}
use Rattle.cluster_types.specs.Decisions.{NeedsHaveNoLoop}
use Rattle.cluster_types.specs.Fields.{is_promotable}
use Rattle.cluster_types.specs.Numbers.{StepsHaveNoLoop}
use Rattle.cluster_types.specs.Precedence.{is_giving}

-- how many there may be of each
pub record KeepsLimits (c : Cluster) : Type 0 where
  pub nodes : length c.nodes ≤ 256
  pub leaves : length c.leaves ≤ 1000
  pub rules : length c.locations + length c.rule_locations + length c.colocations + length c.orders ≤ 2000

-- the role may stand at the leaf, which is there: only a promotable leaf is promoted
abbrev pub FitsRole : Cluster → ℕ → Role → Type 0
FitsRole c r role.Started = r < length c.leaves
FitsRole c r role.Promoted = (r < length c.leaves) × (is_promotable c r ≡ true)

-- the word may stand in an order at the leaf
abbrev pub MayHaveWord : Cluster → ℕ → Op → Type 0
MayHaveWord c r Start = r < length c.leaves
MayHaveWord c r Stop = r < length c.leaves
MayHaveWord c r Promote = (r < length c.leaves) × (is_promotable c r ≡ true)
MayHaveWord c r Demote = (r < length c.leaves) × (is_promotable c r ≡ true)
MayHaveWord c r Monitor = ⊥

pub record IsValidNode (node : Node) : Type 0 where
  pub name : is_name node.name ≡ true

-- a leaf that isn't cloned has one copy; and each leaf has at most 8 monitors, of different intervals above 0
pub record IsValidLeaf (leaf : Leaf) : Type 0 where
  pub name : is_name leaf.name ≡ true
  pub copies : leaf.cloned ≡ false → leaf.copies ≡ 1
  pub few_monitors : length leaf.monitors ≤ 8
  pub intervals : (m : MonitorOf) → Contains leaf.monitors m → 0 < m.interval_ms
  pub all_differ : AllPairs (λ (one other : MonitorOf). one.interval_ms ≢ other.interval_ms) leaf.monitors

pub record IsValidLocation (c : Cluster) (l : Location) : Type 0 where
  pub id : is_name l.id ≡ true
  pub role : FitsRole c l.leaf l.role
  pub node : l.node < length c.nodes

pub record IsValidRuleLocation (c : Cluster) (l : RuleLocation) : Type 0 where
  pub id : is_name l.id ≡ true
  pub role : FitsRole c l.leaf l.role

pub record IsValidColocation (c : Cluster) (col : Colocation) : Type 0 where
  pub id : is_name col.id ≡ true
  pub dependent : FitsRole c col.dependent col.dependent_role
  pub primary : FitsRole c col.primary col.primary_role

-- no order has a stop or a demote wait for a start or a promote
pub record IsValidOrder (c : Cluster) (o : Order) : Type 0 where
  pub id : is_name o.id ≡ true
  pub first : MayHaveWord c o.first o.first_op
  pub later : MayHaveWord c o.then_leaf o.then_op
  pub upward : is_giving o.first_op ≡ true → is_giving o.then_op ≡ true

pub record IsValid (c : Cluster) : Type 0 where
  pub limits : KeepsLimits c
  pub nodes : (node : Node) → Contains c.nodes node → IsValidNode node
  pub leaves : (leaf : Leaf) → Contains c.leaves leaf → IsValidLeaf leaf
  pub locations : (l : Location) → Contains c.locations l → IsValidLocation c l
  pub rule_locations : (l : RuleLocation) → Contains c.rule_locations l → IsValidRuleLocation c l
  pub colocations : (col : Colocation) → Contains c.colocations col → IsValidColocation c col
  pub orders : (o : Order) → Contains c.orders o → IsValidOrder c o
  pub node_names : AllPairs (λ (one other : Node). one.name ≢ other.name) c.nodes
  pub leaf_names : AllPairs (λ (one other : Leaf). one.name ≢ other.name) c.leaves
  pub needs : NeedsHaveNoLoop c
  pub steps : StepsHaveNoLoop c
