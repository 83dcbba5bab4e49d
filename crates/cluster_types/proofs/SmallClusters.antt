-- Small clusters, of which the examples speak.
use Rattle.std.proofs.Common.{ℕ, ℤ, pos, Bool, true, false, List, [], ◌∷◌, ◌++◌}
use Rattle.std.specs.Prelude.{codes}
use Rattle.cluster_types.specs.declared.cluster.Cluster.{Cluster}
use Rattle.cluster_types.specs.declared.cluster.Policy.TheVariants as policy
use Rattle.cluster_types.specs.declared.cluster.Properties.{Properties}
use Rattle.cluster_types.specs.declared.journal.Action.{Action}
use Rattle.cluster_types.specs.declared.journal.Action.TheVariants.{Probe, Operation}
use Rattle.cluster_types.specs.declared.journal.Event.{Event}
use Rattle.cluster_types.specs.declared.journal.Event.TheVariants.{Up, Quorum, Wait, Ended}
use Rattle.cluster_types.specs.declared.journal.Outcome.TheVariants.{Code}
use Rattle.cluster_types.specs.declared.leaf.Leaf.{Leaf}
use Rattle.cluster_types.specs.declared.leaf.Op.{Op}
use Rattle.cluster_types.specs.declared.leaf.Op.TheVariants.{Start, Monitor}
use Rattle.cluster_types.specs.declared.leaf.OnFail.TheVariants as on_fail
use Rattle.cluster_types.specs.declared.leaf.Role.TheVariants as role
use Rattle.cluster_types.specs.declared.leaf.TargetRole.TheVariants as target_role
use Rattle.cluster_types.specs.declared.node.Node.{Node}
use Rattle.cluster_types.specs.declared.placement.Target.TheVariants.{Nowhere}
use Rattle.cluster_types.specs.declared.rules.Colocation.{Colocation}
use Rattle.cluster_types.specs.declared.rules.Location.{Location}
use Rattle.cluster_types.specs.declared.rules.Order.{Order}
use Rattle.cluster_types.specs.declared.rules.OrderKind.TheVariants as kind
use Rattle.cluster_types.specs.Tables.{Targets}

abbrev pub node : List ℕ → Node
node name = record { name = name; standby = false; attributes = [] }

-- a resource with nothing said of it
abbrev pub plain_leaf : List ℕ → Leaf
plain_leaf name = record {
  name = name;
  copies = 1;
  promoted_copies = 1;
  cloned = false;
  interleave = false;
  promotable = false;
  follower = false;
  priority = pos 0;
  stickiness = pos 0;
  threshold = pos 1000000;
  timeout_ms = 0;
  target_role = target_role.Started;
  managed = true;
  migrates = false;
  start_fail = on_fail.Restart;
  stop_fail = on_fail.Fence;
  promote_fail = on_fail.Restart;
  demote_fail = on_fail.Restart;
  monitors = [];
}

-- the cluster options with nothing said of them
abbrev pub plain_options : Properties
plain_options = record {
  symmetric = true;
  fencing = true;
  startup_fencing = true;
  policy = policy.Stop;
  start_fatal = true;
  stop_all = false;
  batch_limit = 0;
}

-- two nodes, n1 and n2, with these resources
abbrev pub two_nodes : List Leaf → Cluster
two_nodes leaves = record {
  nodes = node (codes "n1") ∷ node (codes "n2") ∷ [];
  leaves = leaves;
  locations = [];
  rule_locations = [];
  colocations = [];
  orders = [];
  properties = plain_options;
}

-- the same without fencing
abbrev pub unfenced : Cluster → Cluster
unfenced c = record c { properties = record plain_options { fencing = false } }

abbrev pub location : List ℕ → ℕ → ℕ → ℤ → Location
location id r n score = record { id = id; leaf = r; role = role.Started; score = score; node = n }

abbrev pub colocation : List ℕ → ℕ → ℕ → ℤ → Colocation
colocation id r s score = record { id = id; dependent = r; dependent_role = role.Started; primary = s; primary_role = role.Started; score = score }

-- r starts before s
abbrev pub start_order : List ℕ → ℕ → ℕ → Bool → Order
start_order id r s local = record {
  id = id;
  kind = kind.Mandatory;
  first = r;
  first_op = Start;
  then_leaf = s;
  then_op = Start;
  symmetrical = true;
  local = local;
}

-- an operation of the history, with its exit code and its moment
abbrev pub did : Op → ℕ → ℕ → ℕ → ℕ → Event
did o r n code moment = Ended 0 (Operation o r n 0 role.Started) (Code code) moment

abbrev pub monitored : ℕ → ℕ → ℕ → ℕ → ℕ → Event
monitored r n interval code moment = Ended 0 (Operation Monitor r n interval role.Started) (Code code) moment

abbrev pub probed : ℕ → ℕ → ℕ → ℕ → Event
probed r n code moment = Ended 0 (Probe r n) (Code code) moment

-- both nodes are online with quorum, at this moment
abbrev pub online : List Event → ℕ → List Event
online history now = Up 0 ∷ Up 1 ∷ [] ++ history ++ Quorum true ∷ Wait now ∷ []

abbrev pub step : Op → ℕ → ℕ → Action
step o r n = Operation o r n 0 role.Started

-- where nothing goes
abbrev pub no_targets : Targets
no_targets r n = Nowhere
