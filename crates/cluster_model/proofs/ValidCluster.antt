-- A cluster that a configuration resolves to is valid.
use Rattle.std.proofs.Common.{◌≡◌, ◌≢◌, ◌<◌, ℕ, List, length, refl, sym, ap, ◌∙◌, subst, AllPairs, Contains}
use Rattle.std.specs.Prelude.{Option, Some, None, Ok}
use Rattle.cluster_types.specs.declared.cluster.Cluster.{Cluster}
use Rattle.cluster_types.specs.declared.leaf.Leaf.{Leaf}
use Rattle.cluster_types.specs.declared.node.Node.{Node}
use Rattle.cluster_types.specs.declared.rules.Colocation.{Colocation}
use Rattle.cluster_types.specs.declared.rules.Location.{Location}
use Rattle.cluster_types.specs.declared.rules.Order.{Order}
use Rattle.cluster_types.specs.declared.rules.RuleLocation.{RuleLocation}
use Rattle.cluster_types.specs.Valid.{IsValid, IsValidColocation, IsValidLeaf, IsValidLocation, IsValidNode, IsValidOrder, IsValidRuleLocation}
use Rattle.crm_lex.specs.declared.line.Line.{Line}
use Rattle.crm_parse.specs.declared.statement.Crm.{Crm}
use Rattle.crm_parse.specs.declared.statement.Statement.{Statement}
use Rattle.crm_parse.specs.Statements.{statements_of}
use Rattle.crm_parse.proofs.ReadForms.{statements-read}
use Rattle.faults.specs.declared.fault.Fault.{Fault}
use Rattle.faults.specs.Reading.{unless}
use Rattle.cluster_model.specs.declared.expansion.expand_fault.ExpandCause.{ExpandCause}
use Rattle.cluster_model.specs.declared.expansion.leaves.Leaves.{Leaves}
use Rattle.cluster_model.specs.Expansion.{expansion_of}
use Rattle.cluster_model.specs.Inner.Expansion.{leaves_with_spans}
use Rattle.cluster_model.specs.Inner.Faults.{fault_of}
use Rattle.cluster_model.specs.Inner.Leaves.{leaves_of}
use Rattle.cluster_model.proofs.NameLaws.{names_differ}
use Rattle.cluster_model.proofs.NodeNames.{node_names_differ}
use Rattle.lemmas.proofs.Members.{of_flat}
use Rattle.cluster_model.specs.declared.resolution.directory.Directory.{Directory}
use Rattle.cluster_model.specs.Inner.Colocations.{colocations_of}
use Rattle.cluster_model.specs.Inner.Directories.{directory_of}
use Rattle.cluster_model.specs.Inner.Locations.{location_in, locations_of, rule_locations_of}
use Rattle.cluster_model.specs.Nodes.{nodes_by}
use Rattle.cluster_model.specs.Inner.Orders.{orders_of}
use Rattle.cluster_model.specs.Inner.Resolution.{cluster_of}
use Rattle.cluster_model.specs.Resolution.{resolution_of}
use Rattle.cluster_model.proofs.EachOf.{of_all, pairs_map}
use Rattle.cluster_model.proofs.LeavesValid.{leaves-valid}
use Rattle.cluster_model.proofs.Limits.{limits_kept}
use Rattle.cluster_model.proofs.NodePlaces.{location-node, node_names}
use Rattle.cluster_model.proofs.Loopless.{needs_without_loop, steps_without_loop}
use Rattle.cluster_model.proofs.ReadNames.{AreRead, NamedColocation, NamedLocation, NamedNode, NamedOrder, NamedRule, colocations-named, locations-named, nodes-named, orders-named, rules-named}
use Rattle.cluster_model.proofs.ResolvedRoles.{colocations, is-clean, locations, orders, rule_locations, sound}
use Rattle.cluster_model.proofs.ExpansionSaid.{expansion_is}

-- where a configuration was expanded, none of its statements is at fault
record IsExpanded (statements : List Statement) (leaves : Leaves) : Type 0 where
  none : fault_of statements ≡ None
  are : leaves.leaves ≡ leaves_of statements

expanded-by : (fault : Option (Fault ExpandCause)) (statements : List Statement) (leaves : Leaves) → fault_of statements ≡ fault
    → unless fault (leaves_with_spans statements) ≡ Ok leaves → IsExpanded statements leaves
expanded-by None statements leaves f e =
    let made : leaves ≡ leaves_with_spans statements = cc in
    record { none = f; are = ap (λ (l : Leaves). l.leaves) made }
expanded-by (Some fault) statements leaves f e = absurd cc

-- the names of the nodes differ
nodes-apart : (statements : List Statement) → fault_of statements ≡ None → AllPairs (λ (one other : Node). one.name ≢ other.name) (nodes_by statements)
nodes-apart statements h =
    let name : Node → List ℕ = λ node. node.name in
    pairs_map name (λ (one other : List ℕ). one ≢ other) (nodes_by statements)
    (subst (AllPairs (λ (one other : List ℕ). one ≢ other)) (sym (node_names statements)) (node_names_differ statements h))

module _ (statements : List Statement) (leaves : Leaves) (c : Cluster) (read : AreRead statements) (e : expansion_of statements ≡ Ok leaves)
    (r : resolution_of leaves statements ≡ Ok c) where
  abbrev d : Directory
  d = directory_of leaves statements

  expanded : IsExpanded statements leaves
  expanded = expanded-by (fault_of statements) statements leaves refl (sym (expansion_is statements) ∙ e)

  whole : c ≡ cluster_of d leaves.leaves statements
  whole = let clean = is-clean leaves statements c r in clean.is_whole

  -- what the cluster has is what the statements say

  nodes-are : c.nodes ≡ nodes_by statements
  unfolding cluster_of
  nodes-are = ap (λ (c : Cluster). c.nodes) whole

  leaves-are : c.leaves ≡ leaves_of statements
  unfolding cluster_of
  leaves-are = ap (λ (c : Cluster). c.leaves) whole ∙ expanded.are

  locations-are : c.locations ≡ locations_of d statements
  unfolding cluster_of
  locations-are = ap (λ (c : Cluster). c.locations) whole

  rules-are : c.rule_locations ≡ rule_locations_of d statements
  unfolding cluster_of
  rules-are = ap (λ (c : Cluster). c.rule_locations) whole

  colocations-are : c.colocations ≡ colocations_of d statements
  unfolding cluster_of
  colocations-are = ap (λ (c : Cluster). c.colocations) whole

  orders-are : c.orders ≡ orders_of d statements
  unfolding cluster_of
  orders-are = ap (λ (c : Cluster). c.orders) whole

  -- and each of it is valid

  node-there : (l : Location) → Contains c.locations l → l.node < length c.nodes
  node-there l k =
      let m = of_flat (λ s. location_in d s.form) statements l (rw locations-are at k) in
      let below = location-node leaves statements m.source.form (sound leaves statements c r m.source m.among) l m.gives in
      subst (λ nodes. l.node < length nodes) (sym nodes-are) below

  node-valid : (node : Node) → Contains c.nodes node → IsValidNode node
  node-valid node k = record { name = of_all NamedNode (nodes_by statements) node (nodes-named statements read) (rw nodes-are at k) }

  leaf-valid : (leaf : Leaf) → Contains c.leaves leaf → IsValidLeaf leaf
  leaf-valid leaf k = of_all IsValidLeaf (leaves_of statements) leaf (leaves-valid statements read) (rw leaves-are at k)

  location-valid : (l : Location) → Contains c.locations l → IsValidLocation c l
  location-valid l k = record {
    id = of_all NamedLocation (locations_of d statements) l (locations-named d statements read) (rw locations-are at k);
    role = locations leaves statements c r l k;
    node = node-there l k;
  }

  rule-valid : (l : RuleLocation) → Contains c.rule_locations l → IsValidRuleLocation c l
  rule-valid l k = record {
    id = of_all NamedRule (rule_locations_of d statements) l (rules-named d statements read) (rw rules-are at k);
    role = rule_locations leaves statements c r l k;
  }

  colocation-valid : (col : Colocation) → Contains c.colocations col → IsValidColocation c col
  colocation-valid col k =
      let roles = colocations leaves statements c r col k in
      record {
        id = of_all NamedColocation (colocations_of d statements) col (colocations-named d statements read) (rw colocations-are at k);
        dependent = roles.dependent;
        primary = roles.primary;
      }

  order-valid : (o : Order) → Contains c.orders o → IsValidOrder c o
  order-valid o k =
      let words = orders leaves statements c r o k in
      record {
        id = of_all NamedOrder (orders_of d statements) o (orders-named d statements read) (rw orders-are at k);
        first = words.first;
        later = words.later;
        upward = words.upward;
      }

  pub statements-valid : IsValid c
  statements-valid = record {
    limits = limits_kept statements leaves c e r;
    nodes = node-valid;
    leaves = leaf-valid;
    locations = location-valid;
    rule_locations = rule-valid;
    colocations = colocation-valid;
    orders = order-valid;
    node_names = subst (AllPairs (λ (one other : Node). one.name ≢ other.name)) (sym nodes-are) (nodes-apart statements expanded.none);
    leaf_names = subst (AllPairs (λ (one other : Leaf). one.name ≢ other.name)) (sym leaves-are) (names_differ statements expanded.none);
    needs = needs_without_loop leaves statements c r;
    steps = steps_without_loop leaves statements c r;
  }

-- the cluster that some lines resolve to is valid
pub resolved_valid : (lines : List Line) (crm : Crm) (leaves : Leaves) (c : Cluster) → statements_of lines ≡ Ok crm → expansion_of crm.statements ≡ Ok leaves
    → resolution_of leaves crm.statements ≡ Ok c → IsValid c
resolved_valid lines crm leaves c p e r = statements-valid crm.statements leaves c (statements-read lines crm p) e r
