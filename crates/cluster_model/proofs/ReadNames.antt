-- The names and ids of what statements with names say.
use Rattle.std.proofs.Common.{◌≡◌, true, List}
use Rattle.std.specs.List.{AllByRecursion}
use Rattle.crm_lex.specs.Names.{is_name}
use Rattle.crm_parse.specs.declared.form.Form.{Form}
use Rattle.crm_parse.specs.declared.form.Form.TheVariants as form
use Rattle.crm_parse.specs.declared.statement.Statement.{Statement}
use Rattle.crm_parse.specs.Inner.StatementNames.{HasNames}
use Rattle.crm_parse.specs.Inner.ReadForms.{IsRead}
use Rattle.cluster_types.specs.declared.node.Node.{Node}
use Rattle.cluster_types.specs.declared.rules.Colocation.{Colocation}
use Rattle.cluster_types.specs.declared.rules.Location.{Location}
use Rattle.cluster_types.specs.declared.rules.Order.{Order}
use Rattle.cluster_types.specs.declared.rules.RuleLocation.{RuleLocation}
use Rattle.cluster_model.specs.declared.resolution.directory.Directory.{Directory}
use Rattle.cluster_model.specs.SuccessivePairs.{successive}
use Rattle.cluster_model.specs.Inner.Colocations.{colocations_in, colocations_of, member_colocation}
use Rattle.cluster_model.specs.Inner.Locations.{location_in, locations_of, rule_location_of, rule_locations_in, rule_locations_of}
use Rattle.cluster_model.specs.Nodes.{node_in, nodes_by}
use Rattle.cluster_model.specs.Orders.{kind_of_word}
use Rattle.cluster_model.specs.Inner.Orders.{member_order, orders_in, orders_of, step_order}
use Rattle.cluster_model.proofs.EachOf.{all_flat, all_map}

-- each statement was read
abbrev pub AreRead : List Statement → Type 0
AreRead statements = AllByRecursion (λ (s : Statement). IsRead s.form) statements

abbrev pub NamedNode : Node → Type 0
NamedNode node = is_name node.name ≡ true

abbrev pub NamedLocation : Location → Type 0
NamedLocation l = is_name l.id ≡ true

abbrev pub NamedRule : RuleLocation → Type 0
NamedRule l = is_name l.id ≡ true

abbrev pub NamedColocation : Colocation → Type 0
NamedColocation col = is_name col.id ≡ true

abbrev pub NamedOrder : Order → Type 0
NamedOrder o = is_name o.id ≡ true

node-named : (f : Form) → HasNames f → AllByRecursion NamedNode (node_in f)
node-named (form.Node id name attributes utilization) h = (h.0, tt)
node-named _ h = tt

pub nodes-named : (statements : List Statement) → AreRead statements → AllByRecursion NamedNode (nodes_by statements)
nodes-named statements h = all_flat NamedNode (λ (s : Statement). IsRead s.form) (λ s. node_in s.form) statements (λ s r. node-named s.form r.names) h

module _ (d : Directory) where
  location-named : (f : Form) → HasNames f → AllByRecursion NamedLocation (location_in d f)
  location-named (form.Location id resource written discovery score node) h = (h.0, tt)
  location-named _ h = tt

  pub locations-named : (statements : List Statement) → AreRead statements → AllByRecursion NamedLocation (locations_of d statements)
  locations-named statements h =
      all_flat NamedLocation (λ (s : Statement). IsRead s.form) (λ s. location_in d s.form) statements (λ s r. location-named s.form r.names) h

  rule-named : (f : Form) → HasNames f → AllByRecursion NamedRule (rule_locations_in d f)
  rule-named (form.RuledLocation id resource written discovery rules) h = all_map NamedRule (rule_location_of d id resource written) rules (λ rule. h.0)
  rule-named _ h = tt

  pub rules-named : (statements : List Statement) → AreRead statements → AllByRecursion NamedRule (rule_locations_of d statements)
  rules-named statements h =
      all_flat NamedRule (λ (s : Statement). IsRead s.form) (λ s. rule_locations_in d s.form) statements (λ s r. rule-named s.form r.names) h

  colocation-named : (f : Form) → HasNames f → AllByRecursion NamedColocation (colocations_in d f)
  colocation-named (form.Colocation id score dependent primary) h = (h.0, tt)
  colocation-named (form.Group id members description params meta) h =
      all_map NamedColocation (member_colocation d id) (successive members) (λ pair. h.0)
  colocation-named _ h = tt

  pub colocations-named : (statements : List Statement) → AreRead statements → AllByRecursion NamedColocation (colocations_of d statements)
  colocations-named statements h =
      all_flat NamedColocation (λ (s : Statement). IsRead s.form) (λ s. colocations_in d s.form) statements (λ s r. colocation-named s.form r.names) h

  order-named : (f : Form) → HasNames f → AllByRecursion NamedOrder (orders_in d f)
  order-named (form.Order id kind steps symmetrical) h =
      all_map NamedOrder (step_order d id (kind_of_word kind) symmetrical) (successive steps) (λ pair. h.0)
  order-named (form.Group id members description params meta) h = all_map NamedOrder (member_order d id) (successive members) (λ pair. h.0)
  order-named _ h = tt

  pub orders-named : (statements : List Statement) → AreRead statements → AllByRecursion NamedOrder (orders_of d statements)
  orders-named statements h =
      all_flat NamedOrder (λ (s : Statement). IsRead s.form) (λ s. orders_in d s.form) statements (λ s r. order-named s.form r.names) h
