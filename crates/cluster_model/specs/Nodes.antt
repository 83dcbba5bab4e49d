-- The nodes of a cluster (crmsh manual, node; Pacemaker Explained, "Node Attributes").
use Rattle.std.specs.Prelude.{ℕ, Bool, false, List, [], ◌∷◌, map, codes, unwrap_or}
use Rattle.std.specs.List.{flat_map}
use Rattle.crm_parse.specs.declared.form.Form.{Form}
use Rattle.crm_parse.specs.declared.form.Form.TheVariants as form
use Rattle.crm_parse.specs.declared.pair.Kv.{Kv}
use Rattle.crm_parse.specs.declared.statement.Statement.{Statement}
use Rattle.crm_parse.specs.Values.{bool_of}
use Rattle.date_rules.specs.declared.rule.Pair.{Pair}
use Rattle.cluster_types.specs.declared.node.Node.{Node}
use Rattle.cluster_model.specs.Metas.{read_as}

abbrev pub attribute_of : Kv → Pair
attribute_of pair = record { name = pair.key; value = pair.value }

-- a node may run no resource where its attribute standby says so
abbrev pub says_standby : List Kv → Bool
says_standby attributes = unwrap_or (read_as bool_of (codes "standby") attributes) false

abbrev pub node_of : List ℕ → List Kv → Node
node_of name attributes = record { name = name; standby = says_standby attributes; attributes = map attribute_of attributes }

abbrev pub node_in : Form → List Node
node_in (form.Node id name attributes utilization) = node_of name attributes ∷ []
node_in _ = []

-- the nodes, in the order of the text
abbrev pub nodes_by : List Statement → List Node
nodes_by statements = flat_map (λ s. node_in s.form) statements
