-- What holds of the whole cluster: its nodes, its options, and the defaults of its resources (Pacemaker Explained, "Cluster Options" and
-- "Setting Global Defaults for Resource Meta-Attributes").
use Rattle.std.specs.Prelude.{ℕ, Bool, List, [], ◌∷◌, length, unwrap_or, map, Option}
use Rattle.std.specs.List.{flat_map}
use Rattle.crm_parse.specs.declared.form.Form.{Form}
use Rattle.crm_parse.specs.declared.form.Form.TheVariants as form
use Rattle.crm_parse.specs.declared.pair.Kv.{Kv}
use Rattle.crm_parse.specs.declared.statement.Statement.{Statement}
use Rattle.crm_parse.specs.declared.words.SettingsWord.TheVariants.{Property, RscDefaults}
use Rattle.crm_parse.specs.Values.{bool_of}
use Rattle.cluster_model.specs.Metas.{first_given}

-- the options that a statement sets
abbrev pub properties_in : Form → List Kv
properties_in (form.Settings Property set pairs) = pairs
properties_in _ = []

-- the defaults that a statement sets
abbrev pub defaults_in : Form → List Kv
defaults_in (form.Settings RscDefaults set pairs) = pairs
defaults_in _ = []

-- the names of the nodes
abbrev pub node_names_in : Form → List (List ℕ)
node_names_in (form.Node id name attributes utilization) = name ∷ []
node_names_in _ = []

abbrev pub count_nodes : List Statement → ℕ
count_nodes statements = length (flat_map (λ s. node_names_in s.form) statements)

-- an option of the cluster by a reader of its values: what the first statement says that gives such a value
abbrev pub option_as : {V : Type 0} → (List ℕ → Option V) → List ℕ → List Statement → Option V
option_as reader key statements = first_given reader key (map (λ s. properties_in s.form) statements)

-- an option of the cluster that is yes or no
abbrev pub option_given : List ℕ → Bool → List Statement → Bool
option_given key default statements = unwrap_or (option_as bool_of key statements) default
