-- The names in a statement.
use Rattle.std.specs.Prelude.{◌≡◌, ℕ, true, List, [], ◌∷◌, map}
use Rattle.std.specs.List.{AllByRecursion}
use Rattle.crm_lex.specs.Names.{is_name}
use Rattle.crm_parse.specs.declared.form.Form.{Form}
use Rattle.crm_parse.specs.declared.form.Form.TheVariants as form

-- the names of nodes, resources and rules that a statement gives or uses, ids that may be left out aside
abbrev pub names_in : Form → List (List ℕ)
names_in (form.Node id name attributes utilization) = name ∷ []
names_in (form.Primitive id agent description params meta utilization operations ops) = id ∷ []
names_in (form.Group id members description params meta) = id ∷ members
names_in (form.Cloned id child ms description params meta) = id ∷ child ∷ []
names_in (form.Location id resource role discovery score node) = id ∷ resource ∷ node ∷ []
names_in (form.RuledLocation id resource role discovery rules) = id ∷ resource ∷ []
names_in (form.Colocation id score dependent primary) = id ∷ dependent.resource ∷ primary.resource ∷ []
names_in (form.Order id kind steps symmetrical) = id ∷ map (λ step. step.resource) steps
names_in (form.Settings what set pairs) = []
names_in (form.Kept words) = []

-- each of them is a name
abbrev pub HasNames : Form → Type 0
HasNames f = AllByRecursion (λ name. is_name name ≡ true) (names_in f)
