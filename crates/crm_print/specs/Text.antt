-- The canonical text of a configuration: a line for each statement.
use Rattle.std.specs.Prelude.{ℕ, List, ◌∷◌, ◌++◌, []}
use Rattle.std.specs.List.{flat_map}
use Rattle.crm_parse.specs.declared.form.Form.{Form}
use Rattle.crm_parse.specs.declared.statement.Crm.{Crm}
use Rattle.crm_parse.specs.declared.statement.Statement.{Statement}
use Rattle.crm_print.specs.Items.{items_of}
use Rattle.crm_print.specs.Quoting.{items_line}

-- the canonical line of a statement
abbrev pub canonical_line : Form → List ℕ
canonical_line form = items_line (items_of form)

-- the same with its line feed
abbrev pub ended_line : Statement → List ℕ
ended_line statement = canonical_line statement.form ++ 10 ∷ []

-- the canonical text
abbrev pub canonical_text : Crm → List ℕ
canonical_text crm = flat_map ended_line crm.statements
