-- How many nodes, leaves and rules the code has counted, statement by statement.
use Rattle.std.specs.Prelude.{ℕ, ◌+◌, List, [], ◌∷◌}
use Rattle.crm_parse.specs.declared.form.Form.{Form}
use Rattle.crm_parse.specs.declared.form.Form.TheVariants as form
use Rattle.crm_parse.specs.declared.statement.Statement.{Statement}
use Rattle.cluster_model.specs.declared.resolution.counts.Counts.{Counts}
use Rattle.cluster_model.specs.Counting.{rule_count}

abbrev pub node_count : Form → ℕ
node_count (form.Node id name attributes utilization) = 1
node_count _ = 0

abbrev pub leaf_count : Form → ℕ
leaf_count (form.Primitive id agent description params meta utilization operations ops) = 1
leaf_count _ = 0

-- nothing stands before the first statement
abbrev pub nothing_counted : Counts
nothing_counted = record { nodes = 0; leaves = 0; rules = 0 }

-- what statements have, with one more
unfoldable pub counted_with : Counts → Form → Counts
counted_with counts form = record {
  nodes = counts.nodes + node_count form;
  leaves = counts.leaves + leaf_count form;
  rules = counts.rules + rule_count form;
}

-- what some statements have, after what was counted before them
abbrev pub all_counted : Counts → List Statement → Counts
all_counted counts [] = counts
all_counted counts (s ∷ statements) = all_counted (counted_with counts s.form) statements

abbrev pub counts_of : List Statement → Counts
counts_of statements = all_counted nothing_counted statements
