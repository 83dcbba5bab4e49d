-- What is written by the word `check`.
use Rattle.std.specs.Prelude.{◌≡◌, ℕ, ◌+◌, List, ◌++◌, length, codes, decimal}
use Rattle.crm_print.specs.Text.{canonical_text}
use Rattle.cluster_types.specs.declared.cluster.Cluster.{Cluster}
use Rattle.input_reading.specs.declared.input.reading.Input.{Input}

-- how many rules a cluster has: locations, colocations and orders, those of groups among them
abbrev pub rules_in : Cluster → ℕ
rules_in c = length c.locations + length c.rule_locations + length c.colocations + length c.orders

-- `# nodes N leaves N rules N`
abbrev pub counts_line : Cluster → List ℕ
counts_line c =
    codes "# nodes " ++ decimal (length c.nodes) ++ codes " leaves " ++ decimal (length c.leaves) ++ codes " rules " ++ decimal (rules_in c) ++ codes "\n"

-- the canonical configuration, and how many nodes, leaves and rules it has (crmsh manual, configure show; the last line is a rule of this project)
abbrev pub check_text : Input → List ℕ
check_text input = canonical_text input.head.crm ++ counts_line input.head.cluster

-- the text is the canonical configuration of what the input says
abbrev pub IsCheckText : Input → List ℕ → Type 0
IsCheckText whole text = text ≡ check_text whole
