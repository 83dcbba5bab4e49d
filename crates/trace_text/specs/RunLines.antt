-- A line of a run as it is lent to be written, and what keeps it short (rule of this project).
use Rattle.std.specs.Prelude.{◌≡◌, ℕ, ◌≤◌, true, length}
use Rattle.cluster_types.specs.declared.cluster.Cluster.{Cluster}
use Rattle.cluster_types.specs.declared.placement.NoReason.{NoReason}
use Rattle.cluster_types.specs.declared.placement.NoReason.TheVariants.{Held}
use Rattle.cluster_types.specs.declared.run.RunLine.{RunLine}
use Rattle.cluster_types.specs.declared.run.RunLine.TheVariants as line
use Rattle.cluster_types.specs.Fields.{leaf_name}
use Rattle.cluster_types.specs.Texts.{node_name}
use Rattle.crm_lex.specs.Names.{is_name}
use Rattle.trace_text.specs.declared.run_line_ref.RunLineRef.{RunLineRef}
use Rattle.trace_text.specs.declared.run_line_ref.RunLineRef.TheVariants as lent

-- the line that is lent
abbrev pub lent_line : RunLineRef → RunLine
lent_line (lent.Transition k) = line.Transition k
lent_line (lent.Pinned r pin) = line.Pinned r pin
lent_line (lent.Goal r n target) = line.Goal r n target
lent_line (lent.Lacking r reason) = line.Lacking r reason.now
lent_line (lent.Begin k action) = line.Begin k action
lent_line (lent.Taken given) = line.Taken given
lent_line (lent.Complete k) = line.Complete k
lent_line (lent.Aborted k) = line.Aborted k
lent_line (lent.Unexpected l) = line.Unexpected l

-- each name of a node or a leaf has at most 256 bytes, as in each valid cluster
pub record HasShortNames (c : Cluster) : Type 0 where
  pub nodes : (n : ℕ) → length (node_name c n) ≤ 256
  pub leaves : (r : ℕ) → length (leaf_name c r) ≤ 256

-- the id of a rule that holds a leaf back is a name
abbrev pub IsReasonNamed : NoReason → Type 0
IsReasonNamed (Held id) = is_name id ≡ true
IsReasonNamed _ = Unit {0}

-- where the line says which rule holds a leaf back, its id is a name
abbrev pub HasNamedRule : RunLineRef → Type 0
HasNamedRule (lent.Lacking r reason) = IsReasonNamed reason.now
HasNamedRule _ = Unit {0}
