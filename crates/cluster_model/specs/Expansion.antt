-- What the groups and clones of a configuration stand for.
use Rattle.std.specs.Prelude.{List, Result, [], Option}
use Rattle.faults.specs.declared.fault.Fault.{Fault}
use Rattle.faults.specs.Reading.{unless}
use Rattle.crm_parse.specs.declared.statement.Statement.{Statement}
use Rattle.cluster_model.specs.declared.expansion.expand_fault.ExpandCause.{ExpandCause}
use Rattle.cluster_model.specs.declared.expansion.leaves.Leaves.{Leaves}
use Rattle.cluster_model.specs.FirstFaults.{first_fault}
use Rattle.cluster_model.specs.Leaves.{leaves_said}
use Rattle.cluster_model.specs.Spans.{spans_said}
use Rattle.cluster_model.specs.Faults.{expand_cause}

-- the fault of the first statement that is at fault
abbrev pub leaf_fault : List Statement → Option (Fault ExpandCause)
leaf_fault statements = first_fault (expand_cause statements) [] statements

-- each primitive as a leaf, and each resource with its first and its last leaf
abbrev pub leaves_and_spans : List Statement → Leaves
leaves_and_spans statements = record { leaves = leaves_said statements; spans = spans_said statements }

-- the leaves, or the first fault
abbrev pub expansion_of : List Statement → Result Leaves (Fault ExpandCause)
expansion_of statements = unless (leaf_fault statements) (leaves_and_spans statements)
