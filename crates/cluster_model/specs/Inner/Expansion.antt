-- What the code makes of groups and clones.
use Rattle.std.specs.Prelude.{List, Result}
use Rattle.faults.specs.declared.fault.Fault.{Fault}
use Rattle.faults.specs.Reading.{unless}
use Rattle.crm_parse.specs.declared.statement.Statement.{Statement}
use Rattle.cluster_model.specs.declared.expansion.expand_fault.ExpandCause.{ExpandCause}
use Rattle.cluster_model.specs.declared.expansion.leaves.Leaves.{Leaves}
use Rattle.cluster_model.specs.Inner.Faults.{fault_of}
use Rattle.cluster_model.specs.Inner.Leaves.{leaves_of}
use Rattle.cluster_model.specs.Inner.Spans.{spans_of}

-- the leaves, with the span of each resource
abbrev pub leaves_with_spans : List Statement → Leaves
leaves_with_spans statements = record { leaves = leaves_of statements; spans = spans_of (leaves_of statements) statements }

-- the leaves, or the first fault
abbrev pub expansion_by : List Statement → Result Leaves (Fault ExpandCause)
expansion_by statements = unless (fault_of statements) (leaves_with_spans statements)
