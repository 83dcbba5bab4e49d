-- What the code makes of primitives, groups and clones, or finds at fault, is what the statements say.
use Rattle.std.proofs.Common.{◌≡◌, List, Option, Result, refl, sym, ap, ◌∙◌, subst}
use Rattle.faults.specs.declared.fault.Fault.{Fault}
use Rattle.faults.specs.Reading.{Gives, unless}
use Rattle.crm_parse.specs.declared.statement.Statement.{Statement}
use Rattle.cluster_types.specs.declared.leaf.Leaf.{Leaf}
use Rattle.cluster_model.specs.declared.expansion.expand_fault.ExpandCause.{ExpandCause}
use Rattle.cluster_model.specs.declared.expansion.leaves.Leaves.{Leaves}
use Rattle.cluster_model.specs.declared.expansion.leaves.Span.{Span}
use Rattle.cluster_model.specs.Expansion.{expansion_of, leaf_fault, leaves_and_spans}
use Rattle.cluster_model.specs.Inner.Expansion.{expansion_by, leaves_with_spans}
use Rattle.cluster_model.specs.Inner.Spans.{spans_of}
use Rattle.cluster_model.proofs.FaultsSaid.{fault_is}
use Rattle.cluster_model.proofs.LeavesSaid.{leaves_are}
use Rattle.cluster_model.proofs.SpansSaid.{spans_are}

both_are : (one other : List Leaf) (some more : List Span) → one ≡ other → some ≡ more
    → (let l : Leaves = record { leaves = one; spans = some } in l) ≡ record { leaves = other; spans = more }
both_are one other some more e f = rw (e, f) refl

with_spans_are : (statements : List Statement) → leaves_with_spans statements ≡ leaves_and_spans statements
with_spans_are statements =
    both_are _ _ _ _ (leaves_are statements) (ap (λ (leaves : List Leaf). spans_of leaves statements) (leaves_are statements) ∙ spans_are statements)

pub expansion_is : (statements : List Statement) → expansion_of statements ≡ expansion_by statements
expansion_is statements =
    sym (ap (λ (fault : Option (Fault ExpandCause)). unless fault (leaves_with_spans statements)) (fault_is statements)
    ∙ ap (unless (leaf_fault statements)) (with_spans_are statements))

-- what the code returned
pub given_as_said : (statements : List Statement) (given : Result Leaves (Fault ExpandCause)) → Gives (λ (leaves : Leaves). leaves) given (expansion_by statements)
    → Gives (λ (leaves : Leaves). leaves) given (expansion_of statements)
given_as_said statements given h = subst (Gives (λ (leaves : Leaves). leaves) given) (sym (expansion_is statements)) h
