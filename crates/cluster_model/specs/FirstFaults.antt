-- Which statement is at fault first, where the cause of a statement depends on those before it.
use Rattle.std.specs.Prelude.{List, [], ◌∷◌, ◌++◌, Option, None}
use Rattle.faults.specs.declared.fault.Fault.{Fault}
use Rattle.faults.specs.Reading.{fault_at}
use Rattle.crm_parse.specs.declared.statement.Statement.{Statement}

module _ {C : Type 0} (cause_after : List Statement → Statement → Option C) where
  -- the fault of the first statement with a cause, where these stand before
  abbrev pub first_fault : List Statement → List Statement → Option (Fault C)
  first_fault before [] = None
  first_fault before (s ∷ statements) = fault_at s.line (cause_after before s) (first_fault (before ++ s ∷ []) statements)
