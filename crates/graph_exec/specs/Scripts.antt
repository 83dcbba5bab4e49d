-- What contracts see of a source that says the answers of a list (rule of this project).
use Rattle.std.specs.Prelude.{ℕ, List}
use Rattle.cluster_types.specs.declared.journal.Answer.{Answer}

-- the answers to come, how many were taken, and how often it was asked
pub record ScriptOf : Type 0 where
  pub left : List Answer
  pub taken : ℕ
  pub asked : ℕ

-- the answers to come, how many were taken, which calls fail, and how many were made and failed
pub record FailingOf : Type 0 where
  pub left : List Answer
  pub taken : ℕ
  pub fails : List ℕ
  pub calls : ℕ
  pub faults : ℕ
