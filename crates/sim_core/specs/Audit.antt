-- What is written by the word `audit` (rule of this project).
use Rattle.std.specs.Prelude.{◌≡◌, ℕ, List, ◌++◌, codes, decimal}
use Rattle.input_reading.specs.declared.input.trace.Trace.{Trace}
use Rattle.input_reading.specs.Traces.{IsTraceRefused, ReadsTrace}
use Rattle.sim_core.specs.declared.verdict.Clause.{Clause}
use Rattle.sim_core.specs.declared.verdict.Clause.TheVariants as due
use Rattle.sim_core.specs.Outputs.{IsRefusal}
use Rattle.sim_core.specs.LawfulRuns.{IsFaultyLine, IsLawfulRun, said}
use Rattle.sim_core.specs.declared.status.Status.{Status}
use Rattle.sim_core.specs.declared.status.Status.TheVariants.{Done, NotLawful, Refused}

-- what is due at a line
abbrev pub clause_name : Clause → List ℕ
clause_name due.Transition = codes "Transition"
clause_name due.Targets = codes "Targets"
clause_name due.Begin = codes "Begin"
clause_name due.Answer = codes "Answer"
clause_name due.Close = codes "Close"

-- `lawful`
abbrev pub lawful_text : List ℕ
lawful_text = codes "lawful\n"

-- `unlawful LINE CLAUSE`
abbrev pub unlawful_text : ℕ → Clause → List ℕ
unlawful_text line clause = codes "unlawful " ++ decimal line ++ codes " " ++ clause_name clause ++ codes "\n"

-- the run of the input is lawful, from the journal on that its status tells
pub record IsLawfulTrace (input text : List ℕ) : Type 0 where
  pub whole : Trace
  pub reads : ReadsTrace input whole
  pub lawful : IsLawfulRun whole.head.cluster whole.head.journal (said whole.run.lines)
  pub printed : text ≡ lawful_text

-- the text names the first line of the run that isn't the due one, and what is due there. Where lines are missing, it has the number behind that of the last
-- line of the input that has words. A line that goes on counts by its first physical line
pub record IsUnlawfulTrace (input text : List ℕ) : Type 0 where
  pub whole : Trace
  pub reads : ReadsTrace input whole
  pub line : ℕ
  pub clause : Clause
  pub fault : IsFaultyLine whole.head.cluster whole.head.journal whole.run.lines whole.after line clause
  pub printed : text ≡ unlawful_text line clause

-- an input of this content gets this status and this text
abbrev pub IsAuditOutput : List ℕ → Status → List ℕ → Type 0
IsAuditOutput input Done text = IsLawfulTrace input text
IsAuditOutput input NotLawful text = IsUnlawfulTrace input text
IsAuditOutput input Refused text = IsRefusal (IsTraceRefused input) text
IsAuditOutput input _ text = ⊥
