-- Which lines a run of a cluster can print, and that they are read as the same lines (rule of this project).
use Rattle.std.specs.Prelude.{◌≡◌, ℕ, ◌+◌, ◌^◌, ◌<◌, true, List, [], ◌∷◌, length, Ok}
use Rattle.std.specs.List.{AllByRecursion, flat_map}
use Rattle.cluster_types.specs.declared.cluster.Cluster.{Cluster}
use Rattle.cluster_types.specs.declared.journal.Action.{Action}
use Rattle.cluster_types.specs.declared.journal.Action.TheVariants.{Fence, Probe, Operation, MigrateTo, MigrateFrom}
use Rattle.cluster_types.specs.declared.journal.Answer.{Answer}
use Rattle.cluster_types.specs.declared.journal.Answer.TheVariants as answer
use Rattle.cluster_types.specs.declared.leaf.Op.TheVariants.{Monitor}
use Rattle.cluster_types.specs.declared.leaf.Role.TheVariants.{Started}
use Rattle.cluster_types.specs.declared.placement.NoReason.TheVariants.{Held}
use Rattle.cluster_types.specs.declared.placement.Target.{Target}
use Rattle.cluster_types.specs.declared.placement.Target.TheVariants.{Nowhere}
use Rattle.cluster_types.specs.declared.run.RunLine.{RunLine}
use Rattle.cluster_types.specs.declared.run.RunLine.TheVariants as line
use Rattle.cluster_types.specs.AnswersThatApply.{role_of_interval}
use Rattle.cluster_types.specs.Fields.{monitors}
use Rattle.cluster_types.specs.Texts.{run_line}
use Rattle.crm_lex.specs.declared.line.Line.{Line}
use Rattle.crm_lex.specs.Names.{is_name}
use Rattle.crm_lex.specs.Reading.{reads}
use Rattle.input_reading.specs.declared.run.text.RunTextLine.{RunTextLine}
use Rattle.input_reading.specs.RunReading.{read_run_lines}

-- a number of a transition, of an action or of a line, or the milliseconds of a recurring monitor
pub record IsNumber (n : ℕ) : Type 0 where
  pub low : 0 < n
  pub high : n < 2 ^ 32

-- the cluster has the leaf and the node
pub record IsCellOf (c : Cluster) (r n : ℕ) : Type 0 where
  pub leaf : r < length c.leaves
  pub node : n < length c.nodes

-- an action of the cluster. A monitor has an interval, and the role of its statement; no other operation has either
abbrev pub IsActionOf : Cluster → Action → Type 0
IsActionOf c (Fence n) = n < length c.nodes
IsActionOf c (Probe r n) = IsCellOf c r n
IsActionOf c (Operation Monitor r n interval role) =
    IsCellOf c r n × IsNumber interval × (role ≡ role_of_interval (monitors c r) interval)
IsActionOf c (Operation op r n interval role) = IsCellOf c r n × (interval ≡ 0) × (role ≡ Started)
IsActionOf c (MigrateTo r source target) = IsCellOf c r source × (target < length c.nodes)
IsActionOf c (MigrateFrom r source target) = IsCellOf c r source × (target < length c.nodes)

-- an answer that may be taken in the cluster
abbrev pub IsAnswerOf : Cluster → Answer → Type 0
IsAnswerOf c (answer.End k code) = IsNumber k × (code < 256)
IsAnswerOf c (answer.Timeout k) = IsNumber k
IsAnswerOf c (answer.Lost n) = n < length c.nodes
IsAnswerOf c (answer.Up n) = n < length c.nodes
IsAnswerOf c (answer.Quorum now) = Unit {0}
IsAnswerOf c (answer.Wait seconds) = seconds < 2 ^ 40
IsAnswerOf c (answer.Report n r interval code) = IsCellOf c r n × IsNumber interval × (code < 256)

-- a target that a leaf has on a node
abbrev pub IsSomewhere : Target → Type 0
IsSomewhere Nowhere = ⊥
IsSomewhere _ = Unit {0}

-- a line that a run of the cluster can print: its numbers, leaves and nodes are in range, and the id of a rule that holds a leaf back is a name
abbrev pub IsLineOf : Cluster → RunLine → Type 0
IsLineOf c (line.Transition k) = IsNumber k
IsLineOf c (line.Pinned r pin) = r < length c.leaves
IsLineOf c (line.Goal r n target) = IsCellOf c r n × IsSomewhere target
IsLineOf c (line.Lacking r (Held id)) = (r < length c.leaves) × (is_name id ≡ true)
IsLineOf c (line.Lacking r reason) = r < length c.leaves
IsLineOf c (line.Begin k a) = IsNumber k × IsActionOf c a
IsLineOf c (line.Taken given) = IsAnswerOf c given
IsLineOf c (line.Complete k) = IsNumber k
IsLineOf c (line.Aborted k) = IsNumber k
IsLineOf c (line.Unexpected l) = IsNumber l

-- where a line says which rule holds a leaf back, its id is a name
abbrev pub IsLineNamed : RunLine → Type 0
IsLineNamed (line.Lacking r (Held id)) = is_name id ≡ true
IsLineNamed _ = Unit {0}

abbrev pub AreNamed : List RunTextLine → Type 0
AreNamed lines = AllByRecursion (λ (l : RunTextLine). IsLineNamed l.what) lines

-- lines with the numbers of the lines on which they stand, of which the first is given
abbrev pub with_line_numbers : ℕ → List RunLine → List RunTextLine
with_line_numbers l [] = []
with_line_numbers l (what ∷ more) = record { line = l; what = what } ∷ with_line_numbers (l + 1) more

-- the text of the lines is read as the same lines
pub record ReadsAgain (c : Cluster) (lines : List RunLine) : Type 0 where
  pub read : List Line
  pub are_lines : reads (flat_map (run_line c) lines) ≡ Ok read
  pub same : read_run_lines c read ≡ Ok (with_line_numbers 1 lines)
