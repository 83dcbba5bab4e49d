-- Which intervals and exit codes the types of the program hold. Whatever is read or counted has them (rule of this project).
use Rattle.std.specs.Prelude.{◌^◌, ◌<◌, Option, Some, None, List, Contains}
use Rattle.std.specs.List.{AllByRecursion}
use Rattle.cluster_types.specs.declared.cluster.Cluster.{Cluster}
use Rattle.cluster_types.specs.declared.journal.Answer.{Answer}
use Rattle.cluster_types.specs.declared.leaf.Leaf.{Leaf}
use Rattle.cluster_types.specs.declared.leaf.Monitor.{Monitor as MonitorOf}
use Rattle.cluster_types.specs.declared.run.RunLine.{RunLine}
use Rattle.cluster_types.specs.declared.run.RunLine.TheVariants as line
use Rattle.input_reading.specs.ResultFields.{AnswerFieldsFit}

-- the interval of each monitor fits 32 bits
abbrev pub IntervalsFit : Cluster → Type 0
IntervalsFit c = (leaf : Leaf) (m : MonitorOf) → Contains c.leaves leaf → Contains leaf.monitors m → m.interval_ms < 2 ^ 32

-- the fields of the answer that a line tells are within their types
abbrev pub LineFits : RunLine → Type 0
LineFits (line.Taken given) = AnswerFieldsFit given
LineFits _ = Unit {0}

-- the fields of the answers of a run are within their types: of each that is to come, where they are told, and else of each that its lines tell
abbrev pub AnswersFit : Option (List Answer) → List RunLine → Type 0
AnswersFit (Some answers) lines = AllByRecursion AnswerFieldsFit answers
AnswersFit None lines = AllByRecursion LineFits lines
