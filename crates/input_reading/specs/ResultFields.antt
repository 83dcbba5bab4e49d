-- Which numbers the type of an answer holds. Each answer that is read has them (rule of this project).
use Rattle.std.specs.Prelude.{◌^◌, ◌<◌}
use Rattle.cluster_types.specs.declared.journal.Answer.{Answer}
use Rattle.cluster_types.specs.declared.journal.Answer.TheVariants as answer

-- the exit code of an answer is a byte, and the interval of a report has 32 bits
abbrev pub AnswerFieldsFit : Answer → Type 0
AnswerFieldsFit (answer.End k code) = code < 256
AnswerFieldsFit (answer.Report n r interval code) = (interval < 2 ^ 32) × (code < 256)
AnswerFieldsFit _ = Unit {0}
