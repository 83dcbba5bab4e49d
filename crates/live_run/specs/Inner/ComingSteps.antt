-- What reading on brings of the result lines to come (follows from the definition of what is to come).
use Rattle.std.specs.Prelude.{◌≡◌, ℕ, Bool, true, false, Option, Some, None, List, option_map}
use Rattle.cluster_types.specs.declared.cluster.Cluster.{Cluster}
use Rattle.live_run.specs.LineSays.{is_last}
use Rattle.live_run.specs.declared.result_reader.Came.{Came}
use Rattle.live_run.specs.declared.result_reader.Came.TheVariants as came
use Rattle.live_run.specs.declared.line_saying.Said.{Said}
use Rattle.live_run.specs.declared.line_saying.Said.TheVariants as said
use Rattle.live_run.specs.AnswersToCome.{Coming, no_more, result_first, LineReaderAt, coming_of}

-- what is to come of these lines, where their source tells what it has left
abbrev pub told_coming : Cluster → LineReaderAt → Option (List ℕ) → Option Coming
told_coming c lines left = option_map (coming_of c lines) left

-- what came of reading on, and then what is still to come
abbrev pub came_first : Option Came → Coming → Coming
came_first (Some (came.Answer result)) others = result_first result others
came_first (Some came.End) others = no_more None
came_first (Some (came.Stop why)) others = no_more (Some why)
came_first _ others = others

-- reading on brought this of what was to come
abbrev pub Brings : Cluster → Option Came → LineReaderAt → LineReaderAt → Option (List ℕ) → Option (List ℕ) → Type 0
Brings c came old new before after = told_coming c old before ≡ option_map (λ left. came_first came (coming_of c new left)) after

-- what came of a line with this number that says this
abbrev pub said_came : ℕ → Said → Option Came
said_came line said.Nothing = None
said_came line (said.Answer given) = Some (came.Answer (record { line = line; answer = given }))
said_came line (said.Stop why) = Some (came.Stop why)

-- how many answers came
abbrev pub answers_in : Option Came → ℕ
answers_in (Some (came.Answer result)) = 1
answers_in _ = 0

-- whether lines can still be read
abbrev pub reads_on : Option Came → Bool
reads_on (Some (came.Stop why)) = false
reads_on _ = true

-- what stops the reading of lines is a line that is refused or goes past the limit
abbrev pub is_stop_last : Option Came → Bool
is_stop_last (Some (came.Stop why)) = is_last why
is_stop_last _ = true
