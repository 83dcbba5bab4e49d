-- What a logical line says, as it is read.
use Rattle.std.specs.Prelude.{◌≡◌, ◌+◌, ◌^◌, ◌<◌, true}
use Rattle.cluster_types.specs.AnswersThatApply.{seconds_in}
use Rattle.live_run.specs.declared.place.Place.{Place}
use Rattle.live_run.specs.declared.line_saying.Said.{Said}
use Rattle.live_run.specs.declared.line_saying.Said.TheVariants as said
use Rattle.live_run.specs.LineSays.{is_last}

-- a line at a place may say this: an answer is in time and among the first 10,000 result lines
abbrev pub SaidFits : Place → Said → Type 0
SaidFits at said.Nothing = Unit {0}
SaidFits at (said.Answer given) = (at.before < 10000) × (at.moment + seconds_in given < 2 ^ 40)
SaidFits at (said.Stop why) = is_last why ≡ true
