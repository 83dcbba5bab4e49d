-- What a line says fits its place.
use Rattle.std.proofs.Common.{◌≡◌, ◌+◌, ◌<◌, ◌^◌, true, Result, Ok, Err, IfOk, refl}
use Rattle.cluster_types.specs.declared.journal.Answer.{Answer}
use Rattle.faults.specs.declared.fault.Fault.{Fault}
use Rattle.faults.specs.declared.fault.Fault.TheVariants.{At, NoMemory}
use Rattle.cluster_types.specs.AnswersThatApply.{seconds_in}
use Rattle.input_reading.specs.declared.history_fault.ResultCause.{ResultCause}
use Rattle.live_run.specs.LineSays.{answer_says, is_last, refused_for}
use Rattle.live_run.specs.Inner.LineFits.{SaidFits}
use Rattle.live_run.specs.declared.line_stop.LineCause.{LineCause}
use Rattle.live_run.specs.declared.line_stop.LineCause.TheVariants as cause
use Rattle.live_run.specs.declared.place.Place.{Place}

-- a line that is refused is the last
pub refused_last : {C : Type 0} (cause_of : C → LineCause) (fault : Fault C) → is_last (refused_for cause_of fault) ≡ true
refused_last cause_of (At line why) = refl
refused_last cause_of NoMemory = refl

-- an answer that is read is in time, and among the first 10,000 result lines
pub read_fits : (at : Place) (read : Result Answer (Fault ResultCause)) → IfOk read (λ _. at.before < 10000)
    → IfOk read (λ given. at.moment + seconds_in given < 2 ^ 40) → SaidFits at (answer_says read)
read_fits at (Ok given) few within = (few, within)
read_fits at (Err fault) few within = refused_last cause.Form fault
