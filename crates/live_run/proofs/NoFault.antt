-- What is to come of lines says never that the source of bytes has failed.
use Rattle.std.proofs.Common.{◌≡◌, ◌≢◌, ℕ, ◌-◌, true, Some, Result, Ok, Err, List, [], ◌∷◌, length, refl}
use Rattle.std.specs.List.{concat}
use Rattle.cluster_io.specs.NextLine.{line_answer}
use Rattle.cluster_io.specs.declared.line_step.LineStep.{LineStep}
use Rattle.cluster_io.specs.declared.line_step.LineStep.TheVariants as step
use Rattle.cluster_types.specs.declared.cluster.Cluster.{Cluster}
use Rattle.cluster_types.specs.declared.journal.Answer.{Answer}
use Rattle.crm_lex.specs.Reading.{reads_line}
use Rattle.crm_lex.specs.declared.fault.LexCause.{LexCause}
use Rattle.faults.specs.declared.fault.Fault.{Fault}
use Rattle.input_reading.specs.Results.{result_of}
use Rattle.input_reading.specs.declared.history_fault.ResultCause.{ResultCause}
use Rattle.live_run.specs.AnswersToCome.{Coming, coming, said_first}
use Rattle.live_run.specs.LineSays.{answer_says, is_last, line_says_within, place_behind_said, read_says, sized_says, words_say}
use Rattle.live_run.specs.declared.line_stop.LineCause.TheVariants as cause
use Rattle.live_run.specs.declared.line_stop.LineStop.TheVariants as why
use Rattle.live_run.specs.declared.place.Place.{Place}
use Rattle.live_run.specs.declared.line_saying.Said.{Said}
use Rattle.live_run.specs.declared.line_saying.Said.TheVariants as said
use Rattle.live_run.proofs.Asked.{last_no_fault}
use Rattle.live_run.proofs.Fitting.{refused_last}

-- what a line says is no fault of the source
abbrev SaysNoFault : Said → Type 0
SaysNoFault (said.Stop w) = is_last w ≡ true
SaysNoFault _ = Unit {0}

answer_no_fault : (read : Result Answer (Fault ResultCause)) → SaysNoFault (answer_says read)
answer_no_fault (Ok given) = tt
answer_no_fault (Err fault) = refused_last cause.Form fault

words_no_fault : (c : Cluster) (at : Place) (words : List (List ℕ)) → SaysNoFault (words_say c at words)
words_no_fault c at [] = tt
words_no_fault c at (word ∷ words) = answer_no_fault (result_of c at.moment at.before at.line (word ∷ words))

read_no_fault : (c : Cluster) (at : Place) (read : Result (List (List ℕ)) (Fault LexCause)) → SaysNoFault (read_says c at read)
read_no_fault c at (Ok words) = words_no_fault c at words
read_no_fault c at (Err fault) = refused_last cause.Words fault

sized_no_fault : (c : Cluster) (at : Place) (size : LineStep) (lines : List (List ℕ)) → SaysNoFault (sized_says c at size lines)
sized_no_fault c at step.Line lines = read_no_fault c at (reads_line at.line (concat lines))
sized_no_fault c at step.End lines = refl
sized_no_fault c at step.TooLong lines = refl
sized_no_fault c at step.TooLarge lines = refl
sized_no_fault c at step.Failed lines = refl

first_no_fault : (at : Place) (says : Said) (others : Coming) → SaysNoFault says → others.stop ≢ Some why.ReadFault → (said_first at says others).stop ≢ Some why.ReadFault
first_no_fault at said.Nothing others h none = none
first_no_fault at (said.Answer given) others h none = none
first_no_fault at (said.Stop w) others h none = last_no_fault w h

pub coming_no_fault : (c : Cluster) (longest room : ℕ) (at : Place) (lines : List (List (List ℕ))) → (coming c longest room at lines).stop ≢ Some why.ReadFault
coming_no_fault c longest room at [] = λ e. cc
coming_no_fault c longest room at (lines ∷ more) =
    let says = line_says_within c longest room at lines in
    let next = place_behind_said at says (length lines) in
    let left = room - length (concat lines) in
    first_no_fault at says (coming c longest left next more) (sized_no_fault c at (line_answer room longest lines) lines) (coming_no_fault c longest left next more)
