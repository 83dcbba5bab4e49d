-- What one question to a source of answers means for whoever asks.
use Rattle.std.proofs.Common.{◌≡◌, ℕ, true, Option, Some, None, List, option_map, refl, ap, sym}
use Rattle.cluster_types.specs.declared.journal.Answer.{Answer}
use Rattle.cluster_types.specs.Sources.{Says, told, used_up, untold}
use Rattle.graph_exec.specs.SourceDuties.{GivesNext}
use Rattle.graph_exec.specs.declared.transition.outcomes.Next.{Next}
use Rattle.graph_exec.specs.declared.transition.outcomes.Next.TheVariants as next
use Rattle.live_run.specs.AnswersToCome.{Coming, coming_of, no_more, result_first}
use Rattle.live_run.specs.Courses.{CourseAnswers, SourceState, answers_to_come, has_course_ended, in_course, rest_of, coming_to, told_by, whole_of}
use Rattle.live_run.specs.declared.course.Course.{Course}
use Rattle.live_run.specs.declared.course.Course.TheVariants as course
use Rattle.live_run.specs.declared.line_stop.LineStop.{LineStop}
use Rattle.live_run.specs.declared.line_stop.LineStop.TheVariants.{ReadFault, TooLarge, Refused}
use Rattle.live_run.specs.LineSays.{is_last}

ended_is : (k : Course) → has_course_ended k ≡ true → k ≡ course.Ended
ended_is course.Reading h = cc
ended_is course.Ended h = refl
ended_is (course.Stopped why times) h = cc

ended_told : (s : SourceState) (left : Option (List ℕ)) → has_course_ended s.course ≡ true → told_by s left ≡ option_map (λ (bytes : List ℕ). no_more None) left
ended_told s left h = ap (λ (k : Course). option_map (λ (bytes : List ℕ). in_course k (coming_of s.cluster s.lines bytes)) left) (ended_is s.course h)

-- for whoever asks: the first of the answers to come, or nothing where none is to come
answer_given : (old : Option Coming) (new : SourceState) (after : Option (List ℕ)) (given : Answer)
    → old ≡ option_map (λ left. result_first (record { line = new.line; answer = given }) (coming_to new left)) after
    → (Says (whole_of old) (rest_of old) (Some given) (rest_of (told_by new after))) × (whole_of (told_by new after) ≡ whole_of old)
answer_given old new None given e = rw e (untold (Some given), refl)
answer_given old new (Some left) given e = rw e (told given (answers_to_come (coming_to new left)), refl)

silence_given : (old : Option Coming) (new : SourceState) (after : Option (List ℕ)) → old ≡ told_by new after → has_course_ended new.course ≡ true
    → Says (whole_of old) (rest_of old) None (rest_of (told_by new after))
silence_given old new after e h = rw (e, ended_told new after h) (on after)
  where
    on : (left : Option (List ℕ)) → Says (whole_of (option_map (λ (bytes : List ℕ). no_more None) left)) (rest_of (option_map (λ (bytes : List ℕ). no_more None) left)) None
        (rest_of (option_map (λ (bytes : List ℕ). no_more None) left))
    on None = untold None
    on (Some bytes) = used_up refl

module _ (old new : SourceState) (before after : Option (List ℕ)) where
  pub gives : (said : Next) → CourseAnswers said old new before after
      → GivesNext (whole_of (told_by old before)) (rest_of (told_by old before)) (rest_of (told_by new after)) said
  gives (next.Answer given) a = (answer_given (told_by old before) new after given a.0).0
  gives next.Silent a = silence_given (told_by old before) new after a.0 a.1
  gives next.Failed a = ap rest_of (sym a.0)

-- a line that is refused or goes past the limit is no fault of the source
pub last_no_fault : (why : LineStop) → is_last why ≡ true → Some why ≡ Some ReadFault → ⊥
last_no_fault ReadFault last e = cc
last_no_fault TooLarge last e = cc
last_no_fault (Refused line cause) last e = cc
