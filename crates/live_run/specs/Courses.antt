-- Where a source of answers stands that are read from lines, and what one question to it brings (rule of this project).
use Rattle.std.specs.Prelude.{◌≡◌, ℕ, ◌+◌, Bool, true, false, if◌then◌else◌, Option, Some, None, List, map, option_map, is_none}
use Rattle.std.specs.Option.{option_map_or}
use Rattle.cluster_io.specs.Readings.{Reading}
use Rattle.cluster_types.specs.declared.cluster.Cluster.{Cluster}
use Rattle.cluster_types.specs.declared.journal.Answer.{Answer}
use Rattle.graph_exec.specs.declared.transition.outcomes.Next.{Next}
use Rattle.graph_exec.specs.declared.transition.outcomes.Next.TheVariants as next
use Rattle.input_reading.specs.declared.results.result_lines.ResultLine.{ResultLine}
use Rattle.live_run.specs.AnswersToCome.{Coming, LineReaderAt, coming_of, no_more, result_first}
use Rattle.live_run.specs.LineSays.{is_last}
use Rattle.live_run.specs.declared.course.Course.{Course}
use Rattle.live_run.specs.declared.course.Course.TheVariants as course
use Rattle.live_run.specs.declared.line_stop.LineStop.{LineStop}
use Rattle.live_run.specs.declared.line_stop.LineStop.TheVariants.{ReadFault}

-- where a source of answers stands
pub record SourceState : Type 0 where
  -- by its names of nodes and leaves the lines are read
  pub cluster : Cluster
  -- the place of the next line, and the bytes that are held
  pub lines : LineReaderAt
  -- whether it goes on: it reads, its input has ended, or a line has stopped it, with the reason and how often that was said
  pub course : Course
  -- the number of the line of its last answer; 0 before the first
  pub line : ℕ
  -- its source of bytes has failed
  pub failed : Bool

-- no answer was given yet, and the next line is taken at a moment
abbrev pub starting : Cluster → ℕ → Reading → SourceState
starting c moment reading = record {
  cluster = c;
  lines = record { at = record { moment = moment; before = 0; line = reading.next }; reading = reading };
  course = course.Reading;
  line = 0;
  failed = false;
}

-- nothing comes after the end, nor after a line that is refused or goes past the limit
abbrev pub in_course : Course → Coming → Coming
in_course course.Reading coming = coming
in_course course.Ended coming = no_more None
in_course (course.Stopped why times) coming = no_more (Some why)

-- what is to come, where so many bytes are left
abbrev pub coming_to : SourceState → List ℕ → Coming
coming_to s left = in_course s.course (coming_of s.cluster s.lines left)

-- the same, where the source of bytes tells what it has left
abbrev pub told_by : SourceState → Option (List ℕ) → Option Coming
told_by s left = option_map (coming_to s) left

-- the answers alone
abbrev pub answers_to_come : Coming → List Answer
answers_to_come coming = map (λ (result : ResultLine). result.answer) coming.results

-- the answers to come, where they are told
abbrev pub rest_of : Option Coming → Option (List Answer)
rest_of told = option_map answers_to_come told

-- no line is told that is refused or goes past the limit
abbrev pub whole_of : Option Coming → Bool
whole_of told = option_map_or (λ (coming : Coming). is_none coming.stop) told true

abbrev pub is_reading : Course → Bool
is_reading course.Reading = true
is_reading _ = false

abbrev pub has_course_ended : Course → Bool
has_course_ended course.Ended = true
has_course_ended _ = false

-- how often it has failed by a line that is refused or goes past the limit
abbrev pub times_stopped : Course → ℕ
times_stopped (course.Stopped why times) = times
times_stopped _ = 0

-- where it has stopped, it has by a line that is refused or goes past the limit
abbrev pub stops_last : Course → Bool
stops_last (course.Stopped why times) = is_last why
stops_last _ = true

-- why it failed the last time
abbrev pub why_stopped : Course → Bool → Option LineStop
why_stopped (course.Stopped why times) failed = Some why
why_stopped _ failed = if failed then Some ReadFault else None

abbrev pub stop_of : SourceState → Option LineStop
stop_of s = why_stopped s.course s.failed

-- how often it has failed, where its source of bytes has failed so often
abbrev pub faults_of : SourceState → ℕ → ℕ
faults_of s faults = faults + times_stopped s.course

-- what a question brings of what was to come. Silence comes at the end, and a failure leaves what is to come
abbrev pub CourseAnswers : Next → SourceState → SourceState → Option (List ℕ) → Option (List ℕ) → Type 0
CourseAnswers (next.Answer given) old new before after =
    (told_by old before ≡ option_map (λ left. result_first (record { line = new.line; answer = given }) (coming_to new left)) after)
    × (is_reading old.course ≡ true)
CourseAnswers next.Silent old new before after = (told_by old before ≡ told_by new after) × (has_course_ended new.course ≡ true)
CourseAnswers next.Failed old new before after = (told_by old before ≡ told_by new after) × (has_course_ended old.course ≡ false)

-- the line of the last answer, by what a question brought: it stays where no answer came
abbrev pub LineStays : Next → ℕ → ℕ → Type 0
LineStays (next.Answer given) before after = Unit {0}
LineStays next.Silent before after = after ≡ before
LineStays next.Failed before after = after ≡ before
