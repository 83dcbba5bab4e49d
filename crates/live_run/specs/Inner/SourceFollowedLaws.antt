-- A source of answers that are read from lines has come from itself, and from what it came from on the way; and so has a writer of lines.
use Rattle.std.proofs.Common.{◌≡◌, ◌≢◌, ℕ, Bool, true, false, Option, Some, None, List, [], ◌∷◌, ◌++◌, option_map, append-nil, append_assoc, refl, ap, sym, subst, ◌∙◌}
use Rattle.std.proofs.lemmas.Grind.{flat_map-append}
use Rattle.cluster_io.proofs.Pieces.{Adds-then}
use Rattle.cluster_types.specs.declared.run.RunLine.{RunLine}
use Rattle.cluster_types.specs.Texts.{run_line}
use Rattle.cluster_io.proofs.Bearing.{Bears-none, Bears-then}
use Rattle.cluster_types.specs.declared.cluster.Cluster.{Cluster}
use Rattle.graph_exec.specs.declared.transition.outcomes.Next.{Next}
use Rattle.graph_exec.specs.declared.transition.outcomes.Next.TheVariants as next
use Rattle.input_reading.specs.declared.results.result_lines.ResultLine.{ResultLine}
use Rattle.live_run.specs.AnswersToCome.{Coming}
use Rattle.live_run.specs.Courses.{SourceState, has_course_ended, is_reading, coming_to}
use Rattle.live_run.specs.SourceFollowed.{NoneOrLastSays, SourceFollows, HasAnswered, HasBroken, HasQuestionFailed, HasCounted, HasFollowed, HasRead, HasSaid, HasStopped, IsStoppedBy, RestsBehind, SourceView, answers, by_line, by_source, last_line, results_first, stays}
use Rattle.live_run.specs.Ends.{run_lines_text}
use Rattle.live_run.specs.HeldAndWritten.{WritesInPart, GoesOut, HasFailedBehind, HasPut, HasWrittenLines, WriterView, last_text}
use Rattle.live_run.specs.Inner.Fronts.{adds_none, short_behind}
use Rattle.live_run.specs.declared.course.Course.{Course}
use Rattle.live_run.specs.declared.course.Course.TheVariants as course
use Rattle.live_run.specs.Inner.ReadLaws.{ends_then, near_then, read_then, stopped_then, told_joined}

pub reading_is : (k : Course) → is_reading k ≡ true → k ≡ course.Reading
reading_is course.Reading h = refl
reading_is course.Ended h = cc
reading_is (course.Stopped why times) h = cc

pub reading_not_ended : (k : Course) → is_reading k ≡ true → has_course_ended k ≡ false
reading_not_ended course.Reading h = refl
reading_not_ended course.Ended h = cc
reading_not_ended (course.Stopped why times) h = refl

last_joined : (line : ℕ) (given more : List ResultLine) → last_line line (given ++ more) ≡ last_line (last_line line given) more
last_joined line [] more = refl
last_joined line (result ∷ given) more = last_joined result.line given more

told_then : (given : List ResultLine) (f : List ℕ → Coming) (g : Coming) (before after : Option (List ℕ)) → option_map f before ≡ option_map (λ left. g) after
    → option_map (λ left. results_first given (f left)) before ≡ option_map (λ left. results_first given g) after
told_then given f g None None e = refl
told_then given f g None (Some v) e = cc
told_then given f g (Some u) None e = cc
told_then given f g (Some u) (Some v) e = ap (option_map (results_first given)) e

-- questions that were answered, and what comes behind them while it reads
module _ (a b d : SourceState) (x y z : Option (List ℕ)) (p : HasAnswered a b x y) (reading : is_reading b.course ≡ true) where
  rested : RestsBehind a b y p.lines p.bytes course.Reading
  rested = subst (λ (k : Course). RestsBehind a b y p.lines p.bytes k) (reading_is b.course reading) p.rests

  answered_then : HasAnswered b d y z → HasAnswered a d x z
  answered_then q = record {
    cluster_stays = q.cluster_stays ∙ p.cluster_stays;
    failed_stays = q.failed_stays ∙ p.failed_stays;
    lines = p.lines ++ q.lines;
    given = p.given ++ q.given;
    bytes = p.bytes ++ q.bytes;
    read = read_then a.cluster a.lines b.lines x y p.lines p.given p.bytes p.read d.lines z q.lines q.given q.bytes
        (subst (λ (c : Cluster). HasRead c b.lines d.lines y z q.lines q.given q.bytes) p.cluster_stays q.read);
    told = p.told ∙ told_joined p.given q.given (coming_to b) (coming_to d) y z q.told;
    line = q.line ∙ (ap (λ (n : ℕ). last_line n q.given) p.line ∙ sym (last_joined a.line p.given q.given));
    rests = by d.course q.rests;
  }
    where
      by : (k : Course) → RestsBehind b d z q.lines q.bytes k → RestsBehind a d z (p.lines ++ q.lines) (p.bytes ++ q.bytes) k
      by course.Reading r = (
        ends_then a.cluster a.lines b.lines x y p.lines p.given p.bytes p.read q.lines rested.0
            (subst (λ (c : Cluster). NoneOrLastSays c b.lines q.lines) p.cluster_stays r.0),
        near_then a.cluster a.lines b.lines x y p.lines p.given p.bytes p.read q.lines q.bytes rested.1 r.1,
      )
      by course.Ended r = r
      by (course.Stopped w times) r = absurd r

  broken_then : HasBroken b d y z → HasBroken a d x z
  broken_then q = record {
    lines = p.lines ++ q.lines;
    given = p.given ++ q.given;
    bytes = p.bytes ++ q.bytes;
    read = read_then a.cluster a.lines b.lines x y p.lines p.given p.bytes p.read d.lines z q.lines q.given q.bytes
        (subst (λ (c : Cluster). HasRead c b.lines d.lines y z q.lines q.given q.bytes) p.cluster_stays q.read);
    told = p.told ∙ told_joined p.given q.given (coming_to b) (coming_to d) y z q.told;
    not_ended = q.not_ended;
    unfinished = q.unfinished;
    undecided = q.undecided;
    why = q.why;
  }

  stops_then : HasStopped b d y z → HasStopped a d x z
  stops_then q = record {
    why = q.why;
    last = q.last;
    stop = q.stop;
    given = p.given ++ q.given;
    told = p.told ∙ told_then p.given (coming_to b) (record { results = q.given; stop = Some q.why }) y z q.told;
    by = stopped_then a.cluster a.lines b.lines x y p.lines p.given p.bytes p.read z q.given q.why rested.1
        (subst (λ (c : Cluster). IsStoppedBy c b.lines y z q.given q.why) p.cluster_stays q.by);
  }

follows_then : (a b d : SourceState) (x y z : Option (List ℕ)) → SourceFollows a b x y → SourceFollows b d y z → SourceFollows a d x z
follows_then a b d x y z (stays e f) q = subst (λ (s : SourceState). SourceFollows s d x z) e (subst (λ (o : Option (List ℕ)). SourceFollows b d o z) f q)
follows_then a b d x y z (answers r p) (stays e f) = subst (λ (s : SourceState). SourceFollows a s x z) (sym e) (subst (λ (o : Option (List ℕ)). SourceFollows a b x o) (sym f) (answers r p))
follows_then a b d x y z (answers r p) (answers s q) = answers r (answered_then a b d x y z p s q)

module _ (exact : Bool) where
  read_behind : (failed : Type 0) (a b d : SourceView) → HasCounted exact ⊥ a b → HasCounted exact failed b d → HasCounted exact failed a d
  read_behind failed a b d p q = record {
    bears = Bears-then exact ⊥ failed a.faults b.faults d.faults (λ none. none) p.bears q.bears;
    same_source = q.same_source ∙ p.same_source;
  }

  pub followed_itself : (v : SourceView) → HasFollowed exact v v
  followed_itself v = record { follows = stays refl refl; counts = record { bears = Bears-none exact ⊥ v.faults (λ none. none); same_source = refl } }

  pub followed_then : (a b d : SourceView) → HasFollowed exact a b → HasFollowed exact b d → HasFollowed exact a d
  followed_then a b d p q = record {
    follows = follows_then a.state b.state d.state a.left b.left d.left p.follows q.follows;
    counts = read_behind ⊥ a b d p.counts q.counts;
  }

  pub followed_said : (a b : SourceView) (brought : Next) → brought ≢ next.Failed → HasSaid exact a b brought → HasFollowed exact a b
  followed_said a b (next.Answer given) other s = s
  followed_said a b next.Silent other s = s.0
  followed_said a b next.Failed other s = absurd (other refl)

  failed_then : (a b d : SourceView) → HasAnswered a.state b.state a.left b.left → HasCounted exact ⊥ a b → is_reading b.state.course ≡ true → HasQuestionFailed exact b d
      → HasQuestionFailed exact a d
  failed_then a b d p n reading (by_source h failed) =
      by_source (broken_then a.state b.state d.state a.left b.left d.left p reading h) (read_behind (Unit {0}) a b d n failed)
  failed_then a b d p n reading (by_line h m) =
      by_line (stops_then a.state b.state d.state a.left b.left d.left p reading h) (read_behind ⊥ a b d n m)

  -- where it stands after questions that were answered, it reads or has ended
  reads_or_ends : (a b : SourceState) (after : Option (List ℕ)) (lines : List (List (List ℕ))) (bytes : List ℕ) (k : Course) → RestsBehind a b after lines bytes k → has_course_ended k ≡ false → is_reading k ≡ true
  reads_or_ends a b after lines bytes course.Reading r h = refl
  reads_or_ends a b after lines bytes course.Ended r h = cc
  reads_or_ends a b after lines bytes (course.Stopped w times) r h = absurd r

  failed_later : (a b d : SourceView) → (f : SourceFollows a.state b.state a.left b.left) → HasCounted exact ⊥ a b → HasSaid exact b d next.Failed → HasSaid exact a d next.Failed
  failed_later a b d (stays e f) n s = (
    subst (λ (t : SourceState). has_course_ended t.course ≡ false) e s.0,
    λ reading. same_failed (s.1 (subst (λ (t : SourceState). is_reading t.course ≡ true) (sym e) reading)),
  )
    where
      same_failed : HasQuestionFailed exact b d → HasQuestionFailed exact a d
      same_failed (by_source h failed) =
          by_source (subst (λ (t : SourceState). HasBroken t d.state a.left d.left) e (subst (λ (o : Option (List ℕ)). HasBroken b.state d.state o d.left) f h))
          (read_behind (Unit {0}) a b d n failed)
      same_failed (by_line h m) =
          by_line (subst (λ (t : SourceState). HasStopped t d.state a.left d.left) e (subst (λ (o : Option (List ℕ)). HasStopped b.state d.state o d.left) f h))
          (read_behind ⊥ a b d n m)
  failed_later a b d (answers r p) n s = (
    reading_not_ended a.state.course r,
    λ reading.
        let on = reads_or_ends a.state b.state b.left p.lines p.bytes b.state.course p.rests s.0 in
        failed_then a b d p n on (s.1 on),
  )

  pub said_behind : (a b d : SourceView) (brought : Next) → HasFollowed exact a b → HasSaid exact b d brought → HasSaid exact a d brought
  said_behind a b d (next.Answer given) f s = followed_then a b d f s
  said_behind a b d next.Silent f s = (followed_then a b d f s.0, s.1)
  said_behind a b d next.Failed f s = failed_later a b d f.follows f.counts s

-- what a writer has written: one text is added, and then another
module _ (first rest held held_then : List ℕ) (before middle : Option (List ℕ)) (a : GoesOut first held held_then before middle) where
  behind_first : held ++ (first ++ rest) ≡ a.out ++ (held_then ++ rest)
  behind_first =
      sym (append_assoc held first rest) ∙ (ap (λ (t : List ℕ). t ++ rest) a.parts ∙ append_assoc a.out held_then rest)

  pub goes_then : (held_now : List ℕ) (after : Option (List ℕ)) → GoesOut rest held_then held_now middle after → GoesOut (first ++ rest) held held_now before after
  goes_then held_now after b = record {
    out = a.out ++ b.out;
    parts = behind_first ∙ (ap (λ (t : List ℕ). a.out ++ t) b.parts ∙ sym (append_assoc a.out b.out held_now));
    written = Adds-then before middle after a.out b.out a.written b.written;
  }

  -- or the sink fails behind it
  fails_then : (last : List ℕ) (after : Option (List ℕ)) → WritesInPart (held_then ++ rest) last middle after → WritesInPart (held ++ (first ++ rest)) last before after
  fails_then last after c =
      short_behind (first ++ rest) held (held_then ++ rest) last before middle after (record { out = a.out; parts = behind_first; written = a.written }) c

put_then : (exact : Bool) (failed : Type 0) (f g h l m n : ℕ) → HasPut exact ⊥ f g l m → HasPut exact failed g h m n → HasPut exact failed f h l n
put_then exact failed f g h l m n a b = record {
  bears = Bears-then exact ⊥ failed f g h (λ none. none) a.bears b.bears;
  same_sink = b.same_sink ∙ a.same_sink;
}

pub lines_itself : (exact : Bool) (v : WriterView) → HasWrittenLines exact v v []
lines_itself exact v = record {
  names_stay = refl;
  put = record { bears = Bears-none exact ⊥ v.faults (λ none. none); same_sink = refl };
  text = record { out = []; parts = append-nil v.held; written = adds_none v.written };
}

module _ (exact : Bool) (first middle last : WriterView) (lines more : List RunLine) (a : HasWrittenLines exact first middle lines) where
  text_joined : run_lines_text first.names (lines ++ more) ≡ run_lines_text first.names lines ++ run_lines_text middle.names more
  text_joined =
      flat_map-append (run_line first.names) lines more ∙ ap (λ (c : Cluster). run_lines_text first.names lines ++ run_lines_text c more) (sym a.names_stay)

  pub lines_then : HasWrittenLines exact middle last more → HasWrittenLines exact first last (lines ++ more)
  lines_then b = record {
    names_stay = b.names_stay ∙ a.names_stay;
    put = put_then exact ⊥ first.faults middle.faults last.faults first.loan middle.loan last.loan a.put b.put;
    text = subst (λ (t : List ℕ). GoesOut t first.held last.held first.written last.written) (sym text_joined)
        (goes_then (run_lines_text first.names lines) (run_lines_text middle.names more) first.held middle.held first.written middle.written a.text last.held last.written b.text);
  }

  -- wherever a writer stops, it does so behind what came before
  pub lines_later : (at : Option RunLine) → HasFailedBehind exact middle last more at → HasFailedBehind exact first last (lines ++ more) at
  lines_later at b = record {
    names_stay = b.names_stay ∙ a.names_stay;
    put = put_then exact (Unit {0}) first.faults middle.faults last.faults first.loan middle.loan last.loan a.put b.put;
    text = subst (λ (t : List ℕ). WritesInPart (first.held ++ t) (last_text first.names at) first.written last.written) (sym text_joined)
        (subst (λ (c : Cluster). WritesInPart (first.held ++ (run_lines_text first.names lines ++ run_lines_text middle.names more)) (last_text c at) first.written last.written) a.names_stay
        (fails_then (run_lines_text first.names lines) (run_lines_text middle.names more) first.held middle.held first.written middle.written a.text
        (last_text middle.names at) last.written b.text));
  }
