-- Which answers a run over result lines was given, and what was asked for by then.
use Rattle.std.proofs.Common.{◌≡◌, ◌⊎◌, inl, inr, ℕ, Option, Some, None, List, [], ◌∷◌, ◌++◌, is_none, map, option_map, IfSome, append_assoc, append-nil, refl, ap, sym, subst, ◌∙◌}
use Rattle.std.proofs.lemmas.List.{append_cancel_right, map-append}
use Rattle.std.proofs.lemmas.Option.{same_Some}
use Rattle.cluster_io.specs.Readings.{Reading}
use Rattle.cluster_types.specs.declared.cluster.Cluster.{Cluster}
use Rattle.cluster_types.specs.declared.journal.Answer.{Answer}
use Rattle.cluster_types.specs.declared.journal.Event.{Event}
use Rattle.cluster_types.specs.declared.journal.Journal.{Journal}
use Rattle.cluster_types.specs.declared.run.RunLine.{RunLine}
use Rattle.cluster_types.specs.Journals.{moment_of}
use Rattle.cluster_types.specs.Runs.{due, IsCutRun}
use Rattle.crm_lex.specs.RawLines.{raw_lines}
use Rattle.live_run.specs.AnswersToCome.{Coming, coming, no_more}
use Rattle.live_run.specs.Courses.{SourceState, answers_to_come, in_course, rest_of, starting, coming_to, told_by}
use Rattle.live_run.specs.SourceFollowed.{SourceFollows, HasAnswered, RestsBehind, answers, last_line, results_first, said_by, stays}
use Rattle.live_run.specs.declared.course.Course.{Course}
use Rattle.live_run.specs.declared.course.Course.TheVariants as course
use Rattle.live_run.specs.Ends.{CutRunGives}
use Rattle.live_run.specs.RunReached.{WasAskedFor, WasAllAskedFor, results_behind}
use Rattle.live_run.proofs.Behind.{answer_in, runs_back, says_next, last_one, line_of_last}
use Rattle.input_reading.specs.declared.results.result_lines.ResultLine.{ResultLine}
use Rattle.run_safety.specs.TwoRuns.{IsFront}

module _ (c : Cluster) (journal : Journal) (reading : Reading) where
  abbrev start : SourceState
  start = starting c (moment_of journal.events) reading

  module _ (left : List ℕ) (after : Option (List ℕ)) (t : SourceState) where
    abbrev results : Coming
    results = results_behind c journal reading left

    -- what some questions that were answered have asked for
    asked_by : (p : HasAnswered start t (Some left) after)
        → WasAskedFor c journal reading left after (record { results = p.given; stop = None }) ⊎ WasAllAskedFor c journal reading left after (record { results = p.given; stop = None })
    asked_by p = by t.course refl p.rests
      where
        said : said_by c start.lines p.lines ≡ record { results = p.given; stop = None }
        said =
            ap (said_by c start.lines) (sym (append-nil p.lines)) ∙ (p.read.answered []
            ∙ ap (λ (rs : List ResultLine). record { results = rs; stop = None }) (append-nil p.given))

        first : (o : Option (List ℕ)) → Some (raw_lines (reading.held ++ left)) ≡ option_map (λ rest. p.lines ++ raw_lines (t.lines.reading.held ++ rest)) o
            → IsFront p.lines (raw_lines (reading.held ++ left))
        first None e = cc
        first (Some rest) e = record { more = raw_lines (t.lines.reading.held ++ rest); joined = cc }

        all : (o : Option (List ℕ)) → t.course ≡ course.Ended → IfSome o (λ (rest : List ℕ). rest ≡ []) → Some results ≡ option_map (λ rest. results_first p.given (coming_to t rest)) o
            → o ≡ after → WasAllAskedFor c journal reading left after (record { results = p.given; stop = None })
        all None k h e o = cc
        all (Some rest) k h e o =
            let ended : coming_to t rest ≡ no_more None = ap (λ (x : Course). in_course x (to_come_reading rest)) k in
            record {
              all = same_Some results (results_first p.given (coming_to t rest)) e
                  ∙ (ap (results_first p.given) ended ∙ ap (λ (rs : List ResultLine). record { results = rs; stop = None }) (append-nil p.given));
              unstopped = refl;
              none_left = sym o ∙ ap Some h;
            }
          where
            to_come_reading : List ℕ → Coming
            to_come_reading rest = coming t.cluster t.lines.reading.longest t.lines.reading.room t.lines.at (raw_lines (t.lines.reading.held ++ rest))

        by : (k : Course) → t.course ≡ k → RestsBehind start t after p.lines p.bytes k
            → WasAskedFor c journal reading left after (record { results = p.given; stop = None }) ⊎ WasAllAskedFor c journal reading left after (record { results = p.given; stop = None })
        by course.Reading e r = inl (record { lines = p.lines; first = first after p.read.cut; said = said; ends = r.0; bytes = p.bytes; taken = p.read.taken; near = r.1 })
        by course.Ended e r = inr (all after e r.none_left p.told refl)
        by (course.Stopped w times) e r = absurd r

    nothing_asked : after ≡ Some left → WasAskedFor c journal reading left after (record { results = []; stop = None })
    nothing_asked e = record {
      lines = [];
      first = record { more = raw_lines (reading.held ++ left); joined = refl };
      said = refl;
      ends = inl refl;
      bytes = [];
      taken = sym (ap (option_map (λ (x : List ℕ). [] ++ x)) e);
      near = inl refl;
    }

    -- which answers were given, and what is to come behind them
    pub record Given : Type 0 where
      pub given : List ResultLine
      pub behind : List ResultLine
      pub split : results.results ≡ given ++ behind
      pub rest : rest_of (told_by t after) ≡ Some (map answer_in behind)
      pub line : t.line ≡ last_line 0 given
      pub read : WasAskedFor c journal reading left after (record { results = given; stop = None }) ⊎ WasAllAskedFor c journal reading left after (record { results = given; stop = None })

    pub given_by : SourceFollows start t (Some left) after → Given
    given_by (stays e f) = record {
      given = [];
      behind = results.results;
      split = refl;
      rest = ap (λ (s : SourceState). rest_of (told_by s after)) e ∙ ap (λ (o : Option (List ℕ)). rest_of (told_by start o)) f;
      line = ap (λ (s : SourceState). s.line) e;
      read = inl (nothing_asked f);
    }
    given_by (answers r p) = on after refl p.told
      where
        on : (o : Option (List ℕ)) → o ≡ after → Some results ≡ option_map (λ rest. results_first p.given (coming_to t rest)) o → Given
        on None o e = cc
        on (Some rest) o e =
            let whole = same_Some results (results_first p.given (coming_to t rest)) e in
            record {
              given = p.given;
              behind = (coming_to t rest).results;
              split = ap (λ (x : Coming). x.results) whole;
              rest = ap (λ (x : Option (List ℕ)). rest_of (told_by t x)) (sym o);
              line = p.line;
              read = asked_by p;
            }

    -- the run is cut by the last of them
    pub record CutBy (lines : List RunLine) : Type 0 where
      pub given : List ResultLine
      pub result : ResultLine
      pub run : CutRunGives c journal results lines given result
      pub line : t.line ≡ result.line
      pub read : WasAskedFor c journal reading left after (record { results = given ++ result ∷ []; stop = None })
          ⊎ WasAllAskedFor c journal reading left after (record { results = given ++ result ∷ []; stop = None })

    pub cut_by : (lines : List RunLine) (journal_now : List Event) (a : Answer) → IsCutRun c journal.promotions (is_none results.stop) journal.events (Some (answers_to_come results)) lines journal_now a
        (rest_of (told_by t after)) → SourceFollows start t (Some left) after → CutBy lines
    cut_by lines journal_now a run follows =
        let g = given_by follows in
        let unread = runs_back c journal.promotions (is_none results.stop) (due 1 journal.events) run.last (Some (answers_to_come results)) run.unread lines (answers_to_come results) run.steps refl in
        let next = says_next (is_none results.stop) run.unread (rest_of (told_by t after)) a unread.back run.cut.said unread.is in
        let back : next.back ≡ map answer_in g.behind = same_Some next.back (map answer_in g.behind) (sym next.is ∙ g.rest) in
        let front : unread.back ≡ a ∷ next.back = same_Some unread.back (a ∷ next.back) (sym unread.is ∙ next.front) in
        let one : answers_to_come results ≡ (unread.taken ++ a ∷ []) ++ map answer_in g.behind
        = unread.joined ∙ (ap (λ (x : List Answer). unread.taken ++ x) (front ∙ ap (λ (x : List Answer). a ∷ x) back)
        ∙ sym (append_assoc unread.taken (a ∷ []) (map answer_in g.behind))) in
        let other : answers_to_come results ≡ map answer_in g.given ++ map answer_in g.behind
        = ap (map answer_in) g.split ∙ map-append answer_in g.given g.behind in
        let same = append_cancel_right (map answer_in g.given) (unread.taken ++ a ∷ []) (map answer_in g.behind) (sym other ∙ one) in
        let l = last_one g.given unread.taken a same in
        record {
          given = l.before;
          result = l.last;
          run = record {
            journal_now = journal_now;
            behind = g.behind;
            parts = g.split ∙ (ap (λ (x : List ResultLine). x ++ g.behind) l.joined ∙ append_assoc l.before (l.last ∷ []) g.behind);
            run = subst (λ (x : Answer). IsCutRun c journal.promotions (is_none results.stop) journal.events (Some (answers_to_come results)) lines journal_now x (Some (map answer_in g.behind))) (sym l.is)
                (subst (λ (o : Option (List Answer)). IsCutRun c journal.promotions (is_none results.stop) journal.events (Some (answers_to_come results)) lines journal_now a o) g.rest run);
          };
          line = g.line ∙ (ap (last_line 0) l.joined ∙ line_of_last 0 l.before l.last);
          read = subst (λ (rs : List ResultLine). WasAskedFor c journal reading left after (record { results = rs; stop = None })
              ⊎ WasAllAskedFor c journal reading left after (record { results = rs; stop = None })) l.joined g.read;
        }
