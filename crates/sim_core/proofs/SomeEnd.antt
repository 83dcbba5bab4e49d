-- A run over result lines gets an end.
use Rattle.std.proofs.Common.{◌≡◌, ◌≢◌, ◌⊎◌, inl, inr, true, false, Option, Some, None, List, [], ◌∷◌, ◌++◌, is_none, map, refl, sym, ap, ◌∙◌, subst}
use Rattle.std.proofs.lemmas.Option.{same_Some}
use Rattle.cluster_types.specs.declared.cluster.Cluster.{Cluster}
use Rattle.cluster_types.specs.declared.journal.Answer.{Answer}
use Rattle.cluster_types.specs.declared.journal.Journal.{Journal}
use Rattle.cluster_types.specs.Runs.{due, IsCutRun}
use Rattle.cluster_types.specs.Valid.{IsValid}
use Rattle.input_reading.specs.declared.results.result_lines.ResultLine.{ResultLine}
use Rattle.live_run.proofs.Behind.{answer_in, runs_back, says_next}
use Rattle.live_run.specs.AnswersToCome.{Coming}
use Rattle.live_run.specs.Courses.{answers_to_come}
use Rattle.live_run.specs.Ends.{IsDueEnd}
use Rattle.live_run.specs.declared.line_stop.LineStop.{LineStop}
use Rattle.live_run.specs.declared.line_stop.LineStop.TheVariants as why
use Rattle.live_run.specs.declared.live_end.LiveEnd.{LiveEnd}
use Rattle.live_run.specs.declared.live_end.LiveEnd.TheVariants as end
use Rattle.planner.proofs.SomePlan.{actions, goals, is_plan}
use Rattle.written_runs.proofs.SomeRuns.{more_or_cut, whole_or_cut}
use Rattle.written_runs.specs.SomeEnds.{HasCutRun, HasRunSoFar, HasWholeRun}

-- the result line of an answer that stands among those to come
record HasLineAt (xs : List ResultLine) (given : Answer) (back : List Answer) : Type 0 where
  before : List ResultLine
  result : ResultLine
  behind : List ResultLine
  parts : xs ≡ before ++ result ∷ behind
  is : result.answer ≡ given
  rest : map answer_in behind ≡ back

line_at : (xs : List ResultLine) (front back : List Answer) (given : Answer) → map answer_in xs ≡ front ++ given ∷ back → HasLineAt xs given back
line_at [] [] back given e = cc
line_at [] (a ∷ front) back given e = cc
line_at (x ∷ xs) [] back given e = record { before = []; result = x; behind = xs; parts = refl; is = cc; rest = cc }
line_at (x ∷ xs) (a ∷ front) back given e =
    let tail : map answer_in xs ≡ front ++ given ∷ back = cc in
    let more = line_at xs front back given tail in
    record {
      before = x ∷ more.before;
      result = more.result;
      behind = more.behind;
      parts = ap (λ (t : List ResultLine). x ∷ t) more.parts;
      is = more.is;
      rest = more.rest;
    }

module _ (c : Cluster) (journal : Journal) (coming : Coming) where
  abbrev pub HasEnd : Type 0
  HasEnd = (how : LiveEnd) × IsDueEnd c journal coming how

  cut_ends : HasCutRun c journal.promotions journal.events (answers_to_come coming) (is_none coming.stop) → HasEnd
  cut_ends cut =
      let whole = is_none coming.stop in
      let told = answers_to_come coming in
      let unread = runs_back c journal.promotions whole (due 1 journal.events) cut.run.last (Some told) cut.run.unread cut.lines told cut.run.steps refl in
      let next = says_next whole cut.run.unread cut.behind cut.given unread.back cut.run.cut.said unread.is in
      let front : unread.back ≡ cut.given ∷ next.back = same_Some unread.back (cut.given ∷ next.back) (sym unread.is ∙ next.front) in
      let l = line_at coming.results unread.taken next.back cut.given (unread.joined ∙ ap (λ (t : List Answer). unread.taken ++ t) front) in
      let behind : cut.behind ≡ Some (map answer_in l.behind) = next.is ∙ ap (λ (t : List Answer). Some t) (sym l.rest) in (
        end.Unexpected,
        record {
          text = _;
          gets = record {
            lines = cut.lines;
            given = l.before;
            result = l.result;
            run = record {
              journal_now = cut.journal_now;
              behind = l.behind;
              parts = l.parts;
              run = subst (λ (x : Answer). IsCutRun c journal.promotions whole journal.events (Some told) cut.lines cut.journal_now x (Some (map answer_in l.behind))) (sym l.is)
                  (subst (λ (o : Option (List Answer)). IsCutRun c journal.promotions whole journal.events (Some told) cut.lines cut.journal_now cut.given o) behind cut.run);
            };
            printed = refl;
          };
        },
      )

  -- it is whole, cut, or asks for a line that is refused or goes past the limit
  pub some_end : IsValid c → coming.stop ≢ Some why.ReadFault → HasEnd
  some_end valid no_fault = by coming.stop refl
    where
      cut_where : (w : Option LineStop) → coming.stop ≡ w → HasCutRun c journal.promotions journal.events (answers_to_come coming) (is_none w) → HasEnd
      cut_where w e cut = cut_ends (subst (λ z. HasCutRun c journal.promotions journal.events (answers_to_come coming) (is_none z)) (sym e) cut)

      all : coming.stop ≡ None → HasWholeRun c journal.promotions journal.events (answers_to_come coming) ⊎ HasCutRun c journal.promotions journal.events (answers_to_come coming) true → HasEnd
      all e (inl run) =
          (end.Done, record { text = _; gets = record { lines = run.lines; run = record { journal_now = run.journal_now; all = e; run = run.run }; printed = refl } })
      all e (inr cut) = cut_where None e cut

      more : (w : LineStop) → coming.stop ≡ Some w → w ≢ why.ReadFault → HasRunSoFar c journal.promotions journal.events (answers_to_come coming) ⊎ HasCutRun c journal.promotions journal.events (answers_to_come coming) false
          → HasEnd
      more w e ends (inr cut) = cut_where (Some w) e cut
      more why.ReadFault e ends (inl run) = absurd (ends refl)
      more why.TooLarge e ends (inl run) =
          (end.TooLarge, record { text = _; gets = record { lines = run.lines; stop = e; run = record { journal_now = run.journal_now; run = run.run }; printed = refl } })
      more (why.Refused n refusal) e ends (inl run) = (
        end.Refused,
        record { text = _; gets = record { lines = run.lines; line = n; cause = refusal; stop = e; run = record { journal_now = run.journal_now; run = run.run }; printed = refl } },
      )

      by : (w : Option LineStop) → coming.stop ≡ w → HasEnd
      by None e =
          all e (whole_or_cut c journal.promotions (λ es. goals c valid es journal.promotions) (λ es. actions c valid es journal.promotions) (λ es. is_plan c valid es journal.promotions)
          journal.events (answers_to_come coming))
      by (Some w) e =
          more w e (λ is. no_fault (e ∙ ap (λ (v : LineStop). Some v) is))
          (more_or_cut c journal.promotions (λ es. goals c valid es journal.promotions) (λ es. actions c valid es journal.promotions) (λ es. is_plan c valid es journal.promotions)
          journal.events (answers_to_come coming))
