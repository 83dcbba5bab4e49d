-- Each front of the lines of a run tells the journal that the run has somewhere on its way.
use Rattle.std.proofs.Common.{◌≡◌, Bool, Option, List, [], ◌∷◌, ◌++◌, append-nil, refl, sym, ap, ◌∙◌, subst}
use Rattle.std.specs.List.{AllByRecursion, flat_map}
use Rattle.std.proofs.lemmas.Bool.{eq-eqb}
use Rattle.lemmas.proofs.Members.{all_first}
use Rattle.cluster_types.specs.declared.cluster.Cluster.{Cluster}
use Rattle.cluster_types.specs.declared.journal.Answer.{Answer}
use Rattle.cluster_types.specs.declared.journal.Answer.TheVariants as answer
use Rattle.cluster_types.specs.declared.journal.Event.{Event}
use Rattle.cluster_types.specs.declared.journal.Event.TheVariants.{Begin}
use Rattle.cluster_types.specs.declared.journal.Promotion.{Promotion}
use Rattle.cluster_types.specs.declared.run.RunLine.{RunLine}
use Rattle.cluster_types.specs.declared.run.RunLine.TheVariants as line
use Rattle.cluster_types.specs.AnswersThatApply.{added_by, is_number_of}
use Rattle.cluster_types.specs.Journals.{in_flight_by_begin}
use Rattle.cluster_types.specs.Runs.{RunStanding, due, amid, RunsOn, plans, goes, completes, aborts, answers, Runs, here, one_more, journal_at}
use Rattle.cluster_types.specs.Steps.{StepsOn, begins, takes, is_silent, silent_code}
use Rattle.cluster_types.specs.Tables.{targets_of}
use Rattle.cluster_types.specs.Texts.{event_lines, target_lines}
use Rattle.run_safety.proofs.InFlight.{among_flying}
use Rattle.run_safety.proofs.Printed.{answer_line, end_line}
use Rattle.written_runs.specs.OverLines.{LinesTellOfTheWay, LinesTell}
use Rattle.written_runs.proofs.SafeLines.{told_run}
use Rattle.written_runs.proofs.Telling.{IsOfPlanning, nothing_told, plan_lines, tell_more}

-- what lines tell, the first of them tell, and the others from there on
record TellsTo (c : Cluster) (es : List Event) (lines more : List RunLine) (later : List Event) : Type 0 where
  middle : List Event
  first : LinesTell c es lines middle
  then : LinesTell c middle more later

told_apart : (c : Cluster) (es later : List Event) (lines more : List RunLine) → LinesTell c es (lines ++ more) later → TellsTo c es lines more later
told_apart c es later [] more told = record { middle = es; first = refl; then = told }
told_apart c es later (line.Begin k a ∷ lines) more told =
    let apart = told_apart c (es ++ Begin k a ∷ []) later lines more told in record { middle = apart.middle; first = apart.first; then = apart.then }
told_apart c es later (line.Taken given ∷ lines) more (f, is, told) =
    let apart = told_apart c (es ++ added_by c es f given) later lines more told in record { middle = apart.middle; first = (f, is, apart.first); then = apart.then }
told_apart c es later (_ ∷ lines) more told = let apart = told_apart c es later lines more told in record { middle = apart.middle; first = apart.first; then = apart.then }

-- a front of two lists that are joined ends in the one, or goes on into the other
split_front : {R : Type 0} (xs ys before after : List RunLine) → xs ++ ys ≡ before ++ after
    → ((rest : List RunLine) → xs ≡ before ++ rest → R) → ((front : List RunLine) → before ≡ xs ++ front → ys ≡ front ++ after → R) → R
split_front xs ys [] after q ends on = ends xs refl
split_front [] ys (b ∷ before) after q ends on = on (b ∷ before) refl q
split_front (x ∷ xs) ys (b ∷ before) after q ends on =
    let head : x ≡ b = cc in
    let tail : xs ++ ys ≡ before ++ after = cc in
    split_front xs ys before after tail (λ rest p. ends rest (let g : x ∷ xs ≡ b ∷ (before ++ rest) = cc in g))
    (λ front p r. on front (let g : b ∷ before ≡ x ∷ (xs ++ front) = cc in g) r)

module _ (c : Cluster) (promotions : List Promotion) (whole : Bool) where
  -- a place of a run, and the lines that it has printed by then, which tell what these lines tell
  pub record PlaceOf (at later : RunStanding) (rest left : Option (List Answer)) (before : List RunLine) : Type 0 where
    pub place : RunStanding
    pub behind : Option (List Answer)
    pub printed : List RunLine
    pub more : List RunLine
    pub runs : Runs c promotions whole at rest printed place behind
    pub goes_on : Runs c promotions whole place behind more later left
    pub tells : (first es : List Event) → LinesTell c first printed es → LinesTell c first before es

  at_once : (at later : RunStanding) (rest left : Option (List Answer)) (lines before : List RunLine) → Runs c promotions whole at rest lines later left
      → ((first : List Event) → LinesTell c first before first) → PlaceOf at later rest left before
  at_once at later rest left lines before runs nothing = record {
    place = at;
    behind = rest;
    printed = [];
    more = lines;
    runs = here at rest;
    goes_on = runs;
    tells = λ first es told. subst (λ z. LinesTell c first before z) (sym told) (nothing first);
  }

  -- a step that prints one line
  one_line : (at next later : RunStanding) (rest middle left : Option (List Answer)) (lines more before others : List RunLine) (l : RunLine)
      → RunsOn c promotions whole at rest lines next middle → Runs c promotions whole next middle more later left → lines ≡ l ∷ [] → lines ≡ before ++ others
      → PlaceOf at later rest left before
  one_line at next later rest middle left lines more [] others l step runs one is =
      at_once at later rest left (lines ++ more) [] (one_more at next later rest middle left lines more step runs) (λ first. refl)
  one_line at next later rest middle left lines more (b ∷ before) others l step runs one is =
      let rest_empty : before ++ others ≡ [] = (let e : l ∷ [] ≡ b ∷ (before ++ others) = sym one ∙ is in cc) in
      let all : lines ≡ b ∷ before = is ∙ ap (λ z. b ∷ z) (rest_empty ∙ sym (front_empty before others rest_empty)) in
      record {
        place = next;
        behind = middle;
        printed = lines;
        more = more;
        runs = subst (λ z. Runs c promotions whole at rest z next middle) (append-nil lines) (one_more at next next rest middle middle lines [] step (here next middle));
        goes_on = runs;
        tells = λ first es told. subst (λ z. LinesTell c first z es) all told;
      }
    where
      front_empty : (xs ys : List RunLine) → xs ++ ys ≡ [] → xs ≡ []
      front_empty [] ys e = refl
      front_empty (x ∷ xs) ys e = absurd (let f : ⊥ = cc in f)

  step_place : (at next later : RunStanding) (rest middle left : Option (List Answer)) (lines more before others : List RunLine)
      → RunsOn c promotions whole at rest lines next middle → Runs c promotions whole next middle more later left → lines ≡ before ++ others → PlaceOf at later rest left before
  step_place _ _ later rest _ left _ more before others (plans k es _ placed actions plan) runs is =
      let lines = line.Transition k ∷ target_lines c placed.pins (targets_of placed.table) placed.none in
      at_once (due k es) later rest left (lines ++ more) before (one_more _ _ later rest rest left lines more (plans k es rest placed actions plan) runs)
      (λ first. nothing_told c first before
      (all_first IsOfPlanning before others (subst (AllByRecursion IsOfPlanning) is (plan_lines c placed.pins (targets_of placed.table) placed.none k))))
  step_place _ _ later rest middle left _ more before others (goes k t since events _ _ step) runs is = by events middle step runs is
    where
      by : (events : List Event) (middle : Option (List Answer)) → StepsOn t whole since rest events middle → Runs c promotions whole (amid k t (since ++ events)) middle more later left
          → flat_map event_lines events ≡ before ++ others → PlaceOf (amid k t since) later rest left before
      by _ _ (begins _ j a begin) runs is =
          one_line (amid k t since) (amid k t (since ++ Begin j a ∷ [])) later rest rest left (line.Begin j a ∷ []) more before others (line.Begin j a)
          (goes k t since (Begin j a ∷ []) rest rest (begins rest j a begin)) runs refl is
      by events middle (takes _ _ given said taken) runs is =
          one_line (amid k t since) (amid k t (since ++ events)) later rest middle left (flat_map event_lines events) more before others (line.Taken given)
          (goes k t since events rest middle (takes rest middle given said taken)) runs (answer_line t since given taken.applies) is
      by events middle (is_silent _ _ j a said ends) runs is =
          one_line (amid k t since) (amid k t (since ++ events)) later rest middle left (flat_map event_lines events) more before others (line.Taken (answer.End j (silent_code a)))
          (goes k t since events rest middle (is_silent rest middle j a said ends)) runs
          (end_line t since j (silent_code a) (among_flying t since j a (is_number_of j) (eq-eqb j j refl) ends.action ends.in_flight)) is
  step_place at next later rest middle left lines more before others (completes k t since _ over unaborted) runs is =
      one_line at next later rest rest left lines more before others (line.Complete k) (completes k t since rest over unaborted) runs refl is
  step_place at next later rest middle left lines more before others (aborts k t since _ over aborted) runs is =
      one_line at next later rest rest left lines more before others (line.Aborted k) (aborts k t since rest over aborted) runs refl is
  step_place at next later rest middle left lines more before others (answers k es _ _ given said applies) runs is =
      one_line at next later rest middle left lines more before others (line.Taken given) (answers k es rest middle given said applies) runs refl is

  pub place_of : (at later : RunStanding) (rest left : Option (List Answer)) (lines before after : List RunLine) → Runs c promotions whole at rest lines later left
      → lines ≡ before ++ after → PlaceOf at later rest left before
  place_of at _ rest _ _ [] after (here _ _) is = at_once at at rest rest [] [] (here at rest) (λ first. refl)
  place_of at _ rest _ _ (b ∷ before) after (here _ _) is = absurd (let f : ⊥ = cc in f)
  place_of at later rest left _ before after (one_more _ next _ _ middle _ lines more step runs) is =
      split_front lines more before after is (λ others p. step_place at next later rest middle left lines more before others step runs p)
      (λ front p r.
      let inner = place_of next later middle left more front after runs r in
      record {
        place = inner.place;
        behind = inner.behind;
        printed = lines ++ inner.printed;
        more = inner.more;
        runs = one_more at next inner.place rest middle inner.behind lines inner.printed step inner.runs;
        goes_on = inner.goes_on;
        tells = λ first es told.
            let apart = told_apart c first es lines inner.printed told in
            subst (λ z. LinesTell c first z es) (sym p) (tell_more c first apart.middle es lines front apart.first (inner.tells apart.middle es apart.then));
      })

-- from the first transition on
pub on_the_way : (c : Cluster) (promotions : List Promotion) (whole : Bool) (first : List Event) (rest : Option (List Answer)) → in_flight_by_begin first ≡ [] → (at : RunStanding)
    (left : Option (List Answer)) (lines before after : List RunLine) → Runs c promotions whole (due 1 first) rest lines at left → lines ≡ before ++ after
    → LinesTellOfTheWay c promotions whole first rest at left before
on_the_way c promotions whole first rest idle at left lines before after runs is =
    let found = place_of c promotions whole (due 1 first) at rest left lines before after runs is in
    record {
      place = found.place;
      behind = found.behind;
      printed = found.printed;
      more = found.more;
      runs = found.runs;
      goes_on = found.goes_on;
      told = found.tells first (journal_at found.place) (told_run c promotions whole first rest idle found.place found.behind found.printed found.runs);
    }
