-- What is left behind of the answers to come, and which of the result lines was the last.
use Rattle.std.proofs.Common.{◌≡◌, ℕ, Bool, Option, Some, None, List, [], ◌∷◌, ◌++◌, map, append_assoc, refl, ap, sym, ◌∙◌}
use Rattle.cluster_types.specs.declared.cluster.Cluster.{Cluster}
use Rattle.cluster_types.specs.declared.journal.Answer.{Answer}
use Rattle.cluster_types.specs.declared.journal.Event.{Event}
use Rattle.cluster_types.specs.declared.journal.Promotion.{Promotion}
use Rattle.cluster_types.specs.declared.run.RunLine.{RunLine}
use Rattle.cluster_types.specs.Runs.{RunStanding as Place, RunsOn, plans, goes, completes, aborts, answers as answers_come, Runs, here, one_more}
use Rattle.cluster_types.specs.Sources.{Says, told, used_up, untold}
use Rattle.cluster_types.specs.Steps.{Transition, StepsOn, begins, takes, is_silent}
use Rattle.live_run.specs.SourceFollowed.{last_line}
use Rattle.input_reading.specs.declared.results.result_lines.ResultLine.{ResultLine}

abbrev pub answer_in : ResultLine → Answer
answer_in r = r.answer

-- what is left of the answers to come is how they end
pub record IsBack (xs : List Answer) (left : Option (List Answer)) : Type 0 where
  pub taken : List Answer
  pub back : List Answer
  pub is : left ≡ Some back
  pub joined : xs ≡ taken ++ back

all_back : (rest : Option (List Answer)) (xs : List Answer) → rest ≡ Some xs → IsBack xs rest
all_back rest xs e = record { taken = []; back = xs; is = e; joined = refl }

says_back : (whole : Bool) (rest left : Option (List Answer)) (said : Option Answer) (xs : List Answer) → Says whole rest said left → rest ≡ Some xs → IsBack xs left
says_back whole _ _ _ xs (told given rest) e = record { taken = given ∷ []; back = rest; is = refl; joined = cc }
says_back whole _ _ _ xs (used_up h) e = record { taken = []; back = []; is = refl; joined = cc }
says_back whole _ _ _ xs (untold said) e = cc

module _ (c : Cluster) (promotions : List Promotion) (whole : Bool) where
  step_back : (t : Transition) (since events : List Event) (rest left : Option (List Answer)) (xs : List Answer) → StepsOn t whole since rest events left → rest ≡ Some xs → IsBack xs left
  step_back t since _ rest _ xs (begins _ k a begin) e = all_back rest xs e
  step_back t since _ rest left xs (takes _ _ given said taken) e = says_back whole rest left (Some given) xs said e
  step_back t since _ rest left xs (is_silent _ _ k a said ends) e = says_back whole rest left None xs said e

  one_back : (at next : Place) (rest left : Option (List Answer)) (lines : List RunLine) (xs : List Answer) → RunsOn c promotions whole at rest lines next left → rest ≡ Some xs → IsBack xs left
  one_back _ _ rest _ _ xs (plans k es _ placed actions plan) e = all_back rest xs e
  one_back _ _ rest left _ xs (goes k t since events _ _ step) e = step_back t since events rest left xs step e
  one_back _ _ rest _ _ xs (completes k t since _ ended unaborted) e = all_back rest xs e
  one_back _ _ rest _ _ xs (aborts k t since _ ended aborted) e = all_back rest xs e
  one_back _ _ rest left _ xs (answers_come k es _ _ given said applies) e = says_back whole rest left (Some given) xs said e

  pub runs_back : (at later : Place) (rest left : Option (List Answer)) (lines : List RunLine) (xs : List Answer) → Runs c promotions whole at rest lines later left → rest ≡ Some xs → IsBack xs left
  runs_back at _ rest _ _ xs (here _ _) e = all_back rest xs e
  runs_back at later rest left _ xs (one_more _ next _ _ middle _ lines more step runs) e =
      let first = one_back at next rest middle lines xs step e in
      let later_on = runs_back next later middle left more first.back runs first.is in
      record {
        taken = first.taken ++ later_on.taken;
        back = later_on.back;
        is = later_on.is;
        joined = first.joined ∙ (ap (λ (t : List Answer). first.taken ++ t) later_on.joined ∙ sym (append_assoc first.taken later_on.taken later_on.back));
      }

-- an answer is said, and is the first of those to come
pub record SaysNext (given : Answer) (rest left : Option (List Answer)) : Type 0 where
  pub back : List Answer
  pub is : left ≡ Some back
  pub front : rest ≡ Some (given ∷ back)

pub says_next : (whole : Bool) (rest left : Option (List Answer)) (given : Answer) (xs : List Answer) → Says whole rest (Some given) left → rest ≡ Some xs → SaysNext given rest left
says_next whole rest left given xs said e = by rest left (Some given) refl said e
  where
    by : (r l : Option (List Answer)) (s : Option Answer) → s ≡ Some given → Says whole r s l → r ≡ Some xs → SaysNext given r l
    by _ _ _ f (told other rest) e = record { back = rest; is = refl; front = cc }
    by _ _ _ f (used_up h) e = cc
    by _ _ _ f (untold s) e = cc

-- the last of some answers
pub record HasLastOne (xs : List ResultLine) (front : List Answer) (given : Answer) : Type 0 where
  pub before : List ResultLine
  pub last : ResultLine
  pub joined : xs ≡ before ++ last ∷ []
  pub is : last.answer ≡ given

pub last_one : (xs : List ResultLine) (front : List Answer) (given : Answer) → map answer_in xs ≡ front ++ given ∷ [] → HasLastOne xs front given
last_one [] [] given e = cc
last_one [] (a ∷ front) given e = cc
last_one (x ∷ []) [] given e = record { before = []; last = x; joined = refl; is = cc }
last_one (x ∷ []) (a ∷ front) given e = let tail : [] ≡ front ++ given ∷ [] = cc in none front given tail
  where
    none : (ys : List Answer) (z : Answer) → [] ≡ ys ++ z ∷ [] → HasLastOne (x ∷ []) (a ∷ front) given
    none [] z f = cc
    none (y ∷ ys) z f = cc
last_one (x ∷ y ∷ xs) [] given e = cc
last_one (x ∷ y ∷ xs) (a ∷ front) given e =
    let tail : map answer_in (y ∷ xs) ≡ front ++ given ∷ [] = cc in
    let more = last_one (y ∷ xs) front given tail in
    record { before = x ∷ more.before; last = more.last; joined = ap (λ (t : List ResultLine). x ∷ t) more.joined; is = more.is }

pub line_of_last : (line : ℕ) (xs : List ResultLine) (r : ResultLine) → last_line line (xs ++ r ∷ []) ≡ r.line
line_of_last line [] r = refl
line_of_last line (x ∷ xs) r = line_of_last x.line xs r
