-- Steps each end of which was said.
use Rattle.std.proofs.Common.{◌≡◌, Bool, false, Option, Some, None, List, [], ◌∷◌, ◌++◌, append_assoc, ap, refl, sym, subst, ◌∙◌}
use Rattle.std.specs.Prelude.{option_map}
use Rattle.cluster_types.specs.declared.journal.Answer.{Answer}
use Rattle.cluster_types.specs.declared.journal.Event.{Event}
use Rattle.cluster_types.specs.Sources.{Says, told, used_up, untold}
use Rattle.cluster_types.specs.Steps.{Transition, StepsOn, begins, takes, is_silent, GoesBySteps, here, one_more}
use Rattle.graph_exec.specs.declared.transition.ends.WatchedEnd.{WatchedEnd}
use Rattle.graph_exec.specs.declared.transition.ends.WatchedEnd.TheVariants as how
use Rattle.graph_exec.specs.Inner.Rounds.{Began}
use Rattle.graph_exec.specs.Executors.{ExecutorOf, Took, Went, transition_in}
use Rattle.graph_exec.specs.SourceDuties.{TakesAnswers}
use Rattle.graph_exec.specs.Transitions.{EndedByItself, HasSaidAll, WentAsSaid}
use Rattle.graph_exec.proofs.Carrying.{no_fault, went_begun, went_nowhere, went_on, went_step}

-- the same steps, with more answers to come behind
module _ (ys : List Answer) where
  abbrev pub with_more : Option (List Answer) → Option (List Answer)
  with_more rest = option_map (λ xs. xs ++ ys) rest

  says_more : (rest : Option (List Answer)) (said : Option Answer) (left : Option (List Answer)) → Says false rest said left
      → Says false (with_more rest) said (with_more left)
  says_more _ _ _ (told given rest) = told given (rest ++ ys)
  says_more _ _ _ (used_up h) = cc
  says_more _ _ _ (untold said) = untold said

  step_more : (t : Transition) (since events : List Event) (rest left : Option (List Answer)) → StepsOn t false since rest events left
      → StepsOn t false since (with_more rest) events (with_more left)
  step_more t since _ rest _ (begins _ k a b) = begins (with_more rest) k a b
  step_more t since _ rest left (takes _ _ given said b) = takes (with_more rest) (with_more left) given (says_more rest (Some given) left said) b
  step_more t since _ rest left (is_silent _ _ k a said b) = is_silent (with_more rest) (with_more left) k a (says_more rest None left said) b

  pub goes_more : (t : Transition) (since later : List Event) (rest left : Option (List Answer)) → GoesBySteps t false since rest later left
      → GoesBySteps t false since (with_more rest) later (with_more left)
  goes_more t since _ rest _ (here _ _) = here since (with_more rest)
  goes_more t since later rest left (one_more _ events _ _ middle _ step more) =
      one_more since events later (with_more rest) (with_more middle) (with_more left) (step_more t since events rest middle step)
      (goes_more t (since ++ events) later middle left more)

-- answers that were taken: none, one, and those of two parts
pub taken_none : (rest : Option (List Answer)) → TakesAnswers rest [] rest
taken_none None = refl
taken_none (Some answers) = refl

pub taken_one : (whole : Bool) (rest left : Option (List Answer)) (given : Answer) (said : Option Answer) → said ≡ Some given → Says whole rest said left
    → TakesAnswers rest (given ∷ []) left
taken_one whole _ _ given _ is (told first rest) = cc
taken_one whole _ _ given _ is (used_up h) = cc
taken_one whole _ _ given _ is (untold said) = refl

pub taken_then : (before between after : Option (List Answer)) (xs ys : List Answer) → TakesAnswers before xs between → TakesAnswers between ys after
    → TakesAnswers before (xs ++ ys) after
taken_then before between None xs ys a b = a ∙ ap (option_map (λ (left : List Answer). xs ++ left)) b
taken_then before between (Some left) xs ys a b =
    a ∙ (ap (option_map (λ (others : List Answer). xs ++ others)) b ∙ ap Some (sym (append_assoc xs ys left)))

pub said_nothing : (r : ExecutorOf) (rest : Option (List Answer)) → WentAsSaid r r rest rest
said_nothing r rest = record { answers = []; went = went_nowhere false r (Some []); taken = taken_none rest }

pub said_on : (first middle last : ExecutorOf) (rest between left : Option (List Answer)) → WentAsSaid first middle rest between → WentAsSaid middle last between left
    → WentAsSaid first last rest left
said_on first middle last rest between left a b =
    let before : Went false first middle (Some (a.answers ++ b.answers)) (Some b.answers)
    = record { same = a.went.same; steps = goes_more b.answers (transition_in first) first.since middle.since (Some a.answers) (Some []) a.went.steps } in
    record {
      answers = a.answers ++ b.answers;
      went = went_on false first middle last _ _ _ before b.went;
      taken = taken_then rest between left a.answers b.answers a.taken b.taken;
    }

pub said_begun : (old new : ExecutorOf) (rest left : Option (List Answer)) → Began old new → left ≡ rest → WentAsSaid old new rest left
said_begun old new rest left b same = record {
  answers = [];
  went = went_begun false old new (Some []) (Some []) b refl;
  taken = subst (λ (x : Option (List Answer)). TakesAnswers rest [] x) (sym same) (taken_none rest);
}

pub said_taken : (whole : Bool) (old new : ExecutorOf) (rest left : Option (List Answer)) (given : Answer) → Says whole rest (Some given) left → Took old new given
    → WentAsSaid old new rest left
said_taken whole old new rest left given said t = record {
  answers = given ∷ [];
  went = went_step false old new _ (Some (given ∷ [])) (Some []) t.goes_on (takes (Some (given ∷ [])) (Some []) given (told given []) t.takes);
  taken = taken_one whole rest left given (Some given) refl said;
}

-- what a steady source has said, by how the transition ended
module _ (old new : ExecutorOf) (rest left : Option (List Answer)) (over over_now : Bool) where
  pub done_said : (end : WatchedEnd) → EndedByItself end → (over_now ≡ false → WentAsSaid old new rest left) → HasSaidAll old new rest left over over_now end
  done_said end done said = record {
    failed = λ fault. no_fault end done fault;
    not_over = λ fault. no_fault end done fault;
    to_end = λ open_still there. said open_still;
  }

  pub going_said : (end : WatchedEnd) → ¬ EndedByItself end → (end ≡ how.SourceFault → WentAsSaid old new rest left) → (end ≡ how.SourceFault → over ≡ false)
      → HasSaidAll old new rest left over over_now end
  going_said end transition_in failed not_over = record { failed = failed; not_over = not_over; to_end = λ open_still there. absurd (transition_in there) }

  no_fault_stopped : {R : Type 0} → how.Stopped ≡ how.SourceFault → R
  no_fault_stopped e = let f : ⊥ = cc in absurd f

  pub stopped_said : HasSaidAll old new rest left over over_now how.Stopped
  stopped_said = record { failed = λ fault. no_fault_stopped fault; not_over = λ fault. no_fault_stopped fault; to_end = λ open_still there. absurd there }
