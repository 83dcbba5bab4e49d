-- Steps hang on a source only by what it says; a graph of a plan carries out the plan's transition; nothing in flight stays so.
use Rattle.std.proofs.Common.{◌≡◌, ℕ, Bool, true, false, List, [], ◌∷◌, ◌++◌, refl, ap, if◌then◌else◌}
use mathlib.Core.Path.{fun_ext}
use Rattle.std.specs.Prelude.{Option, Some, None}
use Rattle.std.specs.List.{list_any}
use Rattle.std.proofs.lemmas.List.Folds.{list_any-append}
use Rattle.cluster_types.specs.declared.cluster.Cluster.{Cluster}
use Rattle.cluster_types.specs.declared.journal.Action.{Action}
use Rattle.cluster_types.specs.declared.journal.Answer.{Answer}
use Rattle.cluster_types.specs.declared.journal.Event.{Event}
use Rattle.cluster_types.specs.declared.journal.Event.TheVariants.{Begin}
use Rattle.cluster_types.specs.declared.journal.Promotion.{Promotion}
use Rattle.cluster_types.specs.declared.placement.Placed.{Placed}
use Rattle.cluster_types.specs.Graphs.{GraphOf}
use Rattle.cluster_types.specs.Journals.{in_flight_by_begin, ends_number}
use Rattle.cluster_types.specs.Plans.{CarriesOut, transition_of, transition_on}
use Rattle.cluster_types.specs.Sources.{untold}
use Rattle.cluster_types.specs.Steps.{Transition, StepsOn, begins, takes, is_silent, GoesBySteps, here, one_more}

-- whatever a source tells, the same steps may come of one that tells nothing
pub step-untold : (t : Transition) (whole : Bool) (since events : List Event) (rest left : Option (List Answer)) → StepsOn t whole since rest events left
    → StepsOn t whole since None events None
step-untold t whole since _ rest _ (begins _ k a allowed) = begins None k a allowed
step-untold t whole since _ rest left (takes _ _ given said taken) = takes None None given (untold (Some given)) taken
step-untold t whole since _ rest left (is_silent _ _ k a said ends) = is_silent None None k a (untold None) ends

pub goes-untold : (t : Transition) (whole : Bool) (since later : List Event) (rest left : Option (List Answer)) → GoesBySteps t whole since rest later left
    → GoesBySteps t whole since None later None
goes-untold t whole since _ rest _ (here _ _) = here since None
goes-untold t whole since later rest left (one_more _ events _ _ middle _ step more) =
    one_more since events later None None None (step-untold t whole since events rest middle step) (goes-untold t whole (since ++ events) later middle left more)

-- one step after those so far
pub goes-more : (t : Transition) (whole : Bool) (since later events : List Event) (rest middle left : Option (List Answer)) → GoesBySteps t whole since rest later middle
    → StepsOn t whole later middle events left → GoesBySteps t whole since rest (later ++ events) left
goes-more t whole since _ events rest _ left (here _ _) step = one_more since events (since ++ events) rest left left step (here (since ++ events) left)
goes-more t whole since later events rest middle left (one_more _ first _ _ next _ step more) last =
    one_more since first (later ++ events) rest next left step (goes-more t whole (since ++ first) later events next middle left more last)

abbrev with_precedes : Cluster → List Event → List Action → (ℕ → ℕ → Bool) → Transition
with_precedes c es actions precedes = record { cluster = c; actions = actions; precedes = precedes; planned_at = es }

pub carries-out : (c : Cluster) (es : List Event) (promotions : List Promotion) (placed : Placed) (g : GraphOf) → CarriesOut c es promotions placed g
    → transition_on c g es ≡ transition_of c es g.actions
carries-out c es promotions placed g out = ap (with_precedes c es g.actions) (fun_ext (λ j. fun_ext (λ k. out.pairs j k)))

-- what has ended stays ended
pub none-in_flight : (es since : List Event) → in_flight_by_begin es ≡ [] → in_flight_by_begin (es ++ since) ≡ in_flight_by_begin since
none-in_flight [] since h = refl
none-in_flight (Begin k a ∷ es) since h = by_end (list_any (ends_number k) es) refl h (none-in_flight es since)
  where
    by_end : (b : Bool) → list_any (ends_number k) es ≡ b → (if b then in_flight_by_begin es else (k, a) ∷ in_flight_by_begin es) ≡ []
        → (in_flight_by_begin es ≡ [] → in_flight_by_begin (es ++ since) ≡ in_flight_by_begin since) → in_flight_by_begin (Begin k a ∷ (es ++ since)) ≡ in_flight_by_begin since
    by_end true e h f = rw (list_any-append (ends_number k) es since) (rw e (f h))
    by_end false e h f = cc
none-in_flight (e ∷ es) since h = none-in_flight es since h
