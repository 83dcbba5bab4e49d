-- A transition ends in one way, where the answers to come are told; and its steps are those of a run.
use Rattle.std.proofs.Common.{◌≡◌, ℕ, Bool, List, [], ◌++◌, refl, ◌∙◌, sym, subst, append-nil, append_assoc}
use Rattle.std.specs.Prelude.{Option}
use Rattle.std.specs.List.{flat_map}
use Rattle.std.proofs.lemmas.Grind.{flat_map-append}
use Rattle.cluster_types.specs.declared.cluster.Cluster.{Cluster}
use Rattle.cluster_types.specs.declared.journal.Answer.{Answer}
use Rattle.cluster_types.specs.declared.journal.Event.{Event}
use Rattle.cluster_types.specs.declared.journal.Promotion.{Promotion}
use Rattle.cluster_types.specs.Runs.{amid, goes, Runs, here, one_more}
use Rattle.cluster_types.specs.Steps.{Transition, GoesBySteps, HasEnded, here as there, one_more as one_further}
use Rattle.cluster_types.specs.Texts.{event_lines}
use Rattle.run_safety.specs.TwoRuns.{AreAnswersTold, IsPartOfRun}
use Rattle.run_safety.proofs.OneRun.{step_told}
use Rattle.run_safety.proofs.OneStep.{ended_goes, step_one}

module _ (t : Transition) (whole : Bool) where
  moved : (since events others later : List Event) (middle other left : Option (List Answer)) → events ≡ others → middle ≡ other → GoesBySteps t whole (since ++ others) other later left
      → GoesBySteps t whole (since ++ events) middle later left
  moved since events others later middle other left e f rest =
      subst (λ z. GoesBySteps t whole (since ++ z) middle later left) (sym e) (subst (λ z. GoesBySteps t whole (since ++ others) z later left) (sym f) rest)

  pub end_one : (since p q : List Event) (rest left right : Option (List Answer)) → AreAnswersTold rest → GoesBySteps t whole since rest p left → GoesBySteps t whole since rest q right → HasEnded t p → HasEnded t q
      → (p ≡ q) × (left ≡ right)
  end_one since _ _ rest _ _ told (there _ _) (there _ _) over also = (refl, refl)
  end_one since _ q rest _ right told (there _ _) (one_further _ others _ _ other _ step behind) over also = ended_goes t since whole others rest other over step
  end_one since p _ rest left _ told (one_further _ events _ _ middle _ step later) (there _ _) over also = ended_goes t since whole events rest middle also step
  end_one since p q rest left right told (one_further _ events _ _ middle _ step later) (one_further _ others _ _ other _ too behind) over also =
      let same = step_one t since whole rest told events others middle other step too in
      end_one (since ++ events) p q middle left right (step_told t whole since events rest middle step told) later
      (moved since events others q middle other right same.0 same.1 behind) over also

module _ (c : Cluster) (promotions : List Promotion) (whole : Bool) (k : ℕ) (t : Transition) where
  pub goes_runs : (since later : List Event) (rest left : Option (List Answer)) → GoesBySteps t whole since rest later left → IsPartOfRun c promotions whole k t since later rest left
  goes_runs since _ rest _ (there _ _) = record { events = []; joined = sym (append-nil since); runs = here (amid k t since) rest }
  goes_runs since later rest left (one_further _ events _ _ middle _ step more) =
      let part = goes_runs (since ++ events) later middle left more in
      record {
        events = events ++ part.events;
        joined = part.joined ∙ append_assoc since events part.events;
        runs = subst (λ z. Runs c promotions whole (amid k t since) rest z (amid k t later) left) (sym (flat_map-append event_lines events part.events))
            (one_more (amid k t since) (amid k t (since ++ events)) (amid k t later) rest middle left (flat_map event_lines events) (flat_map event_lines part.events)
            (goes k t since events rest middle step) part.runs);
      }
