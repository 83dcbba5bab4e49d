-- What holds at each begin that a calm transition allows holds at each begin of any transition.
use Rattle.std.proofs.Common.{◌≡◌, ℕ, Bool, true, false, List, [], ◌∷◌, ◌++◌, append-nil, refl, sym, subst, ◌∙◌}
use Rattle.std.specs.Prelude.{Option}
use Rattle.std.specs.List.{list_all}
use Rattle.cluster_types.specs.declared.journal.Action.{Action}
use Rattle.cluster_types.specs.declared.journal.Answer.{Answer}
use Rattle.cluster_types.specs.declared.journal.Event.{Event}
use Rattle.cluster_types.specs.declared.journal.Event.TheVariants.{Begin}
use Rattle.cluster_types.specs.Safety.{AtEachBegin}
use Rattle.cluster_types.specs.Steps.{Transition, Begins, GoesBySteps, here, one_more, has_aborted}
use Rattle.cluster_types.proofs.StepLaws.{split, no_begin, begins_nothing, not_aborted}
use Rattle.cluster_types.proofs.EagerLaws.{at_only}
use Rattle.run_safety.proofs.Calm.{Calm, none, add_calm}
use Rattle.run_safety.proofs.InOrder.{aborted_before}
use Rattle.run_safety.proofs.Losses.{gone_begins_nothing}
use Rattle.run_safety.proofs.Shapes.{Adds, nothing, begun, over, reported, lost, up, quorum, wait, step_adds}

module _ (t : Transition) (P : List Event → ℕ → Action → Type 0) (holds : (since : List Event) (k : ℕ) (a : Action) → Calm t since → Begins t since k a → P since k a) where
  silent : (since ys : List Event) → list_all begins_nothing ys ≡ true → AtEachBegin P since → AtEachBegin P (since ++ ys)
  silent since ys h at before after k a q =
      split (P before k a) since ys before after (Begin k a) q (λ rest p. at before rest k a p)
      (λ front p r. no_begin (P before k a) ys front after k a h r)

  one_begin : (since : List Event) (k : ℕ) (a : Action) → P since k a → AtEachBegin P since → AtEachBegin P (since ++ Begin k a ∷ [])
  one_begin since k a h at before after j b q =
      split (P before j b) since (Begin k a ∷ []) before after (Begin j b) q (λ rest p. at before rest j b p)
      (λ front p r. at_only (P before j b) (Begin k a) (Begin j b) front after r (λ f same.
      let number : k ≡ j = cc in
      let action : a ≡ b = cc in
      let place : before ≡ since = subst (λ z. before ≡ since ++ z) f p ∙ append-nil since in
      subst (λ z. P z j b) (sym place) (subst (λ z. P since z b) number (subst (λ z. P since k z) action h))))

  add_begins : (since events : List Event) → Adds t since events → (has_aborted t since ≡ false → Calm t since) → AtEachBegin P since → AtEachBegin P (since ++ events)
  add_begins since _ nothing calm at = subst (AtEachBegin P) (sym (append-nil since)) at
  add_begins since _ (begun k a allowed) calm at = one_begin since k a (holds since k a (calm (not_aborted t since k allowed.allowed)) allowed) at
  add_begins since _ (over k a o m flies h) calm at = silent since _ refl at
  add_begins since _ (reported r n interval code m h) calm at = silent since _ refl at
  add_begins since _ (lost n h) calm at = silent since _ (gone_begins_nothing t since n) at
  add_begins since _ (up n) calm at = silent since _ refl at
  add_begins since _ (quorum now) calm at = silent since _ refl at
  add_begins since _ (wait seconds) calm at = silent since _ refl at

  begins_on : (whole : Bool) (since later : List Event) (rest left : Option (List Answer)) → GoesBySteps t whole since rest later left
      → (has_aborted t since ≡ false → Calm t since) → AtEachBegin P since → AtEachBegin P later
  begins_on whole since _ rest _ (here _ _) calm at = at
  begins_on whole since after rest left (one_more _ events _ _ middle _ step next) calm at =
      let adds = step_adds t since whole events rest middle step in
      begins_on whole (since ++ events) after middle left next
      (λ g. let parts = aborted_before t since events g in add_calm t since events adds (calm parts.0) parts.1) (add_begins since events adds calm at)

  pub each_begin : (whole : Bool) (rest left : Option (List Answer)) (later : List Event) → GoesBySteps t whole [] rest later left → AtEachBegin P later
  each_begin whole rest left after goes = begins_on whole [] after rest left goes (λ g. none) (λ before behind k a q. no_begin (P before k a) [] before behind k a refl q)
