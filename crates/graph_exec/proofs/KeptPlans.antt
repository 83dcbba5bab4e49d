-- What is kept of a transition is that of its plan, and stays so while the journal grows.
use Rattle.std.proofs.Common.{arith, ◌≡◌, ◌+◌, ℕ, List, [], ◌∷◌, ◌++◌, length, take, refl, sym, ap, ◌∙◌, subst}
use Rattle.std.specs.List.{AllByRecursion}
use Rattle.std.proofs.Math.Seq.{take-append_seam}
use Rattle.std.proofs.lemmas.List.{take-append-le, length-append}
use Rattle.cluster_types.specs.declared.cluster.Cluster.{Cluster}
use Rattle.cluster_types.specs.declared.journal.Action.{Action}
use Rattle.cluster_types.specs.declared.journal.Event.{Event}
use Rattle.cluster_types.specs.declared.journal.Promotion.{Promotion}
use Rattle.cluster_types.specs.declared.placement.Placed.{Placed}
use Rattle.cluster_types.specs.declared.run.Passed.{Passed}
use Rattle.cluster_types.specs.declared.run.PassedEnd.{PassedEnd}
use Rattle.cluster_types.specs.Plans.{IsPlan, transition_of}
use Rattle.cluster_types.specs.Steps.{Transition}
use Rattle.cluster_types.specs.Texts.{between}
use Rattle.run_safety.specs.KeptLines.{AreWithin}
use Rattle.run_safety.proofs.Kept.{between_new, between_same}
use Rattle.run_safety.proofs.KeptRuns.{fits_more, placed_fits}
use Rattle.graph_exec.specs.KeptRuns.{IsPassedOfPlan, StandsSo}

stands_there : (t u : Transition) (since later : List Event) (end : PassedEnd) → t ≡ u → since ≡ later → StandsSo t since end → StandsSo u later end
stands_there t u since later end same like h =
    subst (λ (x : Transition). StandsSo x later end) same (subst (λ (x : List Event). StandsSo t x end) like h)

-- what is kept of a transition with these positions
abbrev pub passed_by : Placed → ℕ → ℕ → PassedEnd → Passed
passed_by placed from to end = record { pins = placed.pins; table = placed.table; none = placed.none; begins_at = from; ends_at = to; end = end }

module _ (c : Cluster) (promotions : List Promotion) where
  pub within_each : (es : List Event) (ps : List Passed) → AllByRecursion (IsPassedOfPlan c promotions es) ps → AreWithin (length es) ps
  within_each es [] h = tt
  within_each es (p ∷ ps) h =
      let low = h.0.fits.ascending in
      let high = h.0.fits.within in
      ((omega (arith, low, high), high), within_each es ps h.1)

  module _ (es ys : List Event) where
    of_plan_more : (p : Passed) → IsPassedOfPlan c promotions es p → IsPassedOfPlan c promotions (es ++ ys) p
    of_plan_more p is =
        let low = is.fits.ascending in
        let high = is.fits.within in
        let before : take p.begins_at es ≡ take p.begins_at (es ++ ys) = sym (take-append-le p.begins_at es ys (omega (arith, low, high))) in
        let events : between p.begins_at p.ends_at es ≡ between p.begins_at p.ends_at (es ++ ys) =
        sym (between_same es ys p.begins_at p.ends_at (omega (arith, low, high)) high) in
        record {
          placed = is.placed;
          actions = is.actions;
          plan = subst (λ (x : List Event). IsPlan c x promotions is.placed is.actions) before is.plan;
          pins = is.pins;
          table = is.table;
          reasons = is.reasons;
          stands = stands_there _ _ _ _ p.end (ap (λ (x : List Event). transition_of c x is.actions) before) events is.stands;
          fits = fits_more c es ys p is.fits;
        }

    pub each_more : (ps : List Passed) → AllByRecursion (IsPassedOfPlan c promotions es) ps → AllByRecursion (IsPassedOfPlan c promotions (es ++ ys)) ps
    each_more [] h = tt
    each_more (p ∷ ps) h = (of_plan_more p h.0, each_more ps h.1)

  -- what is kept of a new transition, by the events since it was planned
  pub newly_of_plan : (es since : List Event) (placed : Placed) (actions : List Action) → IsPlan c es promotions placed actions
      → (from to : ℕ) (end : PassedEnd) → from ≡ length es → to ≡ length es + length since → StandsSo (transition_of c es actions) since end
      → IsPassedOfPlan c promotions (es ++ since) (passed_by placed from to end)
  newly_of_plan es since placed actions plan from to end begins ends stands =
      let before : es ≡ take from (es ++ since) = sym (ap (λ (n : ℕ). take n (es ++ since)) begins ∙ take-append_seam es since) in
      let events : since ≡ between from to (es ++ since) = sym (ap (λ (n : ℕ). between n to (es ++ since)) begins ∙ between_new es since to ends) in
      let all = length-append es since in
      let goals = placed_fits c es promotions placed plan.goals in
      record {
        placed = placed;
        actions = actions;
        plan = subst (λ (x : List Event). IsPlan c x promotions placed actions) before plan;
        pins = refl;
        table = refl;
        reasons = refl;
        stands = stands_there _ _ _ _ end (ap (λ (x : List Event). transition_of c x actions) before) events stands;
        fits = record {
          pins = goals.pins;
          reasons = goals.reasons;
          nodes = goals.nodes;
          cells = goals.cells;
          ascending = omega (arith, begins, ends);
          within = omega (arith, ends, all);
        };
      }
