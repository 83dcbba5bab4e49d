use Rattle.std.proofs.Common.{Result, Ok, Err, IfOk, ap, ◌∙◌}
use Rattle.std.proofs.lemmas.Result.{IfOk-at_ok}
use Rattle.cluster_types.specs.Choice.{after_decisions}
use Rattle.cluster_types.specs.Pins.{pinned_targets}
use Rattle.cluster_types.specs.Plans.{with_totals}
use Rattle.cluster_types.specs.Tables.{targets_of}
use Rattle.placement.proofs.placing.choices.Goals as goal

pub returns-clause-chosen : goal.returns-clause-chosen
returns-clause-chosen c =
    by_both c.decide_all.result _ _ _ (λ choices targets decided. λ events promotions told table pins.
    let cl = c.args.cluster.now in
    let pinned = c.in_ok-pinned-2.pinned in
    let before = ap targets_of c.in_ok-pinned-2.ensures.0 ∙ c.in_ok-pinned.ensures.targets events promotions told pins in
    let given = c.deref.ensures.value in
    record {
      decisions = c.in_ok-pinned-2.order.items;
      in_order = IfOk-at_ok _ c.in_ok-pinned-2.ensures.1 (c.decisions_in_order-order.ensures.order events promotions told table pins);
      targets = targets events promotions told table
          ∙ (ap (λ t. after_decisions cl events promotions t c.deref.result.now) before ∙ ap (after_decisions cl events promotions (pinned_targets cl events)) given);
      decided = decided events promotions told table
          ∙ (ap (λ t. with_totals cl events promotions t c.deref.result.now) before ∙ ap (with_totals cl events promotions (pinned_targets cl events)) given);
    }) c.decide_all.ensures.targets c.decide_all.ensures.decided
  where
    by_both : {X E : Type 0} (r : Result X E) (P Q R : X → Type 0) → ((x : X) → P x → Q x → R x) → IfOk r P → IfOk r Q → IfOk r R
    by_both (Ok x) P Q R f p q = f x p q
    by_both (Err e) P Q R f p q = tt
