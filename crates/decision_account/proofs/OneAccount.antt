-- There is one text of how the decisions came about.
use Rattle.std.proofs.Common.{◌≡◌, ℕ, List, [], refl, sym, ap, ◌∙◌}
use Rattle.cluster_types.specs.declared.cluster.Cluster.{Cluster}
use Rattle.cluster_types.specs.declared.journal.Event.{Event}
use Rattle.cluster_types.specs.declared.journal.Promotion.{Promotion}
use Rattle.cluster_types.specs.declared.placement.Decision.{Decision}
use Rattle.cluster_types.specs.declared.placement.Placed.{Placed}
use Rattle.plan_laws.proofs.OneOrder.{one_order}
use Rattle.plan_laws.proofs.OnePlacement.{one_placement}
use Rattle.plan_laws.proofs.SomePlacement.{is_placed, placed}
use Rattle.decision_account.specs.Accounts.{IsWhyText, why_lines, why_text}

module _ (c : Cluster) (es : List Event) (ps : List Promotion) where
  pub some_text : (placed : Placed) × (text : List ℕ) × IsWhyText c es ps placed text
  some_text =
      (placed c es ps, why_text c (why_lines c es ps (is_placed c es ps).decisions (placed c es ps)), record { is = is_placed c es ps; printed = refl })

  pub one_text : (one other : Placed) (x y : List ℕ) → IsWhyText c es ps one x → IsWhyText c es ps other y → x ≡ y
  one_text one other x y h k =
      let decisions = one_order c es ps [] h.is.decisions k.is.decisions h.is.in_order k.is.in_order in
      let places = one_placement c es ps one other h.is k.is in
      h.printed
      ∙ ap (λ (ds : List Decision). why_text c (why_lines c es ps ds one)) decisions
      ∙ ap (λ (p : Placed). why_text c (why_lines c es ps k.is.decisions p)) places
      ∙ sym k.printed
