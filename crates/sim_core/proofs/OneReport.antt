-- There is one report on the loss of each node.
use Rattle.std.proofs.Common.{◌≡◌, ℕ, List, [], ◌∷◌, ◌++◌, map, refl, sym, ap, subst, ◌∙◌, Contains}
use Rattle.cluster_types.specs.declared.cluster.Cluster.{Cluster}
use Rattle.cluster_types.specs.declared.journal.Event.{Event}
use Rattle.cluster_types.specs.declared.journal.Event.TheVariants.{Lost}
use Rattle.cluster_types.specs.declared.journal.Promotion.{Promotion}
use Rattle.cluster_types.specs.declared.placement.Placed.{Placed}
use Rattle.cluster_types.specs.declared.report.Loss.{Loss}
use Rattle.cluster_types.specs.declared.report.Report.{Report}
use Rattle.cluster_types.specs.Plans.{IsPlaced}
use Rattle.lemmas.proofs.Members.{at_head, in_rest}
use Rattle.plan_laws.proofs.OnePlacement.{one_placement}
use Rattle.planner.specs.Losses.{AreAllLosses, IsLoss}

whole_loss : (x y : Loss) → x.node ≡ y.node → x.pins ≡ y.pins → x.table ≡ y.table → x.none ≡ y.none → x ≡ y
whole_loss x y h k l m = λ i. record { node = h i; pins = k i; table = l i; none = m i }

module _ (c : Cluster) (es : List Event) (ps : List Promotion) where
  -- a node is lost in one way
  one_loss : (x y : Loss) → x.node ≡ y.node → IsLoss c es ps x → IsLoss c es ps y → x ≡ y
  one_loss x y node a b =
      let moved : IsPlaced c (es ++ Lost y.node ∷ []) ps a.placed = subst (λ (n : ℕ). IsPlaced c (es ++ Lost n ∷ []) ps a.placed) node a.is in
      let same : a.placed ≡ b.placed = one_placement c (es ++ Lost y.node ∷ []) ps a.placed b.placed moved b.is in
      whole_loss x y node
      (a.pins ∙ (ap (λ (p : Placed). p.pins) same ∙ sym b.pins))
      (a.table ∙ (ap (λ (p : Placed). p.table) same ∙ sym b.table))
      (a.none ∙ (ap (λ (p : Placed). p.none) same ∙ sym b.none))

  same_losses : (xs ys : List Loss) → map (λ (loss : Loss). loss.node) xs ≡ map (λ (loss : Loss). loss.node) ys
      → ((loss : Loss) → Contains xs loss → IsLoss c es ps loss) → ((loss : Loss) → Contains ys loss → IsLoss c es ps loss) → xs ≡ ys
  same_losses [] [] e f g = refl
  same_losses [] (y ∷ ys) e f g = absurd (let wrong : ⊥ = cc in wrong)
  same_losses (x ∷ xs) [] e f g = absurd (let wrong : ⊥ = cc in wrong)
  same_losses (x ∷ xs) (y ∷ ys) e f g =
      let node : x.node ≡ y.node = cc in
      let rest : map (λ (loss : Loss). loss.node) xs ≡ map (λ (loss : Loss). loss.node) ys = cc in
      let first : x ≡ y = one_loss x y node (f x (at_head x xs x refl)) (g y (at_head y ys y refl)) in
      let others : xs ≡ ys = same_losses xs ys rest (λ loss h. f loss (in_rest x xs loss h)) (λ loss h. g loss (in_rest y ys loss h)) in
      ap (λ (loss : Loss). loss ∷ xs) first ∙ ap (λ (losses : List Loss). y ∷ losses) others

  pub one_report : (one other : Report) → AreAllLosses c es ps one → AreAllLosses c es ps other → one ≡ other
  one_report one other a b =
      let same : one.losses ≡ other.losses = same_losses one.losses other.losses (a.nodes_lost ∙ sym b.nodes_lost) a.each b.each in
      λ i. record { losses = same i }
