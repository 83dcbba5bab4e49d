-- What was decided is of a leaf of the cluster, and so is each leaf that joins another.
use Rattle.std.proofs.Common.{◌≡◌, inl, inr, ℕ, ◌<◌, List, [], ◌∷◌, ◌++◌, length, Contains, subst, ap, ◌∙◌}
use Rattle.std.specs.List.{AllByRecursion}
use Rattle.lemmas.proofs.Members.{all_append, head_or_rest, in_none}
use Rattle.cluster_types.specs.declared.cluster.Cluster.{Cluster}
use Rattle.cluster_types.specs.declared.journal.Event.{Event}
use Rattle.cluster_types.specs.declared.journal.Promotion.{Promotion}
use Rattle.cluster_types.specs.declared.placement.Decided.{Decided}
use Rattle.cluster_types.specs.declared.placement.Decision.{Decision}
use Rattle.cluster_types.specs.declared.placement.Placed.{Placed}
use Rattle.cluster_types.specs.declared.states.States.{States}
use Rattle.cluster_types.specs.Choice.{after_decision}
use Rattle.cluster_types.specs.Decisions.{Decides, all_made, leaf_of, one_more}
use Rattle.cluster_types.specs.Pins.{pinned_targets}
use Rattle.cluster_types.specs.Plans.{IsPlaced, with_totals}
use Rattle.cluster_types.specs.Tables.{Targets}
use Rattle.cluster_types.specs.UnpackedStates.{states_of}
use Rattle.plan_laws.proofs.MadeOnes.{known}
use Rattle.plan_laws.proofs.MoreDecisions.{decided_by}
use Rattle.plan_laws.proofs.Ready.{ready_is_one}
use Rattle.placement.specs.Inner.LendingRows.{all_joined}
use Rattle.placement.proofs.JoinedOfStates.{all-joins}

-- an element of a list of which all have a property
among : {X : Type 0} (P : X → Type 0) (xs : List X) → AllByRecursion P xs → (x : X) → Contains xs x → P x
among P [] all x h = absurd (in_none x h)
among P (y ∷ ys) all x h = elim (head_or_rest y ys x h) [
  | inl same ↦ subst P same all.0
  | inr rest ↦ among P ys all.1 x rest
]

module _ (c : Cluster) (es : List Event) (ps : List Promotion) where
  all_below : (made all : List Decision) → Decides c es ps made all → AllByRecursion (λ (d : Decision). leaf_of d < length c.leaves) made
      → AllByRecursion (λ (d : Decision). leaf_of d < length c.leaves) all
  all_below _ _ (all_made made none) below = below
  all_below _ _ (one_more made all d next more) below =
      let k = known c es d (ready_is_one c es made d next.ready) in
      all_below (made ++ d ∷ []) all more (all_append (λ (d : Decision). leaf_of d < length c.leaves) made (d ∷ []) below (k.within, tt))

  each_below : (table : Targets) (ds : List Decision) → AllByRecursion (λ (d : Decision). leaf_of d < length c.leaves) ds → (x : Decided)
      → Contains (with_totals c es ps table ds) x → leaf_of x.decision < length c.leaves
  each_below table [] all x h = absurd (in_none x h)
  each_below table (d ∷ ds) all x h = elim (head_or_rest (decided_by c es ps table d) (with_totals c es ps (after_decision c es ps table d) ds) x h) [
    | inl same ↦ subst (λ (y : Decided). leaf_of y.decision < length c.leaves) same all.0
    | inr rest ↦ each_below (after_decision c es ps table d) ds all.1 x rest
  ]

  pub decided_below : (placed : Placed) → IsPlaced c es ps placed → (all : List Decided) → all ≡ placed.decided → (x : Decided) → Contains all x
      → leaf_of x.decision < length c.leaves
  decided_below placed is all same x h =
      each_below (pinned_targets c es) is.decisions (all_below [] is.decisions is.in_order tt) x
      (subst (λ (xs : List Decided). Contains xs x) (same ∙ is.decided) h)

  pub joined_within : (states : States) → states ≡ states_of c es ps → (r : ℕ) → r < length c.leaves → (joined : List ℕ) → joined ≡ all_joined c states r
      → (s : ℕ) → Contains joined s → s < length c.leaves
  joined_within states told r low joined is s h =
      let joins = all-joins c es ps r low in
      among (λ s. s < length c.leaves) _ joins.below s
      (subst (λ (xs : List ℕ). Contains xs s) (is ∙ ap (λ (k : States). all_joined c k r) told ∙ joins.same) h)
