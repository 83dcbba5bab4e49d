-- Two plans for one journal are one.
use Rattle.std.proofs.Common.{◌≡◌, List, sym, subst}
use Rattle.cluster_types.specs.declared.cluster.Cluster.{Cluster}
use Rattle.cluster_types.specs.declared.journal.Action.{Action}
use Rattle.cluster_types.specs.declared.journal.Event.{Event}
use Rattle.cluster_types.specs.declared.journal.Promotion.{Promotion}
use Rattle.cluster_types.specs.declared.placement.Placed.{Placed}
use Rattle.cluster_types.specs.NeededActions.{Needed}
use Rattle.cluster_types.specs.Numbers.{AreNumbered}
use Rattle.cluster_types.specs.Plans.{IsPlan}
use Rattle.cluster_types.specs.Tables.{targets_of}
use Rattle.cluster_types.proofs.NumberLaws as numbers
use Rattle.plan_laws.proofs.OnePlacement.{one_placement}

module _ (c : Cluster) (es : List Event) (ps : List Promotion) (one other : Placed) (xs ys : List Action) (is : IsPlan c es ps one xs) (too : IsPlan c es ps other ys) where
  pub one_placed : one ≡ other
  one_placed = one_placement c es ps one other is.goals too.goals

  pub one_list : xs ≡ ys
  one_list =
      numbers.one_list c (Needed c es (targets_of one.table)) xs ys is.numbered
      (subst (λ (p : Placed). AreNumbered c (Needed c es (targets_of p.table)) ys) (sym one_placed) too.numbered)
