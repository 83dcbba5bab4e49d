-- An example of a resource that is held back by an order, proved from the definitions.
use Rattle.std.proofs.Common.{◌≡◌, ℕ, neg_ℤ, pos, false, List, [], ◌∷◌, ◌<◌, inr, refl, arith, Some}
use Rattle.std.specs.Prelude.{codes}
use Rattle.cluster_types.specs.declared.cluster.Cluster.{Cluster}
use Rattle.cluster_types.specs.declared.journal.Event.{Event}
use Rattle.cluster_types.specs.declared.leaf.Role.TheVariants as role
use Rattle.cluster_types.specs.declared.placement.Decision.TheVariants.{Place}
use Rattle.cluster_types.specs.declared.placement.NoReason.TheVariants as none
use Rattle.cluster_types.specs.declared.placement.Target.TheVariants as target
use Rattle.cluster_types.specs.declared.rules.Order.{Order}
use Rattle.cluster_types.specs.Held.{OrderCanHoldBack, Held, by_order, IsFinalTarget, AreTargets}
use Rattle.cluster_types.specs.Reasons.{HasReason, IsHeldByOrder}
use Rattle.cluster_types.specs.Tables.{Targets, holds_role}
use Rattle.cluster_types.proofs.Few.{below_two}
use Rattle.cluster_types.proofs.SmallClusters.{plain_leaf, two_nodes, location, colocation, start_order, online, no_targets}
use Rattle.cluster_types.proofs.SmallRuns.{table_by}

-- b starts after a, which must be with b, and which no node may have

abbrev order : Order
order = start_order (codes "o") 0 1 false

abbrev tied : Cluster
tied = record (two_nodes (plain_leaf (codes "a") ∷ plain_leaf (codes "b") ∷ [])) {
  locations = location (codes "l1") 0 0 (neg_ℤ (pos 1000000)) ∷ location (codes "l2") 0 1 (neg_ℤ (pos 1000000)) ∷ [];
  colocations = colocation (codes "c") 0 1 (pos 1000000) ∷ [];
  orders = order ∷ [];
}

abbrev idle : List Event
idle = online [] 0

abbrev chosen : Targets
chosen = table_by tied idle (Place 1 ∷ Place 0 ∷ [])

b_is_chosen : chosen 1 0 ≡ target.Started
b_is_chosen = refl

a_is_nowhere : (m : ℕ) → m < 2 → holds_role chosen 0 role.Started m ≡ false
a_is_nowhere = below_two (λ m. holds_role chosen 0 role.Started m ≡ false) refl refl

b_may_be_held : OrderCanHoldBack tied idle chosen order 0
b_may_be_held = record {
  present = (0, omega arith, refl);
  mandatory = refl;
  first_gives = refl;
  then_gives = refl;
  not_pinned = refl;
  within = omega arith;
  chosen = refl;
}

b_is_held : Held tied idle chosen (Place 1) 0
b_is_held = by_order order 0 b_may_be_held
    (λ m h s p. let q = a_is_nowhere m h in cc)

nothing_is_left : AreTargets tied idle chosen no_targets
nothing_is_left r n h l = below_two (λ r. (n : ℕ) → n < 2 → IsFinalTarget tied idle chosen r n target.Nowhere)
    (below_two (λ n. IsFinalTarget tied idle chosen 0 n target.Nowhere) (λ p. cc) (λ p. cc))
    (below_two (λ n. IsFinalTarget tied idle chosen 1 n target.Nowhere) (λ p. b_is_held) (λ p. cc)) r h n l

held_by_the_order : IsHeldByOrder tied idle chosen 1 0 order
held_by_the_order = record {
  mandatory = refl;
  later = refl;
  starts = refl;
  first_gives = refl;
  lacking = λ m h s p. let q = a_is_nowhere m h in cc;
}

-- the colocation doesn't hold b: it is the primary

b_names_the_order : HasReason tied idle chosen no_targets 1 (Some (none.Held (codes "o")))
b_names_the_order = (
  refl,
  (λ n h. refl),
  (
    refl,
    record {
      node = 0;
      chosen = refl;
      earliest = λ m h. absurd (omega arith);
      rule = inr (((λ h. let d = h.dependent in cc), tt), (order, record { before = []; after = []; split = refl; none_before = tt; holds = held_by_the_order }, refl));
    },
  ),
)

a_has_no_node : HasReason tied idle chosen no_targets 0 (Some none.NoNode)
a_has_no_node = (refl, (λ n h. refl), refl)
