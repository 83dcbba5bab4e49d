-- Examples of totals and choice, computed from the definitions.
use Rattle.std.proofs.Common.{◌≡◌, pos, neg_ℤ, true, false, List, [], ◌∷◌, refl}
use Rattle.std.specs.Prelude.{codes}
use Rattle.cluster_types.specs.declared.cluster.Cluster.{Cluster}
use Rattle.cluster_types.specs.declared.journal.Event.{Event}
use Rattle.cluster_types.specs.declared.leaf.Leaf.{Leaf}
use Rattle.cluster_types.specs.declared.leaf.Op.TheVariants.{Start}
use Rattle.cluster_types.specs.declared.placement.Decision.TheVariants.{Place}
use Rattle.cluster_types.specs.declared.placement.Target.TheVariants as target
use Rattle.cluster_types.specs.Choice.{total_on, is_chosen, after_decisions}
use Rattle.cluster_types.specs.Decisions.{is_ready}
use Rattle.cluster_types.specs.Terms.{lenders}
use Rattle.cluster_types.proofs.SmallClusters.{plain_leaf, two_nodes, location, colocation, start_order, did, probed, online, no_targets}

abbrev vip : Leaf
vip = plain_leaf (codes "vip")

-- The scores of three locations add up, and n1 is chosen.

abbrev summed : Cluster
summed = record (two_nodes (vip ∷ [])) {
  locations = location (codes "a") 0 0 (pos 999999) ∷ location (codes "b") 0 0 (pos 5) ∷ location (codes "c") 0 0 (neg_ℤ (pos 10)) ∷ [];
}

summed_here : total_on summed (online [] 1000) [] no_targets (Place 0) 0 ≡ pos 999994
summed_here = refl

summed_there : total_on summed (online [] 1000) [] no_targets (Place 0) 1 ≡ pos 0
summed_there = refl

summed_chosen : is_chosen summed (online [] 1000) [] no_targets (Place 0) 0 ≡ true
summed_chosen = refl

summed_not_chosen : is_chosen summed (online [] 1000) [] no_targets (Place 0) 1 ≡ false
summed_not_chosen = refl

-- -INFINITY wins over INFINITY.

abbrev infinities : Cluster
infinities = record (two_nodes (vip ∷ [])) {
  locations = location (codes "a") 0 0 (pos 1000000) ∷ location (codes "b") 0 0 (neg_ℤ (pos 1000000)) ∷ [];
}

infinities_here : total_on infinities (online [] 1000) [] no_targets (Place 0) 0 ≡ neg_ℤ (pos 1000000)
infinities_here = refl

infinities_elsewhere : is_chosen infinities (online [] 1000) [] no_targets (Place 0) 1 ≡ true
infinities_elsewhere = refl

-- A resource stays where it runs by its stickiness, and moves when its node is lost.

abbrev sticky : Cluster
sticky = two_nodes (record vip { stickiness = pos 100 } ∷ [])

abbrev runs_on_n2 : List Event
runs_on_n2 = online (did Start 0 1 0 900 ∷ probed 0 0 7 900 ∷ []) 1000

stays : is_chosen sticky runs_on_n2 [] no_targets (Place 0) 1 ≡ true
stays = refl

-- Of equal totals the node with fewer resources goes first, and of equal loads the earlier node.

abbrev pair : Cluster
pair = two_nodes (plain_leaf (codes "a") ∷ plain_leaf (codes "b") ∷ [])

first_of_the_pair : after_decisions pair (online [] 1000) [] no_targets (Place 0 ∷ []) 0 0 ≡ target.Started
first_of_the_pair = refl

second_of_the_pair : after_decisions pair (online [] 1000) [] no_targets (Place 0 ∷ Place 1 ∷ []) 1 1 ≡ target.Started
second_of_the_pair = refl

-- A dependent that can't run anywhere: b is decided before a, since a needs it.

abbrev held : Cluster
held = record (two_nodes (plain_leaf (codes "a") ∷ plain_leaf (codes "b") ∷ [])) {
  locations = location (codes "l1") 0 0 (neg_ℤ (pos 1000000)) ∷ location (codes "l2") 0 1 (neg_ℤ (pos 1000000)) ∷ [];
  colocations = colocation (codes "c") 0 1 (pos 1000000) ∷ [];
  orders = start_order (codes "o") 0 1 false ∷ [];
}

primary_is_ready : is_ready held (online [] 1000) [] (Place 1) ≡ true
primary_is_ready = refl

dependent_waits : is_ready held (online [] 1000) [] (Place 0) ≡ false
dependent_waits = refl

-- a can't lend its terms, since no node would be left
dependent_is_lender : lenders held 1 ≡ 0 ∷ []
dependent_is_lender = refl

primary_total : total_on held (online [] 1000) [] no_targets (Place 1) 0 ≡ pos 0
primary_total = refl

dependent_total : total_on held (online [] 1000) [] (after_decisions held (online [] 1000) [] no_targets (Place 1 ∷ [])) (Place 0) 0 ≡ neg_ℤ (pos 1000000)
dependent_total = refl

primary_is_chosen : after_decisions held (online [] 1000) [] no_targets (Place 1 ∷ Place 0 ∷ []) 1 0 ≡ target.Started
primary_is_chosen = refl

dependent_is_not : after_decisions held (online [] 1000) [] no_targets (Place 1 ∷ Place 0 ∷ []) 0 0 ≡ target.Nowhere
dependent_is_not = refl
