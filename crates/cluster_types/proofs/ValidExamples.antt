-- Examples of clusters that are valid, and of loops, which are not, proved from the definitions.
use Rattle.std.proofs.Common.{◌≡◌, ◌≢◌, ℕ, pos, true, false, List, [], ◌∷◌, ◌<◌, ap, refl, arith}
use Rattle.std.specs.Prelude.{codes, slice_index}
use Rattle.lemmas.proofs.Searches.{of_none}
use Rattle.edges.specs.Chains.{linked, link_then, one_link}
use Rattle.cluster_types.specs.declared.cluster.Cluster.{Cluster}
use Rattle.cluster_types.specs.declared.leaf.Op.TheVariants.{Start, Stop}
use Rattle.cluster_types.specs.declared.node.Node.{Node}
use Rattle.cluster_types.specs.declared.placement.Decision.{Decision}
use Rattle.cluster_types.specs.declared.placement.Decision.TheVariants.{Place, Promote}
use Rattle.cluster_types.specs.Decisions.{NeedsByChain, NeedsHaveNoLoop, all_decisions, is_place, needs}
use Rattle.cluster_types.specs.Numbers.{IsStepLink, LeafStep, StepsHaveNoLoop, link, step_of}
use Rattle.cluster_types.specs.Valid.{IsValid, IsValidNode, IsValidLeaf}
use Rattle.cluster_types.proofs.Few.{of_one, of_two, pair_of_two}
use Rattle.cluster_types.proofs.SmallClusters.{node, plain_leaf, two_nodes, colocation, start_order}

abbrev pair : Cluster
pair = two_nodes (plain_leaf (codes "a") ∷ plain_leaf (codes "b") ∷ [])

-- a starts before b, and b before a
abbrev looped_orders : Cluster
looped_orders = record pair { orders = start_order (codes "o") 0 1 false ∷ start_order (codes "p") 1 0 false ∷ [] }

orders_have_a_loop : StepsHaveNoLoop looped_orders → ⊥
orders_have_a_loop h =
    h (step_of Start 0) (link_then (step_of Start 0) (step_of Start 1) (step_of Start 0) (linked (link Start 0 Start 1) (0, omega arith, refl)) tt
    (one_link (step_of Start 1) (step_of Start 0) (linked (link Start 1 Start 0) (2, omega arith, refl))))

-- the stops have one too
stops_have_a_loop : StepsHaveNoLoop looped_orders → ⊥
stops_have_a_loop h =
    h (step_of Stop 1) (link_then (step_of Stop 1) (step_of Stop 0) (step_of Stop 1) (linked (link Stop 1 Stop 0) (1, omega arith, refl)) tt
    (one_link (step_of Stop 0) (step_of Stop 1) (linked (link Stop 0 Stop 1) (3, omega arith, refl))))

-- a must be with b, and b likes to be with a
abbrev looped_needs : Cluster
looped_needs = record pair { colocations = colocation (codes "x") 0 1 (pos 1000000) ∷ colocation (codes "y") 1 0 (pos 5) ∷ [] }

needs_have_a_loop : NeedsHaveNoLoop looped_needs → ⊥
needs_have_a_loop h =
    h (Place 0) (link_then (Place 0) (Place 1) (Place 0) (record { there = (2, omega arith, refl); needed = refl }) tt
    (one_link (Place 1) (Place 0) (record { there = (0, omega arith, refl); needed = refl })))

abbrev one : Cluster
one = two_nodes (plain_leaf (codes "vip") ∷ [])

-- without colocations each need leads from a promotion to a place
from_promotion : (d e : Decision) → needs one d e ≡ true → is_place d ≡ false
from_promotion (Place r) e h = cc
from_promotion (Promote r) e h = refl

to_place : (d e : Decision) → needs one d e ≡ true → is_place e ≡ true
to_place (Place r) e h = cc
to_place (Promote r) (Place s) h = refl
to_place (Promote r) (Promote s) h = cc

starts_promotion : (d e : Decision) → NeedsByChain one (all_decisions one) d e → is_place d ≡ false
starts_promotion _ _ (one_link d e n) = from_promotion d e n.needed
starts_promotion _ _ (link_then d e f n _ rest) = from_promotion d e n.needed

ends_place : (d e : Decision) → NeedsByChain one (all_decisions one) d e → is_place e ≡ true
ends_place _ _ (one_link d e n) = to_place d e n.needed
ends_place _ _ (link_then d e f n _ rest) = ends_place e f rest

no_needs : NeedsHaveNoLoop one
no_needs d ring = let s = starts_promotion d d ring in let e = ends_place d d ring in cc

no_link : (s t : LeafStep) → IsStepLink one s t → ⊥
no_link _ _ (linked l h) = of_none (λ _. ⊥) l h

no_links : StepsHaveNoLoop one
no_links s (one_link _ _ l) = no_link s s l
no_links s (link_then _ t _ l _ rest) = no_link s t l

names_differ : codes "n1" ≢ codes "n2"
names_differ e = let digits : slice_index (codes "n1") 1 ≡ slice_index (codes "n2") 1 = ap (λ (name : List ℕ). slice_index name 1) e in
    let clash : 49 ≡ 50 = digits in omega (arith, clash)

is_valid : IsValid one
is_valid = record {
  limits = record { nodes = omega arith; leaves = omega arith; rules = omega arith };
  nodes = λ n k. of_two IsValidNode (node (codes "n1")) (node (codes "n2")) n (record { name = refl }) (record { name = refl }) k;
  leaves = λ l k. of_one IsValidLeaf (plain_leaf (codes "vip")) l (record {
    name = refl;
    copies = λ e. refl;
    few_monitors = omega arith;
    intervals = λ m k. of_none (λ m. 0 < m.interval_ms) m k;
    all_differ = λ i j d h l. absurd (omega arith);
  }) k;
  locations = λ l k. absurd (of_none (λ _. ⊥) l k);
  rule_locations = λ l k. absurd (of_none (λ _. ⊥) l k);
  colocations = λ l k. absurd (of_none (λ _. ⊥) l k);
  orders = λ l k. absurd (of_none (λ _. ⊥) l k);
  node_names = pair_of_two (λ (one other : Node). one.name ≢ other.name) (node (codes "n1")) (node (codes "n2")) names_differ;
  leaf_names = λ i j d h l. absurd (omega arith);
  needs = no_needs;
  steps = no_links;
}
