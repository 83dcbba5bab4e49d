-- Examples of locations by rules, computed from the definitions.
use Rattle.std.proofs.Common.{◌≡◌, neg_ℤ, pos, true, false, [], ◌∷◌, refl, map}
use Rattle.std.specs.Prelude.{codes}
use Rattle.date_rules.specs.Rule.{holds}
use Rattle.date_rules.specs.declared.rule.Compare.TheVariants.{Eq}
use Rattle.date_rules.specs.declared.rule.Kind.TheVariants.{Auto}
use Rattle.date_rules.specs.declared.rule.Rule.{Rule}
use Rattle.date_rules.specs.declared.rule.Test.TheVariants.{Attribute, Before}
use Rattle.cluster_types.specs.declared.cluster.Cluster.{Cluster}
use Rattle.cluster_types.specs.declared.leaf.Leaf.{Leaf}
use Rattle.cluster_types.specs.declared.leaf.Op.TheVariants.{Start}
use Rattle.cluster_types.specs.declared.leaf.Role.TheVariants as role
use Rattle.cluster_types.specs.declared.placement.Decision.TheVariants.{Place}
use Rattle.cluster_types.specs.declared.placement.Target.TheVariants as target
use Rattle.cluster_types.specs.Terms.{base}
use Rattle.cluster_types.proofs.SmallClusters.{node, plain_leaf, plain_options, two_nodes, location, did, probed, online}
use Rattle.cluster_types.proofs.SmallRuns.{table_by}

abbrev vip : Leaf
vip = plain_leaf (codes "vip")

abbrev rack_b : Rule
rack_b = record { all = true; tests = Attribute (codes "rack") Eq Auto (codes "b") ∷ [] }

-- The rule holds at n2, which is in rack b: its score counts there, and n2 is chosen.

abbrev racks : Cluster
racks = record (two_nodes (vip ∷ [])) {
  nodes = node (codes "n1") ∷ record (node (codes "n2")) { attributes = record { name = codes "rack"; value = codes "b" } ∷ [] } ∷ [];
  rule_locations = record { id = codes "l"; leaf = 0; role = role.Started; score = pos 50; rule = rack_b } ∷ [];
}

scores_by_rack : map (base racks (online [] 1000) [] (Place 0)) (0 ∷ 1 ∷ []) ≡ pos 0 ∷ pos 50 ∷ []
unfolding holds
scores_by_rack = refl

goes_to_rack_b : table_by racks (online [] 1000) (Place 0 ∷ []) 0 1 ≡ target.Started
unfolding holds
goes_to_rack_b = refl

-- Where no node is open by itself, the rule opens n2 alone, and so it does where it speaks of another role.

abbrev opt_in : Cluster
opt_in = record racks { properties = record plain_options { symmetric = false } }

opened_by_rack : map (base opt_in (online [] 1000) [] (Place 0)) (0 ∷ 1 ∷ []) ≡ neg_ℤ (pos 1000000) ∷ pos 50 ∷ []
unfolding holds
opened_by_rack = refl

abbrev other_role : Cluster
other_role = record opt_in {
  leaves = record vip { copies = 2; cloned = true; promotable = true } ∷ [];
  rule_locations = record { id = codes "l"; leaf = 0; role = role.Promoted; score = pos 50; rule = rack_b } ∷ [];
}

opened_by_another_role : map (base other_role (online [] 1000) [] (Place 0)) (0 ∷ 1 ∷ []) ≡ neg_ℤ (pos 1000000) ∷ pos 0 ∷ []
unfolding holds
opened_by_another_role = refl

-- A rule on n1 until a moment: from that moment on n2 is better.

abbrev until_1001 : Cluster
until_1001 = record (two_nodes (vip ∷ [])) {
  rule_locations = record {
    id = codes "l";
    leaf = 0;
    role = role.Started;
    score = pos 100;
    rule = record { all = true; tests = Before (pos 1001) ∷ Attribute (codes "#uname") Eq Auto (codes "n1") ∷ [] };
  } ∷ [];
  locations = location (codes "k") 0 1 (pos 50) ∷ [];
}

on_n1_before : table_by until_1001 (online (did Start 0 0 0 900 ∷ probed 0 1 7 900 ∷ []) 1000) (Place 0 ∷ []) 0 0 ≡ target.Started
unfolding holds
on_n1_before = refl

on_n2_from_then_on : table_by until_1001 (online (did Start 0 0 0 900 ∷ probed 0 1 7 900 ∷ []) 1001) (Place 0 ∷ []) 0 1 ≡ target.Started
unfolding holds
on_n2_from_then_on = refl
