-- The rules of a cluster whose colocations and orders are valid have what the calls ask of them.
use Rattle.std.proofs.Common.{◌≢◌, ℕ, Contains}
use Rattle.cluster_types.specs.declared.cluster.Cluster.{Cluster}
use Rattle.cluster_types.specs.declared.leaf.Op.{Op}
use Rattle.cluster_types.specs.declared.leaf.Op.TheVariants.{Start, Stop, Promote, Demote, Monitor}
use Rattle.cluster_types.specs.declared.rules.Colocation.{Colocation}
use Rattle.cluster_types.specs.declared.rules.Order.{Order}
use Rattle.cluster_types.specs.Valid.{IsValidColocation, IsValidOrder, FitsRole, MayHaveWord}
use Rattle.cluster_types.proofs.RuleLeaves.{role_leaf, word_leaf}
use Rattle.loops.specs.FirstLoops.{AllJoin, AllOrder, JoinsLeaves, OrdersSteps}

word_changes : (c : Cluster) (r : ℕ) (o : Op) → MayHaveWord c r o → o ≢ Monitor
word_changes c r Start h e = cc
word_changes c r Stop h e = cc
word_changes c r Promote h e = cc
word_changes c r Demote h e = cc
word_changes c r Monitor h e = h

roles_join : (c : Cluster) (col : Colocation) → FitsRole c col.dependent col.dependent_role → FitsRole c col.primary col.primary_role
    → JoinsLeaves c col
roles_join c col dependent primary = record {
  dependent = role_leaf c col.dependent col.dependent_role dependent;
  primary = role_leaf c col.primary col.primary_role primary;
}

words_order : (c : Cluster) (o : Order) → MayHaveWord c o.first o.first_op → MayHaveWord c o.then_leaf o.then_op → OrdersSteps c o
words_order c o first later = record {
  first = word_leaf c o.first o.first_op first;
  later = word_leaf c o.then_leaf o.then_op later;
  first_word = word_changes c o.first o.first_op first;
  later_word = word_changes c o.then_leaf o.then_op later;
}

pub valid_join : (c : Cluster) → ((col : Colocation) → Contains c.colocations col → IsValidColocation c col) → AllJoin c
valid_join c valid col h = let v = valid col h in roles_join c col v.dependent v.primary

pub valid_order : (c : Cluster) → ((o : Order) → Contains c.orders o → IsValidOrder c o) → AllOrder c
valid_order c valid o h = let v = valid o h in words_order c o v.first v.later
