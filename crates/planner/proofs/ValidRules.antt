-- What a valid cluster says of the leaves of its rules, and actions within it of theirs.
use Rattle.std.proofs.Common.{◌<◌, List, length, All, Contains, IfSome}
use Rattle.lemmas.proofs.Searches.{all_where}
use Rattle.cluster_types.specs.declared.cluster.Cluster.{Cluster}
use Rattle.cluster_types.specs.declared.journal.Action.{Action}
use Rattle.cluster_types.specs.declared.journal.Action.TheVariants.{Fence, Probe, Operation, MigrateTo, MigrateFrom}
use Rattle.cluster_types.specs.declared.rules.Colocation.{Colocation}
use Rattle.cluster_types.specs.declared.rules.Order.{Order}
use Rattle.cluster_types.specs.Valid.{IsValid}
use Rattle.cluster_types.proofs.RuleLeaves.{role_leaf, word_leaf}
use Rattle.planner.specs.Inner.Flags.{send_if}
use Rattle.planner.specs.Inner.Index.{leaf_if}
use Rattle.planner.specs.ActionNames.{IsActionWithin}

pub dependents : (c : Cluster) → IsValid c → All (λ (col : Colocation). col.dependent < length c.leaves) c.colocations
dependents c v = all_where _ c.colocations (λ col h. role_leaf c col.dependent col.dependent_role (v.colocations col h).dependent)

pub primaries : (c : Cluster) → IsValid c → All (λ (col : Colocation). col.primary < length c.leaves) c.colocations
primaries c v = all_where _ c.colocations (λ col h. role_leaf c col.primary col.primary_role (v.colocations col h).primary)

pub firsts : (c : Cluster) → IsValid c → All (λ (o : Order). o.first < length c.leaves) c.orders
firsts c v = all_where _ c.orders (λ o h. word_leaf c o.first o.first_op (v.orders o h).first)

pub thens : (c : Cluster) → IsValid c → All (λ (o : Order). o.then_leaf < length c.leaves) c.orders
thens c v = all_where _ c.orders (λ o h. word_leaf c o.then_leaf o.then_op (v.orders o h).later)

its_leaf : (c : Cluster) (a : Action) → IsActionWithin c a → IfSome (leaf_if a) (λ r. r < length c.leaves)
its_leaf c (Fence n) h = tt
its_leaf c (Probe r n) h = h.0
its_leaf c (Operation o r n i role) h = h.0
its_leaf c (MigrateTo r s t) h = h.0
its_leaf c (MigrateFrom r s t) h = h.0

its_sent : (c : Cluster) (a : Action) → IsActionWithin c a → IfSome (send_if a) (λ r. r < length c.leaves)
its_sent c (Fence n) h = tt
its_sent c (Probe r n) h = tt
its_sent c (Operation o r n i role) h = tt
its_sent c (MigrateTo r s t) h = h.0
its_sent c (MigrateFrom r s t) h = tt

module _ (c : Cluster) (actions : List Action) (inside : (a : Action) → Contains actions a → IsActionWithin c a) where
  pub sent_leaves : All (λ a. IfSome (send_if a) (λ r. r < length c.leaves)) actions
  sent_leaves = all_where _ actions (λ a h. its_sent c a (inside a h))

  pub leaves_within : (a : Action) → Contains actions a → IfSome (leaf_if a) (λ r. r < length c.leaves)
  leaves_within a h = its_leaf c a (inside a h)
