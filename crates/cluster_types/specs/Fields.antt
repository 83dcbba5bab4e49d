-- What a cluster says of one of its leaves, by its number. A number that the cluster doesn't have gets 0, an empty text or list, false, `restart` or `Started`, which isn't always
-- the default of the setting (rule of this project).
use Rattle.std.specs.Prelude.{ℕ, ℤ, pos, Bool, false, List, [], slice_get}
use Rattle.std.specs.Option.{option_map_or}
use Rattle.cluster_types.specs.declared.cluster.Cluster.{Cluster}
use Rattle.cluster_types.specs.declared.leaf.Leaf.{Leaf}
use Rattle.cluster_types.specs.declared.leaf.Monitor.{Monitor}
use Rattle.cluster_types.specs.declared.leaf.OnFail.{OnFail}
use Rattle.cluster_types.specs.declared.leaf.OnFail.TheVariants as on_fail
use Rattle.cluster_types.specs.declared.leaf.TargetRole.{TargetRole}
use Rattle.cluster_types.specs.declared.leaf.TargetRole.TheVariants as target_role

module _ (c : Cluster) (r : ℕ) where
  -- what the leaf of the number says, or else this
  abbrev pub of_leaf : {A : Type 0} → (Leaf → A) → A → A
  of_leaf says plainest = option_map_or says (slice_get c.leaves r) plainest

  abbrev pub leaf_name : List ℕ
  leaf_name = of_leaf (λ leaf. leaf.name) []

  abbrev pub copies : ℕ
  copies = of_leaf (λ leaf. leaf.copies) 0

  abbrev pub promoted_copies : ℕ
  promoted_copies = of_leaf (λ leaf. leaf.promoted_copies) 0

  abbrev pub is_cloned : Bool
  is_cloned = of_leaf (λ leaf. leaf.cloned) false

  abbrev pub is_promotable : Bool
  is_promotable = of_leaf (λ leaf. leaf.promotable) false

  abbrev pub is_follower : Bool
  is_follower = of_leaf (λ leaf. leaf.follower) false

  abbrev pub is_managed : Bool
  is_managed = of_leaf (λ leaf. leaf.managed) false

  abbrev pub may_migrate : Bool
  may_migrate = of_leaf (λ leaf. leaf.migrates) false

  -- in points
  abbrev pub priority : ℤ
  priority = of_leaf (λ leaf. leaf.priority) (pos 0)

  -- migration-threshold in points; 0 is none
  abbrev pub threshold : ℤ
  threshold = of_leaf (λ leaf. leaf.threshold) (pos 0)

  -- in milliseconds; 0 is never
  abbrev pub failure_timeout : ℕ
  failure_timeout = of_leaf (λ leaf. leaf.timeout_ms) 0

  abbrev pub monitors : List Monitor
  monitors = of_leaf (λ leaf. leaf.monitors) []

  abbrev pub target_role_of : TargetRole
  target_role_of = of_leaf (λ leaf. leaf.target_role) target_role.Started

  abbrev pub start_on_fail : OnFail
  start_on_fail = of_leaf (λ leaf. leaf.start_fail) on_fail.Restart

  abbrev pub stop_on_fail : OnFail
  stop_on_fail = of_leaf (λ leaf. leaf.stop_fail) on_fail.Restart

  abbrev pub promote_on_fail : OnFail
  promote_on_fail = of_leaf (λ leaf. leaf.promote_fail) on_fail.Restart

  abbrev pub demote_on_fail : OnFail
  demote_on_fail = of_leaf (λ leaf. leaf.demote_fail) on_fail.Restart
