-- Whether two decisions are one.
use Rattle.std.proofs.Common.{◌≡◌, ℕ, ◌<◌, length, refl}
use Rattle.lemmas.proofs.Booleans.{equal_turned}
use Rattle.cluster_types.specs.declared.cluster.Cluster.{Cluster}
use Rattle.cluster_types.specs.declared.leaf.Role.{Role}
use Rattle.cluster_types.specs.declared.leaf.Role.TheVariants as role
use Rattle.cluster_types.specs.declared.placement.Decision.{Decision}
use Rattle.cluster_types.specs.declared.placement.Decision.TheVariants.{Place, Promote}
use Rattle.cluster_types.specs.Decisions.{decision_of, is_same_decision, leaf_of}
use Rattle.cluster_types.specs.Valid.{FitsRole}

pub same-turned : (d e : Decision) → is_same_decision d e ≡ is_same_decision e d
same-turned (Place r) (Place s) = equal_turned r s
same-turned (Promote r) (Promote s) = equal_turned r s
same-turned (Place r) (Promote s) = refl
same-turned (Promote r) (Place s) = refl

-- the decision that gives a role is of the leaf
pub role-within : (c : Cluster) (r : ℕ) (as_role : Role) → FitsRole c r as_role → leaf_of (decision_of r as_role) < length c.leaves
role-within c r role.Started h = h
role-within c r role.Promoted h = h.0
