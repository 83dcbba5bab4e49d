-- The leaves that valid rules speak of are of the cluster.
use Rattle.std.proofs.Common.{◌<◌, ℕ, length}
use Rattle.cluster_types.specs.declared.cluster.Cluster.{Cluster}
use Rattle.cluster_types.specs.declared.leaf.Op.{Op}
use Rattle.cluster_types.specs.declared.leaf.Op.TheVariants.{Start, Stop, Promote, Demote, Monitor}
use Rattle.cluster_types.specs.declared.leaf.Role.{Role}
use Rattle.cluster_types.specs.declared.leaf.Role.TheVariants.{Started, Promoted}
use Rattle.cluster_types.specs.Valid.{FitsRole, MayHaveWord}

pub role_leaf : (c : Cluster) (r : ℕ) (role : Role) → FitsRole c r role → r < length c.leaves
role_leaf c r Started h = h
role_leaf c r Promoted h = h.0

pub word_leaf : (c : Cluster) (r : ℕ) (word : Op) → MayHaveWord c r word → r < length c.leaves
word_leaf c r Start h = h
word_leaf c r Stop h = h
word_leaf c r Promote h = h.0
word_leaf c r Demote h = h.0
word_leaf c r Monitor h = absurd h
