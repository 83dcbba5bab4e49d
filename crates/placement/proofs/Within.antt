-- What may be chosen is a node of the cluster.
use Rattle.std.proofs.Common.{◌≡◌, ℕ, ◌<◌, true, nat_lt, length}
use Rattle.std.proofs.lemmas.Bool.{ltb-true}
use Rattle.lemmas.proofs.Booleans.{first_of_three, sooner}
use Rattle.cluster_types.specs.declared.cluster.Cluster.{Cluster}
use Rattle.cluster_types.specs.declared.placement.Decision.{Decision}
use Rattle.cluster_types.specs.declared.states.Rights.{Rights}
use Rattle.cluster_types.specs.declared.states.States.{States}
use Rattle.cluster_types.specs.Choice.{is_placed_for}
use Rattle.cluster_types.specs.Tables.{Targets}
use Rattle.placement.specs.UsableNodes.{is_usable_by}
use Rattle.placement.specs.Inner.Reads.{is_open_in, is_permitted_in}

pub open-within : (c : Cluster) (states : States) (rights : Rights) (table : Targets) (d : Decision) (n : ℕ) → is_open_in c states rights table d n ≡ true → n < length c.nodes
open-within c states rights table d n h =
    ltb-true n (length c.nodes)
    (sooner (nat_lt n (length c.nodes)) _ (first_of_three (is_usable_by c states n) (is_permitted_in c states rights d n) (is_placed_for table d n) h))
