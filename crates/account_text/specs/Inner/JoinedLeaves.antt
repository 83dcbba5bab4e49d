-- Leaves that have joined, with the row of their own terms.
use Rattle.std.specs.Prelude.{◌≡◌, ℕ, List, length}
use Rattle.cluster_types.specs.declared.cluster.Cluster.{Cluster}
use Rattle.cluster_types.specs.declared.states.States.{States}
use Rattle.placement.specs.Inner.OwnRows.{terms_by}
use Rattle.placement.specs.Rows.{IsRow}
use Rattle.account_text.specs.declared.joining.Joined.{Joined}

pub record IsJoined (c : Cluster) (states : States) (leaves : List ℕ) (joined : Joined) : Type 0 where
  pub are : joined.leaves.items ≡ leaves
  pub row : IsRow (length c.nodes) (terms_by c states leaves) joined.row
