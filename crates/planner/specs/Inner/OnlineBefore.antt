-- Which nodes are online, up to one of them (rule of this project).
use Rattle.std.specs.Prelude.{ℕ, List, filter}
use Rattle.std.specs.List.{range_with_len}
use Rattle.cluster_types.specs.declared.cluster.Cluster.{Cluster}
use Rattle.cluster_types.specs.declared.journal.Event.{Event}
use Rattle.cluster_types.specs.NodeStates.{is_online}

-- the nodes before this one that are online, in their order
abbrev pub online_before : Cluster → List Event → ℕ → List ℕ
online_before c es upto = filter (λ n. is_online c n es) (range_with_len 0 upto)
