-- What the loss of each node does (rule of this project).
use Rattle.std.specs.Prelude.{◌≡◌, ℕ, List, [], ◌∷◌, ◌++◌, length, map, filter, Contains}
use Rattle.std.specs.List.{range_with_len}
use Rattle.cluster_types.specs.declared.cluster.Cluster.{Cluster}
use Rattle.cluster_types.specs.declared.journal.Event.{Event}
use Rattle.cluster_types.specs.declared.journal.Event.TheVariants.{Lost}
use Rattle.cluster_types.specs.declared.journal.Promotion.{Promotion}
use Rattle.cluster_types.specs.declared.placement.Placed.{Placed}
use Rattle.cluster_types.specs.NodeStates.{is_online}
use Rattle.cluster_types.specs.Plans.{IsPlaced}
use Rattle.cluster_types.specs.declared.report.Loss.{Loss}
use Rattle.cluster_types.specs.declared.report.Report.{Report}

module _ (c : Cluster) (es : List Event) (promotions : List Promotion) where
  -- the loss has the pins, the table and the reasons of the placement for the journal with the loss of its node behind it
  pub record IsLoss (loss : Loss) : Type 0 where
    pub placed : Placed
    pub is : IsPlaced c (es ++ Lost loss.node ∷ []) promotions placed
    pub pins : loss.pins ≡ placed.pins
    pub table : loss.table ≡ placed.table
    pub none : loss.none ≡ placed.none

  -- the losses of some nodes: one of each, in their order
  pub record AreLosses (nodes : List ℕ) (losses : List Loss) : Type 0 where
    pub nodes_lost : map (λ (loss : Loss). loss.node) losses ≡ nodes
    pub each : (loss : Loss) → Contains losses loss → IsLoss loss

-- the nodes that are online, in their order
abbrev pub online_nodes : Cluster → List Event → List ℕ
online_nodes c es = filter (λ n. is_online c n es) (range_with_len 0 (length c.nodes))

-- what the loss of each online node does, in the order of the nodes
abbrev pub AreAllLosses : Cluster → List Event → List Promotion → Report → Type 0
AreAllLosses c es promotions report = AreLosses c es promotions (online_nodes c es) report.losses
