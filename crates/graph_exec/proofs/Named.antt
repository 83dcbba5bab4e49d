-- What holds a leaf back is a rule of the cluster, so it has a name.
use Rattle.std.proofs.Common.{◌≡◌, ℕ, true, List, ◌⊎◌, inl, inr}
use Rattle.std.specs.Prelude.{Some}
use Rattle.std.specs.List.{AllByRecursion}
use Rattle.cluster_types.specs.declared.cluster.Cluster.{Cluster}
use Rattle.cluster_types.specs.declared.journal.Event.{Event}
use Rattle.cluster_types.specs.declared.journal.Promotion.{Promotion}
use Rattle.cluster_types.specs.declared.placement.NoReason.TheVariants.{Held}
use Rattle.cluster_types.specs.declared.placement.Placed.{Placed}
use Rattle.cluster_types.specs.declared.rules.Colocation.{Colocation}
use Rattle.cluster_types.specs.declared.rules.Order.{Order}
use Rattle.cluster_types.specs.Plans.{IsPlaced}
use Rattle.cluster_types.specs.Reasons.{IsFirstOf, IsHeldByColocation, IsHeldByOrder}
use Rattle.cluster_types.specs.Tables.{Targets}
use Rattle.cluster_types.specs.Valid.{IsValid}
use Rattle.cluster_types.proofs.LeafReasons.{reason_told}
use Rattle.crm_lex.specs.Names.{is_name}
use Rattle.plan_laws.proofs.Firsts.{first_in}
use Rattle.graph_exec.specs.WatcherLines.{ReasonsHaveNames}

module _ (c : Cluster) (valid : IsValid c) where
  rule_named : (es : List Event) (table : Targets) (r node : ℕ) (id : List ℕ)
      → ((col : Colocation) × IsFirstOf (IsHeldByColocation c es table r node) c.colocations col × (id ≡ col.id))
      ⊎ (AllByRecursion (λ col. ¬ IsHeldByColocation c es table r node col) c.colocations
      × ((o : Order) × IsFirstOf (IsHeldByOrder c es table r node) c.orders o × (id ≡ o.id)))
      → is_name id ≡ true
  rule_named es table r node id (inl (col, first, is)) = rw is (valid.colocations col (first_in _ c.colocations col first)).id
  rule_named es table r node id (inr (none, (o, first, is))) = rw is (valid.orders o (first_in _ c.orders o first)).id

  pub reasons_named : (es : List Event) (promotions : List Promotion) (placed : Placed) → IsPlaced c es promotions placed → ReasonsHaveNames placed
  reasons_named es promotions placed is r id held =
      let why = reason_told c es promotions placed is r (Some (Held id)) held in
      let by = why.2.1 in
      rule_named es _ r by.node id by.rule
