-- The target lines of a placement are lines of the cluster.
use Rattle.std.proofs.Common.{arith, ◌≡◌, ◌<◌, ◌∙◌, ℕ, true, Some, List, length, inl, inr, ◌⊎◌, ap}
use Rattle.std.specs.List.{AllByRecursion}
use Rattle.crm_lex.specs.Names.{is_name}
use Rattle.cluster_types.specs.declared.cluster.Cluster.{Cluster}
use Rattle.cluster_types.specs.declared.journal.Event.{Event}
use Rattle.cluster_types.specs.declared.journal.Promotion.{Promotion}
use Rattle.cluster_types.specs.declared.placement.NoReason.{NoReason}
use Rattle.cluster_types.specs.declared.placement.NoReason.TheVariants.{Held}
use Rattle.cluster_types.specs.declared.placement.Placed.{Placed}
use Rattle.cluster_types.specs.declared.rules.Colocation.{Colocation}
use Rattle.cluster_types.specs.declared.rules.Order.{Order}
use Rattle.cluster_types.specs.declared.run.RunLine.TheVariants as line
use Rattle.cluster_types.specs.Choice.{after_decisions}
use Rattle.cluster_types.specs.Pins.{pinned_targets}
use Rattle.cluster_types.specs.Plans.{IsPlaced}
use Rattle.cluster_types.specs.Reasons.{HasReason, IsFirstOf, IsHeldBy, IsHeldByColocation, IsHeldByOrder}
use Rattle.cluster_types.specs.Tables.{Targets, targets_of}
use Rattle.cluster_types.specs.Texts.{leaf_lines, target_lines}
use Rattle.cluster_types.specs.Valid.{IsValid}
use Rattle.cluster_types.proofs.LeafReasons.{reason_told}
use Rattle.input_reading.specs.PrintedLines.{IsLineOf}
use Rattle.plan_laws.proofs.Firsts.{first_in}
use Rattle.written_runs.proofs.Each.{all_in_range, all_of_leaf}

module _ (c : Cluster) (valid : IsValid c) where
  -- the rule that holds a leaf back has a name
  held_named : (es : List Event) (table : Targets) (r : ℕ) (id : List ℕ) → IsHeldBy c es table r id → is_name id ≡ true
  held_named es table r id held = by held.rule
    where
      by : ((col : Colocation) × IsFirstOf (IsHeldByColocation c es table r held.node) c.colocations col × (id ≡ col.id))
          ⊎ (AllByRecursion (λ (col : Colocation). ¬ IsHeldByColocation c es table r held.node col) c.colocations
          × ((o : Order) × IsFirstOf (IsHeldByOrder c es table r held.node) c.orders o × (id ≡ o.id)))
          → is_name id ≡ true
      by (inl h) = ap is_name h.2 ∙ (valid.colocations h.0 (first_in _ c.colocations h.0 h.1)).id
      by (inr h) = ap is_name h.1.2 ∙ (valid.orders h.1.0 (first_in _ c.orders h.1.0 h.1.1)).id

  lacking_fits : (es : List Event) (table targets : Targets) (r : ℕ) → r < length c.leaves → (reason : NoReason) → HasReason c es table targets r (Some reason)
      → IsLineOf c (line.Lacking r reason)
  lacking_fits es table targets r low (Held id) h = (low, held_named es table r id h.2.1)
  lacking_fits es table targets r low _ h = low

  pub targets_fit : (es : List Event) (promotions : List Promotion) (placed : Placed) → IsPlaced c es promotions placed
      → AllByRecursion (IsLineOf c) (target_lines c placed.pins (targets_of placed.table) placed.none)
  targets_fit es promotions placed is =
      let targets = targets_of placed.table in
      all_in_range (IsLineOf c) (leaf_lines c placed.pins targets placed.none) 0 (length c.leaves) (λ r up high.
      let low : r < length c.leaves = omega (arith, high) in
      all_of_leaf (IsLineOf c) c placed.pins targets placed.none r (λ pin. low) (λ n less goal somewhere. (record { leaf = low; node = less }, somewhere))
      (λ reason e. lacking_fits es (after_decisions c es promotions (pinned_targets c es) is.decisions) targets r low reason (reason_told c es promotions placed is r (Some reason) e)))
