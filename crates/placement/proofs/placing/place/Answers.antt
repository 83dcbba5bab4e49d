use Rattle.std.proofs.Common.{rules, ◌≡◌, ◌<◌, length, map, ap, subst, sym, ◌∙◌}
use Rattle.std.specs.List.{range_with_len}
use Rattle.std.proofs.lemmas.Result.{IfOk-at_ok}
use Rattle.cluster_types.specs.declared.placement.Table.{Table}
use Rattle.cluster_types.specs.Held.{AreTargets}
use Rattle.cluster_types.specs.Pins.{pin_of}
use Rattle.cluster_types.specs.Reasons.{HasReason, leaf_reason}
use Rattle.cluster_types.specs.Tables.{Targets, targets_of}
use Rattle.cluster_types.proofs.LeafReasons.{reason_by_list}
use Rattle.placement.specs.Inner.ChosenTable.{AreChosen}
use Rattle.placement.proofs.placing.place.Goals as goal

pub returns : goal.returns
returns c = λ events promotions told totals.
    let cl = c.args.cluster.now in
    let are = map (pin_of cl events) (range_with_len 0 (length cl.leaves)) in
    let two = c.in_ok-pins-2 in
    let three = c.in_ok-pins-3 in
    let last = c.in_ok-pins-4 in
    let pins : c.in_ok-pins.pins ≡ are = c.in_ok-pins.ensures events promotions told in
    let pins_2 : two.pins ≡ are = two.ensures.0 ∙ pins in
    let pins_3 : three.pins ≡ are = (let same : three.pins ≡ two.pins = search rules in same ∙ pins_2) in
    let pins_4 : last.pins ≡ are = (let same : last.pins ≡ three.pins = search rules in same ∙ pins_3) in
    let choices : last.choices ≡ two.choices = search rules in
    let choices_3 : three.choices ≡ two.choices = search rules in
    let table : last.table ≡ three.table = search rules in
    let chosen : AreChosen cl events promotions two.choices
    = IfOk-at_ok _ two.ensures.1 c.choices-choices.ensures.chosen events promotions told totals (c.as_slice.ensures ∙ pins) in
    let targets : AreTargets cl events (targets_of two.choices.table) (targets_of three.table)
    = IfOk-at_ok _ three.ensures.1 c.targets-table.ensures.targets events (c.as_slice-2.ensures ∙ pins_2) in
    let nodes = IfOk-at_ok _ three.ensures.1 c.targets-table.ensures.nodes ∙ IfOk-at_ok _ two.ensures.1 c.choices-choices.ensures.nodes in
    let cells = IfOk-at_ok _ three.ensures.1 c.targets-table.ensures.size ∙ IfOk-at_ok _ two.ensures.1 c.choices-choices.ensures.cells in
    let shown = IfOk-at_ok _ last.ensures.1 c.reasons-none.ensures.reasons events promotions told (c.as_slice-3.ensures ∙ pins_3)
    (subst (λ k. AreTargets cl events (targets_of k.table) (targets_of three.table)) (sym choices_3) targets) in
    let leaves = IfOk-at_ok _ last.ensures.1 c.reasons-none.ensures.leaves in
    record {
      decisions = chosen.decisions;
      in_order = chosen.in_order;
      pins = pins_4;
      decided = ap (λ k. k.decided) choices ∙ chosen.decided;
      nodes = ap (λ (t : Table). t.nodes) table ∙ nodes;
      cells = ap (λ (t : Table). length t.targets) table ∙ cells;
      targets = subst (λ (t : Targets). AreTargets cl events t (targets_of last.table)) chosen.targets
          (subst (λ (t : Table). AreTargets cl events (targets_of two.choices.table) (targets_of t)) (sym table) targets);
      leaves = leaves;
      reasons = λ r low. subst (λ (t : Targets). HasReason cl events t (targets_of last.table) r (leaf_reason last.none r)) (ap (λ k. targets_of k.table) choices_3 ∙ chosen.targets)
          (subst (λ (t : Table). HasReason cl events (targets_of three.choices.table) (targets_of t) r (leaf_reason last.none r)) (sym table)
          (reason_by_list (HasReason cl events (targets_of three.choices.table) (targets_of three.table) r) last.none r (subst (λ k. r < k) (sym leaves) low) (shown r)));
    }
