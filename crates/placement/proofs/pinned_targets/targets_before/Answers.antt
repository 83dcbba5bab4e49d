use Rattle.std.proofs.Common.{rules, ◌≡◌, ◌++◌, ℕ, List, length, map, if◌then◌else◌, sym, ap, ◌∙◌}
use Rattle.std.specs.List.{range_with_len}
use Rattle.lemmas.proofs.Ranges.{flat_map-more}
use Rattle.cluster_types.specs.declared.placement.Target.{Target}
use Rattle.cluster_types.specs.declared.placement.Target.TheVariants as target
use Rattle.placement.specs.Inner.Pins.{pinned_in, stay_by}
use Rattle.placement.proofs.pinned_targets.targets_before.Goals as goal

pub loop-leaf-preserved : goal.loop-leaf-preserved
loop-leaf-preserved c =
    let l = c.loop-leaf in
    let cluster = c.args.cluster.now in
    let states = c.args.states.now in
    let nodes = range_with_len 0 (length cluster.nodes) in
    let f : ℕ → List Target = λ r. map (pinned_in cluster c.args.pins.now states r) nodes in
    let items : c.push_row.new.targets.items ≡ l.targets.items ++ map (λ n. if c.is_pinned-pinned.result then stay_by cluster states l.leaf n else target.Nowhere) nodes = search rules in
    items ∙ (ap (λ b. l.targets.items ++ map (λ n. if b then stay_by cluster states l.leaf n else target.Nowhere) nodes) c.is_pinned-pinned.ensures
    ∙ (ap (λ xs. xs ++ f l.leaf) l.invariant ∙ sym (flat_map-more f l.leaf)))
