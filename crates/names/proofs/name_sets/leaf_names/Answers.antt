use Rattle.std.proofs.Common.{rules, ◌≡◌, ◌<◌, length, get_or}
use Rattle.cluster_types.specs.declared.leaf.Leaf.{Leaf}
use Rattle.names.specs.Sets.{borrowed_names}
use Rattle.names.specs.Inner.Sets.{with_name}
use Rattle.names.proofs.Sets.{one_more}
use Rattle.names.proofs.name_sets.leaf_names.Goals as goal

pub loop-leaf-preserved : goal.loop-leaf-preserved
loop-leaf-preserved c =
    let leaves = c.args.leaves.now in
    let i = c.loop-leaf.leaf-index in
    let leaf = c.leaf-item.result in
    let within : i < length leaves = search rules in
    let is_it : leaf ≡ get_or leaves i leaf = search rules in
    let step : borrowed_names c.add.new.names ≡ with_name (borrowed_names c.loop-leaf.names) leaf.name = search rules in
    one_more (λ (each : Leaf). each.name) leaves c.requires i leaf within is_it _ _ c.loop-leaf.invariant step
