use Rattle.std.proofs.Common.{rules, ◌≡◌, ◌++◌, ◌∷◌, [], if◌then◌else◌, ℕ, map, sym, ap, ◌∙◌, append_assoc}
use Rattle.std.specs.List.{range_with_len}
use Rattle.lemmas.proofs.Ranges.{map-more}
use Rattle.cluster_types.specs.declared.placement.Target.{Target}
use Rattle.cluster_types.specs.declared.placement.Target.TheVariants as target
use Rattle.placement.specs.Inner.Pins.{stay_by}
use Rattle.placement.proofs.pinned_targets.push_row.Goals as goal

pub loop-node-preserved : goal.loop-node-preserved
loop-node-preserved c =
    let l = c.loop-node in
    let old = c.args.targets.now.items in
    let f : ℕ → Target = λ n. if c.args.pinned then stay_by c.args.cluster.now c.args.states.now c.args.leaf n else target.Nowhere in
    let so_far = map f (range_with_len 0 l.node) in
    let items : c.push.new.self.items ≡ l.targets.items ++ f l.node ∷ [] = search rules in
    items ∙ (ap (λ xs. xs ++ f l.node ∷ []) l.invariant ∙ (append_assoc old so_far (f l.node ∷ []) ∙ ap (λ xs. old ++ xs) (sym (map-more f l.node))))
