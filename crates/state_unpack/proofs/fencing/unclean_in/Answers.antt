use Rattle.std.proofs.Common.{rules, ◌≡◌, ◌++◌, ◌∷◌, [], ℕ, false, if◌then◌else◌, get_or, slice_get, sym, ap, ◌∙◌}
use Rattle.std.proofs.lemmas.Option.{slice_get-get_or}
use Rattle.std.specs.Option.{option_map_or}
use Rattle.lemmas.proofs.Ranges.{filter-more}
use Rattle.cluster_types.specs.declared.states.NodeState.TheVariants.{Online}
use Rattle.cluster_types.specs.NodeStates.{is_unclean_state}
use Rattle.state_unpack.proofs.fencing.unclean_in.Goals as goal

pub loop-node-preserved : goal.loop-node-preserved
loop-node-preserved c =
    let l = c.loop-node in
    let nodes = c.args.nodes.now in
    let state = get_or nodes l.node Online in
    let p = λ (n : ℕ). option_map_or is_unclean_state (slice_get nodes n) false in
    let here = ap (λ o. option_map_or is_unclean_state o false) (slice_get-get_or nodes l.node Online c.loop-node-test.true) in
    let items : c.push_unclean.new.found.items ≡ l.found.items ++ (if is_unclean_state state then l.node ∷ [] else []) = search rules in
    items ∙ (ap (λ xs. xs ++ (if is_unclean_state state then l.node ∷ [] else [])) l.invariant ∙ sym (filter-more p l.node (is_unclean_state state) here))
