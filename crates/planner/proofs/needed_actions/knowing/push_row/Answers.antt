use Rattle.std.proofs.Common.{rules, ◌≡◌, ◌++◌, ◌∷◌, [], ap, sym, map, ◌∙◌}
use Rattle.std.specs.List.{range_with_len}
use Rattle.std.proofs.lemmas.List.{append_assoc}
use Rattle.lemmas.proofs.Ranges.{map-more}
use Rattle.planner.specs.Inner.Knowing as knowing
use Rattle.planner.proofs.needed_actions.knowing.push_row.Goals as goal

pub loop-node-preserved : goal.loop-node-preserved
loop-node-preserved c =
    let l = c.loop-node in
    let old = c.args.list.now.items in
    let need = knowing.need_by c.args.cells.now c.args.placed.now.pins c.args.placed.now.table c.args.may_start c.args.nodes c.args.leaf in
    let before = map need (range_with_len 0 l.node) in
    let items : c.push.new.self.items ≡ l.list.items ++ c.need_by.result ∷ [] = search rules in
    items ∙ ap (λ xs. xs ++ c.need_by.result ∷ []) l.invariant ∙ ap (λ (x : _). (old ++ before) ++ x ∷ []) c.need_by.ensures
    ∙ append_assoc old before (need l.node ∷ []) ∙ ap (λ xs. old ++ xs) (sym (map-more need l.node))
