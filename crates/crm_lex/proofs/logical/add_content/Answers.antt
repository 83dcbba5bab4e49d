use Rattle.std.proofs.Common.{◌≡◌, ◌-◌, ◌++◌, length, take, sym, ap, ◌∙◌, append_assoc}
use Rattle.crm_lex.proofs.Joints.{with_joint-none, with_joint-some}
use Rattle.crm_lex.proofs.logical.add_content.Goals as goal

pub returns-then-ends_in_backslash-clause-items : goal.returns-then-ends_in_backslash-clause-items
returns-then-ends_in_backslash-clause-items c =
    let old = c.args.text.now.items in
    let text = c.args.content.now in
    let joint = c.args.joint.now in
    let items : c.add-then-ends_in_backslash.new.text.items ≡ (old ++ take (length text - 1) text) ++ joint =
    c.add-then-ends_in_backslash.ensures.items ∙ ap (λ xs. xs ++ joint) c.add.ensures.items in
    items ∙ (append_assoc old (take (length text - 1) text) joint ∙ ap (λ xs. old ++ xs) (sym (with_joint-some joint text (sym c.if-ends_in_backslash.ensures))))

pub returns-else-ends_in_backslash-clause-items : goal.returns-else-ends_in_backslash-clause-items
returns-else-ends_in_backslash-clause-items c =
    let old = c.args.text.now.items in
    c.add-else-ends_in_backslash.ensures.items ∙ ap (λ xs. old ++ xs) (sym (with_joint-none c.args.joint.now c.args.content.now (sym c.if-ends_in_backslash.ensures)))
