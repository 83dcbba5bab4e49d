use Rattle.std.proofs.Common.{◌≡◌, ◌++◌, ◌∷◌, [], codes, ap, ◌∙◌}
use Rattle.std.specs.List.{flat_map}
use Rattle.std.proofs.lemmas.Result.{on_ok_weaker}
use Rattle.crm_parse.specs.declared.form.Form.TheVariants as form
use Rattle.crm_print.specs.Items.{operation_items, section, with_meta, word}
use Rattle.crm_print.specs.Text.{canonical_line}
use Rattle.crm_print.proofs.FormLines.{line_before, three_pieces}
use Rattle.crm_print.proofs.statement.push_form.Goals as goal

pub returns-in_ok-push_meta-in-Primitive : goal.returns-in_ok-push_meta-in-Primitive
returns-in_ok-push_meta-in-Primitive c =
    let text = c.args.text.now.items in
    let p = c.in-Primitive in
    let params = c.as_slice-in-Primitive.result.now in
    let meta = c.as_slice-in-Primitive-2.result.now in
    let utilization = c.as_slice-in-Primitive-3.result.now in
    let operations = c.as_slice-in-Primitive-4.result.now in
    let ops = c.as_slice-in-Primitive-5.result.now in
    let same : form.Primitive p.id p.agent p.description params meta utilization operations ops ≡ c.args.form.now =
    let a = c.as_slice-in-Primitive.ensures in
    let b = c.as_slice-in-Primitive-2.ensures in
    let d = c.as_slice-in-Primitive-3.ensures in
    let e = c.as_slice-in-Primitive-4.ensures in
    let f = c.as_slice-in-Primitive-5.ensures in
    let g = p.is in
    cc in
    on_ok_weaker c.push_works.result
    (λ e.
    three_pieces text _ _ _ _ _ _ c.in_ok-push_named-in-Primitive.ensures c.in_ok-push_meta-in-Primitive.ensures e
    ∙ (
    ap (λ xs. text ++ xs) (
    line_before (word (codes "primitive")) (word p.id ∷ word p.agent ∷ []) (with_meta p.description params meta)
    (section (codes "utilization") utilization ++ (section (codes "operations") operations ++ flat_map operation_items ops))
    )
    ∙ ap (λ form. text ++ canonical_line form) same
    ))
    c.push_works.ensures
