use Rattle.std.proofs.Common.{◌++◌, codes, map, sym, ap, ◌∙◌}
use Rattle.std.specs.List.{flat_map}
use Rattle.std.proofs.lemmas.Result.{on_ok_weaker}
use Rattle.crm_parse.specs.WordTexts.{bool_text}
use Rattle.crm_print.specs.Quoting.{spaced}
use Rattle.crm_print.specs.Items.{labelled, step}
use Rattle.crm_print.proofs.FormLines.{spaced_last, two_pieces}
use Rattle.crm_print.proofs.statement.push_chain.Goals as goal

pub returns : goal.returns
returns c =
    let text = c.args.text.now.items in
    let steps = map step c.args.steps.now in
    on_ok_weaker c.push_labelled.result
    (λ e.
    two_pieces text _ _ (flat_map spaced steps) _ c.in_ok-push_steps.ensures e
    ∙ ap (λ xs. text ++ xs) (
    ap (λ said. flat_map spaced steps ++ spaced (labelled (codes "symmetrical=") said)) c.bool_text.ensures
    ∙ sym (spaced_last steps (labelled (codes "symmetrical=") (bool_text c.args.symmetrical)))
    ))
    c.push_labelled.ensures
