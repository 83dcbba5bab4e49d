use Rattle.std.proofs.Common.{◌≡◌, ◌++◌, ℕ, ap, ◌∙◌}
use Rattle.std.specs.String.{string_bytes}
use Rattle.std.proofs.lemmas.Result.{on_ok_weaker}
use Rattle.cases.specs.Case.{lost_node, resources_text, results_text, rules_text, status_text}
use Rattle.cases.proofs.LineLaws.{four_more}
use Rattle.cases.proofs.case.push_case.Goals as goal

pub returns : goal.returns
returns c =
    let n = c.args.number in
    let old = string_bytes c.args.text.now in
    let one = string_bytes c.push_resources.new.text in
    let two = string_bytes c.push_rules.new.text in
    let three = string_bytes c.push_status.new.text in
    let same : c.draw_lost_node-lost.new.draws.number ≡ n = c.draw_lost_node-lost.ensures.number ∙ c.new-draws.ensures.number in
    let still : c.push_resources.new.draws.number ≡ n = c.in_ok-push_resources.ensures.number ∙ same in
    let lost : c.draw_lost_node-lost.result ≡ lost_node n
    = c.draw_lost_node-lost.ensures.value ∙ ap (λ (k : ℕ). lost_node k) c.new-draws.ensures.number in
    let first : one ≡ old ++ resources_text n = c.in_ok-push_resources.ensures.text ∙ ap (λ (k : ℕ). old ++ resources_text k) same in
    let second : two ≡ one ++ rules_text n = c.in_ok-push_rules.ensures ∙ ap (λ (k : ℕ). one ++ rules_text k) still in
    on_ok_weaker c.push_results.result
    (λ last.
    four_more old one two three (string_bytes c.push_results.new.text) (resources_text n) (rules_text n) status_text (results_text (lost_node n)) first
    second c.in_ok-push_status.ensures (last ∙ ap (λ (node : ℕ). three ++ results_text node) lost))
    c.push_results.ensures
