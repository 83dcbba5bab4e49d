use Rattle.std.proofs.Common.{◌≡◌, ◌∙◌, ◌++◌, ap, codes, decimal, List, ℕ}
use Rattle.live_run.specs.LineCauses.{line_refusal_text}
use Rattle.live_run.proofs.Written.{goes_all, offers_all}
use Rattle.live_run.proofs.line_writer.LineWriter.refused.Goals as goal

pub returns-clause-text : goal.returns-clause-text
returns-clause-text g c =
    let text : c.as_slice.result.now ≡ line_refusal_text c.args.line c.args.cause = c.as_slice.ensures.text ∙ (c.write_refusal.ensures.text
    ∙ ap (λ (name : List ℕ). codes "refused " ++ decimal c.args.line ++ codes " " ++ name ++ codes "\n") c.name.ensures) in
    goes_all c.finish.result _ _ _ _ _ _ (rw text at c.in_ok-push.ensures.text) c.finish.ensures.text c.finish.ensures.few

pub returns-clause-whole : goal.returns-clause-whole
returns-clause-whole g c =
    let text : c.as_slice.result.now ≡ line_refusal_text c.args.line c.args.cause = c.as_slice.ensures.text ∙ (c.write_refusal.ensures.text
    ∙ ap (λ (name : List ℕ). codes "refused " ++ decimal c.args.line ++ codes " " ++ name ++ codes "\n") c.name.ensures) in
    offers_all c.finish.result _ _ _ _ _ _ (rw text at c.in_ok-push.ensures.whole) c.finish.ensures.whole
