use Rattle.std.proofs.Common.{◌≡◌, ◌++◌, codes, ap, ◌∙◌}
use Rattle.std.specs.String.{string_bytes}
use Rattle.std.proofs.lemmas.List.{append_assoc}
use Rattle.std.proofs.lemmas.Result.{on_ok_weaker}
use Rattle.cases.specs.Case.{lines, online_line}
use Rattle.cases.proofs.state.push_status.Goals as goal

pub returns : goal.returns
returns c =
    on_ok_weaker c.push_all_online.result
    (λ grown.
    grown
    ∙ (ap (λ t. t ++ lines online_line 1 61) c.in_ok-push_str.ensures.bytes
    ∙ append_assoc (string_bytes c.args.text.now) (codes "%status\nnow 1000\nquorum yes\n") (lines online_line 1 61)))
    c.push_all_online.ensures
