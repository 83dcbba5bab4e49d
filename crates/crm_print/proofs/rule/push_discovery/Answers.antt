use Rattle.std.proofs.Common.{◌++◌, sym, ap, ◌∙◌, append-nil, codes}
use Rattle.std.specs.List.{flat_map}
use Rattle.crm_print.specs.Quoting.{spaced}
use Rattle.crm_print.specs.Items.{discovery, word}
use Rattle.crm_print.proofs.rule.push_discovery.Goals as goal

pub returns-in_ok-push_word : goal.returns-in_ok-push_word
returns-in_ok-push_word c =
    c.in_ok-push_word.ensures
    ∙ ap (λ text. c.args.text.now.items ++ text) (sym (ap (λ everywhere. flat_map spaced (discovery everywhere)) c.if-everywhere.true ∙ append-nil (spaced (word (codes "resource-discovery=always")))))
