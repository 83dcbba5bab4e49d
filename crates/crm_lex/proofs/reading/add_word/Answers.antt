use Rattle.std.proofs.Common.{◌++◌, drop, sym, ap, ◌∙◌, append_assoc}
use Rattle.crm_lex.specs.Words.{words_of}
use Rattle.crm_lex.proofs.Words.{plain_first}
use Rattle.crm_lex.proofs.reading.add_word.Goals as goal

pub returns-then-ends_word-clause-words : goal.returns-then-ends_word-clause-words
returns-then-ends_word-clause-words c =
    let text = c.args.text.now in
    let old = c.args.found.now.items in
    let rest = words_of (drop c.plain_end-end.result text) in
    let first = plain_first text c.args.from c.plain_end-end.result c.requires.from_in c.requires.begins (sym c.if-ends_word.ensures) c.plain_end-end.ensures.plain in
    ap (λ names. names ++ rest) c.in_ok-add_name.ensures ∙ (append_assoc old _ rest ∙ ap (λ words. old ++ words) (sym first))
