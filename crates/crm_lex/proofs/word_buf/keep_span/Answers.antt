use Rattle.std.proofs.Common.{sym, ◌∙◌, arith}
use Rattle.std.proofs.lemmas.List.{take-append-le, take_all}
use Rattle.crm_lex.proofs.word_buf.keep_span.Goals as goal

pub returns-else-len-lt-KEPT-clause-spans : goal.returns-else-len-lt-KEPT-clause-spans
returns-else-len-lt-KEPT-clause-spans c =
    let spans = c.args.spans.now.items in
    sym (take-append-le 8 spans _ (omega arith) ∙ take_all 8 spans (omega arith))
