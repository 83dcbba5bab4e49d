use Rattle.std.proofs.Common.{arith}
use Rattle.lex_bench.proofs.FewWords.{few_words_read}
use Rattle.lex_bench.proofs.report.report_of.Goals as goal

pub word_count-words-requires : goal.word_count-words-requires
word_count-words-requires c =
    let few = few_words_read c.args.bytes.now c.in-Ok.lines.items c.in-Ok.ensures in
    rw c.deref.ensures.value (omega (arith, few, c.requires))
