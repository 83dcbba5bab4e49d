use Rattle.std.proofs.Common.{◌≡◌, drop}
use Rattle.crm_parse.specs.Pairs.{with_pairs}
use Rattle.crm_parse.proofs.pairs.add_pairs.Given as goal

abbrev pub invariant-loop-word : goal.invariant-loop-word
invariant-loop-word l =
    with_pairs l.fn.place l.fn.pairs l.words ≡ with_pairs l.fn.place l.pairs (drop l.word-index l.words)
