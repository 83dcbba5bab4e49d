use Rattle.std.proofs.Common.{◌≡◌, drop}
use Rattle.crm_parse.specs.Operations.{with_op_pairs}
use Rattle.crm_parse.proofs.operations.add_op_pairs.Given as goal

abbrev pub invariant-loop-word : goal.invariant-loop-word
invariant-loop-word l =
    with_op_pairs l.ops l.recurring l.place l.fn.pairs l.words ≡ with_op_pairs l.ops l.recurring l.place l.pairs (drop l.word-index l.words)
