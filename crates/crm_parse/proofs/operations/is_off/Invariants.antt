use Rattle.std.proofs.Common.{◌≡◌, drop}
use Rattle.crm_parse.specs.Operations.{is_off}
use Rattle.crm_parse.proofs.operations.is_off.Given as goal

abbrev pub invariant-loop-word : goal.invariant-loop-word
invariant-loop-word l = is_off l.words ≡ is_off (drop l.word-index l.words)
