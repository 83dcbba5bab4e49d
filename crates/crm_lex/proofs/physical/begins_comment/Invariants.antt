use Rattle.std.proofs.Common.{◌≡◌, drop}
use Rattle.crm_lex.specs.RawLines.{begins_comment}
use Rattle.crm_lex.proofs.physical.begins_comment.Given as goal

abbrev pub invariant-loop-byte : goal.invariant-loop-byte
invariant-loop-byte l = begins_comment l.content ≡ begins_comment (drop l.byte-index l.content)
