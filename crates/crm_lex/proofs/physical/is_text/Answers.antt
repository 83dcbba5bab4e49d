use Rattle.std.proofs.lemmas.Bool.Decides.{same_from_decides}
use Rattle.std.proofs.lemmas.Str.{IsUtf8-from_is_utf8, is_utf8-from_IsUtf8}
use Rattle.std.specs.Str.{is_utf8}
use Rattle.crm_lex.proofs.physical.is_text.Goals as goal

pub returns : goal.returns
returns c =
    let bytes = c.args.content.now in
    same_from_decides c.is_utf8.result (is_utf8 bytes) c.is_utf8.ensures (IsUtf8-from_is_utf8 bytes, is_utf8-from_IsUtf8 bytes)
