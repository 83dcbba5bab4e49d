-- The names of the causes for which the words of a text can't be read: each is that of its variant (rule of this project).
use Rattle.std.specs.Prelude.{ℕ, List, codes}
use Rattle.crm_lex.specs.declared.fault.LexCause.{LexCause}
use Rattle.crm_lex.specs.declared.fault.LexCause.TheVariants.{NotUtf8, ControlByte, OpenQuote, LineTooLong}

abbrev pub lex_name : LexCause → List ℕ
lex_name NotUtf8 = codes "NotUtf8"
lex_name ControlByte = codes "ControlByte"
lex_name OpenQuote = codes "OpenQuote"
lex_name LineTooLong = codes "LineTooLong"
