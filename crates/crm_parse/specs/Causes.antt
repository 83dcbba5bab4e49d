-- The names of the causes for which a configuration isn't read: each is that of its variant (rule of this project).
use Rattle.std.specs.Prelude.{ℕ, List, codes}
use Rattle.crm_parse.specs.declared.fault.ParseCause.{ParseCause}
use Rattle.crm_parse.specs.declared.fault.ParseCause.TheVariants as parse

abbrev pub parse_name : ParseCause → List ℕ
parse_name parse.UnknownStatement = codes "UnknownStatement"
parse_name parse.Unsupported = codes "Unsupported"
parse_name parse.BadScore = codes "BadScore"
parse_name parse.BadTime = codes "BadTime"
parse_name parse.BadValue = codes "BadValue"
parse_name parse.MissingWord = codes "MissingWord"
parse_name parse.ExtraWord = codes "ExtraWord"
parse_name parse.RepeatedKey = codes "RepeatedKey"
