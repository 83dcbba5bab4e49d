-- How the words of a statement are read, from the left: a reader gives what it read and the words that are left, or the cause at the first
-- word that is faulty.
use Rattle.std.specs.Prelude.{ℕ, ◌==◌, Bool, true, false, if◌then◌else◌, List, [], ◌∷◌, codes, Option, Some, None, Result, Ok, Err, ℤ}
use Rattle.std.specs.Option.{ok_or}
use Rattle.score.specs.ScoreText.{read_score}
use Rattle.faults.specs.Reading.{◌>>=◌}
use Rattle.crm_lex.specs.Names.{is_name}
use Rattle.crm_parse.specs.declared.fault.ParseCause.{ParseCause}
use Rattle.crm_parse.specs.declared.fault.ParseCause.TheVariants.{BadScore, BadValue, ExtraWord, MissingWord, Unsupported}
use Rattle.crm_parse.specs.declared.values.RoleName.{RoleName}
use Rattle.crm_parse.specs.declared.values.RoleName.TheVariants as named
use Rattle.crm_parse.specs.declared.words.RoleWord.{RoleWord}
use Rattle.crm_parse.specs.declared.words.RoleWord.TheVariants as role
use Rattle.crm_parse.specs.Texts.{after, before}
use Rattle.crm_parse.specs.Values.{role_of}

abbrev pub Words : Type 0
Words = List (List ℕ)

-- the next word
abbrev pub next_word_in : Words → Result (List ℕ × Words) ParseCause
next_word_in [] = Err MissingWord
next_word_in (word ∷ words) = Ok (word, words)

-- the word where it is a name
abbrev pub name_of : List ℕ → Result (List ℕ) ParseCause
name_of word = if is_name word then Ok word else Err BadValue

-- the next word, which is a name
unfoldable pub name_at : Words → Result (List ℕ × Words) ParseCause
name_at words = do
  word ← next_word_in words
  name ← name_of word.0
  Ok (name, word.1)

-- no word is left
abbrev pub end_at : Words → Result (Unit {0}) ParseCause
end_at [] = Ok tt
end_at (word ∷ words) = Err ExtraWord

-- what stands after a text in the next word, where that begins with the text
abbrev pub prefixed_at : List ℕ → Words → Option (List ℕ) × Words
prefixed_at text [] = (None, [])
prefixed_at text (word ∷ words) = elim (after text word) [ None ↦ (None, word ∷ words) | Some rest ↦ (Some rest, words) ]

-- the next word without its colon, where it ends in one
abbrev pub colon_at : Words → Option (List ℕ) × Words
colon_at [] = (None, [])
colon_at (word ∷ words) = elim (before (codes ":") word) [ None ↦ (None, word ∷ words) | Some rest ↦ (Some rest, words) ]

-- a name where one was written
abbrev pub some_name : Option (List ℕ) → Result (Option (List ℕ)) ParseCause
some_name None = Ok None
some_name (Some word) = do
  name ← name_of word
  Ok (Some name)

-- an id before its colon, where one is written
unfoldable pub given_at : Words → Result (Option (List ℕ) × Words) ParseCause
given_at words = do
  id ← some_name (colon_at words).0
  Ok (id, (colon_at words).1)

-- a description, where one is written
abbrev pub description_at : Words → Result (Option (List ℕ) × Words) ParseCause
description_at words = Ok (prefixed_at (codes "description=") words)

-- a word of a resource or a set of them: an opening bracket or a slash begins what isn't supported (crmsh manual, resource sets and patterns)
abbrev pub begins_set : List ℕ → Bool
begins_set [] = false
begins_set (b ∷ bs) = if b == 47 then true else if b == 91 then true else if b == 40 then true else b == 123

-- the name of a resource in a rule
abbrev pub resource_of : List ℕ → Result (List ℕ) ParseCause
resource_of word = if begins_set word then Err Unsupported else name_of word

-- the points of a score with its colon
unfoldable pub score_of : List ℕ → Result ℤ ParseCause
score_of word = do
  text ← ok_or (before (codes ":") word) BadScore
  ok_or (read_score text) BadScore

-- a role of a rule is Started or Promoted; the others aren't supported there (rule of this project)
abbrev pub supported : RoleName → Result RoleWord ParseCause
supported named.Started = Ok role.Started
supported named.Promoted = Ok role.Promoted
supported named.Unpromoted = Err Unsupported
supported named.Stopped = Err Unsupported

unfoldable pub rule_role_of : List ℕ → Result RoleWord ParseCause
rule_role_of word = do
  name ← ok_or (role_of word) BadValue
  supported name
