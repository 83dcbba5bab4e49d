-- `colocation ID SCORE: RESOURCE[:ROLE] RESOURCE[:ROLE]` (crmsh manual, colocation).
use Rattle.std.specs.Prelude.{ℕ, Bool, ◌||◌, if◌then◌else◌, List, [], ◌∷◌, codes, is_some, Option, Some, None, Result, Ok, Err}
use Rattle.crm_lex.specs.Names.{is_name}
use Rattle.crm_parse.specs.declared.fault.ParseCause.{ParseCause}
use Rattle.crm_parse.specs.declared.fault.ParseCause.TheVariants.{BadValue, ExtraWord, Unsupported}
use Rattle.crm_parse.specs.declared.form.Form.{Form}
use Rattle.crm_parse.specs.declared.form.Form.TheVariants as form
use Rattle.crm_parse.specs.declared.form.Side.{Side}
use Rattle.crm_parse.specs.declared.values.RoleName.{RoleName}
use Rattle.crm_parse.specs.declared.words.RoleWord.TheVariants as role
use Rattle.crm_parse.specs.Reading.{Words, begins_set, name_at, resource_of, score_of, supported, next_word_in}
use Rattle.faults.specs.Reading.{◌>>=◌}
use Rattle.crm_parse.specs.Texts.{after, cut_at}
use Rattle.crm_parse.specs.Values.{role_of}

-- a node attribute in the place of nodes isn't supported
abbrev pub is_node_attribute : List ℕ → Bool
is_node_attribute word = is_some (after (codes "node-attribute=") word)

abbrev pub no_attribute : List ℕ → Result (Unit {0}) ParseCause
no_attribute word = if is_node_attribute word then Err Unsupported else Ok tt

-- the resource and its role, by the role that was read; what isn't supported comes before what isn't a name or a role
unfoldable pub side_in : List ℕ → Option RoleName → Result Side ParseCause
side_in word None = do
  resource ← resource_of word
  Err BadValue
side_in word (Some name) = do
  role ← supported name
  resource ← resource_of word
  Ok (record { resource = resource; role = role })

-- the resource, which is meant as Started where no role is written
unfoldable pub side_started : List ℕ → Result Side ParseCause
side_started word = do
  resource ← resource_of word
  Ok (record { resource = resource; role = role.Started })

-- a resource, and a role after a colon
abbrev pub side_of : List ℕ → Result Side ParseCause
side_of word = elim (cut_at 58 word) [ None ↦ side_started word | Some parts ↦ side_in parts.0 (role_of parts.1) ]

unfoldable pub side_at : Words → Result (Side × Words) ParseCause
side_at words = do
  word ← next_word_in words
  fits ← no_attribute word.0
  side ← side_of word.0
  Ok (side, word.1)

-- the word up to its first colon
abbrev pub before_colon : List ℕ → List ℕ
before_colon word = elim (cut_at 58 word) [ None ↦ word | Some parts ↦ parts.0 ]

-- no word is left; a third resource isn't supported
abbrev pub no_third : Words → Result (Unit {0}) ParseCause
no_third [] = Ok tt
no_third (word ∷ words) =
    if is_node_attribute word || begins_set word || is_name (before_colon word) then Err Unsupported else Err ExtraWord

unfoldable pub colocation_at : Words → Result Form ParseCause
colocation_at words = do
  id ← name_at words
  word ← next_word_in id.1
  fits ← no_attribute word.0
  score ← score_of word.0
  dependent ← side_at word.1
  primary ← side_at dependent.1
  end ← no_third primary.1
  Ok (form.Colocation id.0 score dependent.0 primary.0)
