-- `location ID RESOURCE [role=ROLE] [resource-discovery=always] SCORE: NODE`, and the same with rules in the place of a score and a node
-- (crmsh manual, location and rule expressions).
use Rattle.std.specs.Prelude.{ℕ, zero, suc, ℤ, Bool, true, false, if◌then◌else◌, List, [], ◌∷◌, ◌++◌, length, codes, is_some, Option, Some, None, Result, Ok, Err}
use Rattle.crm_lex.specs.Names.{is}
use Rattle.crm_parse.specs.declared.fault.ParseCause.{ParseCause}
use Rattle.crm_parse.specs.declared.fault.ParseCause.TheVariants.{ExtraWord, Unsupported}
use Rattle.crm_parse.specs.declared.form.Form.{Form}
use Rattle.crm_parse.specs.declared.form.Form.TheVariants as form
use Rattle.crm_parse.specs.declared.rule_form.RuleForm.{RuleForm}
use Rattle.crm_parse.specs.declared.words.RoleWord.{RoleWord}
use Rattle.crm_parse.specs.Keys.{when}
use Rattle.crm_parse.specs.Reading.{Words, end_at, name_at, prefixed_at, resource_of, rule_role_of, score_of, some_name, next_word_in}
use Rattle.faults.specs.Reading.{◌>>=◌}
use Rattle.crm_parse.specs.Rules.{expression_at}
use Rattle.crm_parse.specs.Texts.{after}

abbrev pub some_role : Option (List ℕ) → Result (Option RoleWord) ParseCause
some_role None = Ok None
some_role (Some word) = do
  role ← rule_role_of word
  Ok (Some role)

-- the id of a rule, where one is written
unfoldable pub rule_id_at : Words → Result (Option (List ℕ) × Words) ParseCause
rule_id_at words = do
  id ← some_name (prefixed_at (codes "$id=") words).0
  Ok (id, (prefixed_at (codes "$id=") words).1)

-- what stands after `$role=` or `role=` in the next word
abbrev pub either_at : Words → Option (List ℕ) × Words
either_at words = elim (prefixed_at (codes "$role=") words).0 [
  | None ↦ prefixed_at (codes "role=") words
  | Some role ↦ (Some role, (prefixed_at (codes "$role=") words).1)
]

-- the role of a rule, where one is written
unfoldable pub rule_role_at : Words → Result (Option RoleWord × Words) ParseCause
rule_role_at words = do
  role ← some_role (either_at words).0
  Ok (role, (either_at words).1)

-- the score of a rule; a rule by the id of another isn't supported
abbrev pub rule_score_of : List ℕ → Result ℤ ParseCause
rule_score_of word = if is_some (after (codes "$id-ref=") word) then Err Unsupported else score_of word

-- all tests have to pass, unless they are joined by `or`
abbrev pub all_of : Option Bool → Bool
all_of (Some false) = false
all_of _ = true

-- `rule [$id=ID] [$role=ROLE or role=ROLE] SCORE: TEST`, after its first word
unfoldable pub rule_at : Words → Result (RuleForm × Words) ParseCause
rule_at words = do
  id ← rule_id_at words
  role ← rule_role_at id.1
  word ← next_word_in role.1
  score ← rule_score_of word.0
  read ← expression_at word.1
  Ok (
    record {
      id = id.0;
      role = role.0;
      score = score;
      words = read.0.words;
      rule = record { all = all_of read.0.joined; tests = read.0.tests };
    },
    read.1,
  )

-- some rules, and one more, which begins with the word `rule`
unfoldable pub with_rule : List RuleForm → Words → Result (List RuleForm × Words) ParseCause
with_rule before words = do
  word ← next_word_in words
  taken ← when (is word.0 (codes "rule")) ExtraWord
  rule ← rule_at word.1
  Ok (before ++ rule.0 ∷ [], rule.1)

-- some rules, and those that follow. The number counts down from that of the words: each rule takes at least one of them, so none is left unread
abbrev pub with_rules : ℕ → List RuleForm → Words → Result (List RuleForm) ParseCause
with_rules zero before words = Ok before
with_rules (suc most) before [] = Ok before
with_rules (suc most) before (word ∷ words) = do
  more ← with_rule before (word ∷ words)
  with_rules most more.0 more.1

-- the resource of a location
unfoldable pub resource_at : Words → Result (List ℕ × Words) ParseCause
resource_at words = do
  word ← next_word_in words
  resource ← resource_of word.0
  Ok (resource, word.1)

-- the role of a location, where one is written
unfoldable pub role_at : Words → Result (Option RoleWord × Words) ParseCause
role_at words = do
  role ← some_role (prefixed_at (codes "role=") words).0
  Ok (role, (prefixed_at (codes "role=") words).1)

-- resources are looked for everywhere; no other discovery is supported
abbrev pub discovery_in : Option (List ℕ) → Result Bool ParseCause
discovery_in None = Ok false
discovery_in (Some word) = if is word (codes "always") then Ok true else Err Unsupported

unfoldable pub discovery_at : Words → Result (Bool × Words) ParseCause
discovery_at words = do
  discovery ← discovery_in (prefixed_at (codes "resource-discovery=") words).0
  Ok (discovery, (prefixed_at (codes "resource-discovery=") words).1)

-- a score and a node
unfoldable pub place_at : Words → Result (ℤ × List ℕ) ParseCause
place_at words = do
  word ← next_word_in words
  score ← score_of word.0
  node ← name_at word.1
  end ← end_at node.1
  Ok (score, node.0)

-- the next word is `rule`
abbrev pub begins_rule : Words → Bool
begins_rule [] = false
begins_rule (word ∷ words) = is word (codes "rule")

-- a location with a score and a node
unfoldable pub plain_at : List ℕ → List ℕ → Option RoleWord → Bool → Words → Result Form ParseCause
plain_at id resource role discovery words = do
  place ← place_at words
  Ok (form.Location id resource role discovery place.0 place.1)

-- a location with rules
unfoldable pub ruled_at : List ℕ → List ℕ → Option RoleWord → Bool → Words → Result Form ParseCause
ruled_at id resource role discovery words = do
  rules ← with_rules (length words) [] words
  Ok (form.RuledLocation id resource role discovery rules)

unfoldable pub location_at : Words → Result Form ParseCause
location_at words = do
  id ← name_at words
  resource ← resource_at id.1
  role ← role_at resource.1
  discovery ← discovery_at role.1
  if begins_rule discovery.1 then ruled_at id.0 resource.0 role.0 discovery.0 discovery.1
      else plain_at id.0 resource.0 role.0 discovery.0 discovery.1
