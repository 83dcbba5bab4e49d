-- `location ID RESOURCE [role=ROLE] [resource-discovery=always] SCORE: NODE`, and the same with rules in the place of a score and a node
-- (crmsh manual, location and rule expressions; that `role=` stands before `resource-discovery=` is a rule of this project).
use Rattle.std.specs.Prelude.{◌≡◌, ◌≢◌, ℕ, ℤ, Bool, true, false, List, [], ◌∷◌, ◌++◌, codes, Option}
use Rattle.crm_lex.specs.Names.{is_name}
use Rattle.date_rules.specs.declared.rule.Rule.{Rule}
use Rattle.crm_parse.specs.declared.form.Form.{Form}
use Rattle.crm_parse.specs.declared.form.Form.TheVariants as form
use Rattle.crm_parse.specs.declared.rule_form.RuleForm.{RuleForm}
use Rattle.crm_parse.specs.declared.words.RoleWord.{RoleWord}
use Rattle.crm_parse.specs.Reading.{Words}
use Rattle.crm_parse.specs.Grammar.Phrases.{LabelSays, MaySay, NameSays, PartsSay}
use Rattle.crm_parse.specs.Grammar.RuleTests.{ExpressionSays}
use Rattle.crm_parse.specs.Grammar.Scores.{ScoreSays, TakenRoleSays}

-- `$role=ROLE`, or `role=ROLE`
pub data RuleRoleWord : List ℕ → RoleWord → Type 0 where
  with_dollar : (text : List ℕ) (role : RoleWord) → TakenRoleSays text role → RuleRoleWord (codes "$role=" ++ text) role
  without_dollar : (text : List ℕ) (role : RoleWord) → TakenRoleSays text role → RuleRoleWord (codes "role=" ++ text) role

-- `rule [$id=ID] [$role=ROLE or role=ROLE] SCORE: TEST [and TEST..]`, or the same with `or` for each `and`
pub data RuleSays : Words → RuleForm → Type 0 where
  a_rule : (id_words : Words) (id : Option (List ℕ)) (role_words : Words) (role : Option RoleWord) (score : List ℕ) (points : ℤ) (words kept : Words) (rule : Rule)
      → MaySay (LabelSays (codes "$id=") NameSays) id_words id → MaySay RuleRoleWord role_words role → ScoreSays score points → ExpressionSays words kept rule
      → RuleSays (codes "rule" ∷ (id_words ++ (role_words ++ (score ∷ words)))) (record { id = id; role = role; score = points; words = kept; rule = rule })

-- whether `resource-discovery=always` is written
pub data DiscoverySays : Words → Bool → Type 0 where
  no_discovery : DiscoverySays [] false
  always_discovered : DiscoverySays (codes "resource-discovery=always" ∷ []) true

-- a location at one node, by its score; or by one rule or more
pub data LocationSays : Words → Form → Type 0 where
  at_a_node : (id resource : List ℕ) (role_words : Words) (role : Option RoleWord) (discovery_words : Words) (discovery : Bool) (score : List ℕ) (points : ℤ)
      (node : List ℕ) → is_name id ≡ true → is_name resource ≡ true → MaySay (LabelSays (codes "role=") TakenRoleSays) role_words role
      → DiscoverySays discovery_words discovery → ScoreSays score points → is_name node ≡ true
      → LocationSays (id ∷ resource ∷ (role_words ++ (discovery_words ++ (score ∷ node ∷ [])))) (form.Location id resource role discovery points node)
  where_rules_say : (id resource : List ℕ) (role_words : Words) (role : Option RoleWord) (discovery_words : Words) (discovery : Bool) (rule_words : Words)
      (rules : List RuleForm) → is_name id ≡ true → is_name resource ≡ true → MaySay (LabelSays (codes "role=") TakenRoleSays) role_words role
      → DiscoverySays discovery_words discovery → PartsSay RuleSays rule_words rules → rules ≢ []
      → LocationSays (id ∷ resource ∷ (role_words ++ (discovery_words ++ rule_words))) (form.RuledLocation id resource role discovery rules)
