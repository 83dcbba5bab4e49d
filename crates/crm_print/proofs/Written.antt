-- The words that a statement is written with.
use Rattle.std.specs.Prelude.{◌≡◌, ℕ, ℤ, Bool, List, ◌∷◌, ◌++◌, map, codes, Option, Some, None, Result, Ok, []}
use Rattle.std.specs.List.{flat_map}
use Rattle.score.specs.ScoreText.{score_text}
use Rattle.crm_parse.specs.declared.fault.ParseCause.{ParseCause}
use Rattle.crm_parse.specs.declared.form.Form.{Form}
use Rattle.crm_parse.specs.declared.form.Form.TheVariants as form
use Rattle.crm_parse.specs.declared.form.OrderStep.{OrderStep}
use Rattle.crm_parse.specs.declared.form.Side.{Side}
use Rattle.crm_parse.specs.declared.pair.Kv.{Kv}
use Rattle.crm_parse.specs.declared.pair.Operation.{Operation}
use Rattle.crm_parse.specs.declared.rule_form.RuleForm.{RuleForm}
use Rattle.crm_parse.specs.declared.words.RoleWord.{RoleWord}
use Rattle.crm_parse.specs.declared.words.RoleWord.TheVariants as role
use Rattle.crm_parse.specs.Reading.{Words}
use Rattle.crm_parse.specs.WordTexts.{action_word_text, bool_text, clone_word, kind_text, role_text, settings_text}
use Rattle.crm_parse.proofs.Affixes.{given_words, noted_words}
use Rattle.crm_parse.proofs.PairLists.{pair_words}
use Rattle.crm_parse.proofs.LocationRead.{discovery_words}

-- a score with its colon
abbrev pub score_word : ℤ → List ℕ
score_word points = score_text points ++ codes ":"

-- a role behind its label, where there is one
abbrev pub role_words : List ℕ → Option RoleWord → Words
role_words label None = []
role_words label (Some role) = (label ++ role_text role) ∷ []

-- a section, where it has pairs
abbrev pub section_words : List ℕ → List Kv → Words
section_words name [] = []
section_words name (pair ∷ pairs) = name ∷ pair_words (pair ∷ pairs)

abbrev pub operation_words : Operation → Words
operation_words op = codes "op" ∷ op.name ∷ pair_words op.pairs

-- what stands behind the members of a group or the child of a clone
abbrev pub meta_words : Option (List ℕ) → List Kv → List Kv → Words
meta_words description params meta =
    noted_words (codes "description=") description ++ (section_words (codes "params") params ++ section_words (codes "meta") meta)

abbrev pub side_word : Side → List ℕ
side_word s = elim s.role [ role.Started ↦ s.resource | role.Promoted ↦ s.resource ++ 58 ∷ codes "Promoted" ]

abbrev pub step_word : OrderStep → List ℕ
step_word s = s.resource ++ 58 ∷ action_word_text s.action

-- what stands behind the word `rule`
abbrev pub rule_words : RuleForm → Words
rule_words r = noted_words (codes "$id=") r.id ++ (role_words (codes "$role=") r.role ++ score_word r.score ∷ r.words)

abbrev pub ruled_words : RuleForm → Words
ruled_words r = codes "rule" ∷ rule_words r

-- a location up to its score or its rules
abbrev pub located_words : List ℕ → List ℕ → Option RoleWord → Bool → Words → Words
located_words id resource role everywhere rest = id ∷ resource ∷ (role_words (codes "role=") role ++ (discovery_words everywhere ++ rest))

-- the words of a statement
abbrev pub written : Form → Words
written (form.Node id name attributes utilization) =
    codes "node" ∷ (given_words id ++ name ∷ (section_words (codes "attributes") attributes ++ section_words (codes "utilization") utilization))
written (form.Primitive id agent description params meta utilization operations ops) =
    codes "primitive" ∷ id ∷ agent ∷ (
    meta_words description params meta ++ (
    section_words (codes "utilization") utilization ++ (section_words (codes "operations") operations ++ flat_map operation_words ops)
    )
    )
written (form.Group id members description params meta) = codes "group" ∷ id ∷ (members ++ meta_words description params meta)
written (form.Cloned id child ms description params meta) = clone_word ms ∷ id ∷ child ∷ meta_words description params meta
written (form.Location id resource role everywhere score node) =
    codes "location" ∷ located_words id resource role everywhere (score_word score ∷ node ∷ [])
written (form.RuledLocation id resource role everywhere rules) =
    codes "location" ∷ located_words id resource role everywhere (flat_map ruled_words rules)
written (form.Colocation id score dependent primary) =
    codes "colocation" ∷ id ∷ score_word score ∷ side_word dependent ∷ side_word primary ∷ []
written (form.Order id kind steps symmetrical) =
    codes "order" ∷ id ∷ (kind_text kind ++ codes ":") ∷ (map step_word steps ++ (codes "symmetrical=" ++ bool_text symmetrical) ∷ [])
written (form.Settings what set pairs) = settings_text what ∷ (given_words set ++ pair_words pairs)
written (form.Kept words) = words

-- a reader of the words behind a first word gives the form again from its words
abbrev pub Again : (Words → Result Form ParseCause) → List ℕ → Form → Type 0
Again read keyword form = (words : Words) × (written form ≡ keyword ∷ words) × (read words ≡ Ok form)
