-- The items of the canonical line of each statement (crmsh manual, configure; the order of the sections is a rule of this project).
use Rattle.std.specs.Prelude.{ℕ, Bool, true, false, List, [], ◌∷◌, ◌++◌, map, codes, Option, Some, None}
use Rattle.std.specs.List.{flat_map}
use Rattle.score.specs.ScoreText.{score_text}
use Rattle.crm_parse.specs.declared.form.Form.{Form}
use Rattle.crm_parse.specs.declared.form.Form.TheVariants as form
use Rattle.crm_parse.specs.declared.form.OrderStep.{OrderStep}
use Rattle.crm_parse.specs.declared.form.Side.{Side}
use Rattle.crm_parse.specs.declared.pair.Kv.{Kv}
use Rattle.crm_parse.specs.declared.pair.Operation.{Operation}
use Rattle.crm_parse.specs.declared.rule_form.RuleForm.{RuleForm}
use Rattle.crm_parse.specs.declared.words.RoleWord.{RoleWord}
use Rattle.crm_parse.specs.declared.words.RoleWord.TheVariants as role
use Rattle.crm_parse.specs.WordTexts.{action_word_text, bool_text, clone_word, kind_text, role_text, settings_text}
use Rattle.crm_print.specs.Quoting.{Item}

-- a word alone
abbrev pub word : List ℕ → Item
word text = text ∷ []

-- a text behind its label, as `description=TEXT`
abbrev pub labelled : List ℕ → List ℕ → Item
labelled label text = label ∷ text ∷ []

-- a text before a colon
abbrev pub with_colon : List ℕ → Item
with_colon text = text ∷ codes ":" ∷ []

-- two texts with a colon between them
abbrev pub parted : List ℕ → List ℕ → Item
parted first second = first ∷ codes ":" ∷ second ∷ []

-- a key, `=` and a value
abbrev pub pair : Kv → Item
pair kv = kv.key ∷ codes "=" ∷ kv.value ∷ []

-- an id before its colon, where there is one
abbrev pub given_id : Option (List ℕ) → List Item
given_id None = []
given_id (Some id) = with_colon id ∷ []

-- a text behind its label, where there is one
abbrev pub noted : List ℕ → Option (List ℕ) → List Item
noted label None = []
noted label (Some text) = labelled label text ∷ []

-- a role behind its label, where there is one
abbrev pub noted_role : List ℕ → Option RoleWord → List Item
noted_role label None = []
noted_role label (Some role) = labelled label (role_text role) ∷ []

-- a section: its word and its pairs. Without pairs there is none
abbrev pub section : List ℕ → List Kv → List Item
section name [] = []
section name (kv ∷ kvs) = word name ∷ map pair (kv ∷ kvs)

-- an operation of a primitive
abbrev pub operation_items : Operation → List Item
operation_items op = word (codes "op") ∷ word op.name ∷ map pair op.pairs

-- what stands behind the members of a group or the child of a clone
abbrev pub with_meta : Option (List ℕ) → List Kv → List Kv → List Item
with_meta description params meta = noted (codes "description=") description ++ (section (codes "params") params ++ section (codes "meta") meta)

-- a resource in a role; the role Started isn't written
abbrev pub in_role : List ℕ → RoleWord → Item
in_role resource role.Started = word resource
in_role resource role.Promoted = parted resource (codes "Promoted")

-- a side of a colocation
abbrev pub side : Side → Item
side s = in_role s.resource s.role

-- a resource of an order and its action
abbrev pub step : OrderStep → Item
step s = parted s.resource (action_word_text s.action)

-- a rule of a location
abbrev pub rule : RuleForm → List Item
rule r =
    word (codes "rule") ∷ (noted (codes "$id=") r.id ++ (noted_role (codes "$role=") r.role ++ with_colon (score_text r.score) ∷ map word r.words))

abbrev pub discovery : Bool → List Item
discovery true = word (codes "resource-discovery=always") ∷ []
discovery false = []

-- what a location says before its score or its rules
abbrev pub location_items : List ℕ → List ℕ → Option RoleWord → Bool → List Item
location_items id resource role everywhere =
    word (codes "location") ∷ word id ∷ word resource ∷ (noted_role (codes "role=") role ++ discovery everywhere)

-- the items of a statement
abbrev pub items_of : Form → List Item
items_of (form.Node id name attributes utilization) =
    word (codes "node") ∷ (given_id id ++ word name ∷ (section (codes "attributes") attributes ++ section (codes "utilization") utilization))
items_of (form.Primitive id agent description params meta utilization operations ops) =
    word (codes "primitive") ∷ word id ∷ word agent ∷ (
    with_meta description params meta ++ (
    section (codes "utilization") utilization ++ (section (codes "operations") operations ++ flat_map operation_items ops)
    )
    )
items_of (form.Group id members description params meta) =
    word (codes "group") ∷ word id ∷ (map word members ++ with_meta description params meta)
items_of (form.Cloned id child ms description params meta) =
    word (clone_word ms) ∷ word id ∷ word child ∷ with_meta description params meta
items_of (form.Location id resource role everywhere score node) =
    location_items id resource role everywhere ++ with_colon (score_text score) ∷ word node ∷ []
items_of (form.RuledLocation id resource role everywhere rules) = location_items id resource role everywhere ++ flat_map rule rules
items_of (form.Colocation id score dependent primary) =
    word (codes "colocation") ∷ word id ∷ with_colon (score_text score) ∷ side dependent ∷ side primary ∷ []
items_of (form.Order id kind steps symmetrical) =
    word (codes "order") ∷ word id ∷ with_colon (kind_text kind) ∷ (map step steps ++ labelled (codes "symmetrical=") (bool_text symmetrical) ∷ [])
items_of (form.Settings what set pairs) = word (settings_text what) ∷ (given_id set ++ map pair pairs)
items_of (form.Kept words) = map word words
