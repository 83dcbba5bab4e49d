-- The items of a statement spell the words that it is written with.
use Rattle.std.proofs.Common.{◌≡◌, ℕ, Bool, true, false, List, [], ◌∷◌, ◌++◌, Option, Some, None, refl, ap, ◌∙◌, append_assoc, append-nil}
use Rattle.std.specs.Prelude.{codes, map}
use Rattle.std.specs.List.{flat_map}
use Rattle.std.proofs.lemmas.List.{map-append}
use Rattle.score.specs.ScoreText.{score_text}
use Rattle.crm_parse.specs.declared.form.Form.{Form}
use Rattle.crm_parse.specs.declared.form.Form.TheVariants as form
use Rattle.crm_parse.specs.declared.form.OrderStep.{OrderStep}
use Rattle.crm_parse.specs.declared.form.Side.{Side}
use Rattle.crm_parse.specs.declared.pair.Kv.{Kv}
use Rattle.crm_parse.specs.declared.pair.Operation.{Operation}
use Rattle.crm_parse.specs.declared.rule_form.RuleForm.{RuleForm}
use Rattle.crm_parse.specs.declared.words.ActionWord.{ActionWord}
use Rattle.crm_parse.specs.declared.words.ActionWord.TheVariants.{Start, Stop, Promote, Demote}
use Rattle.crm_parse.specs.declared.words.KindWord.{KindWord}
use Rattle.crm_parse.specs.declared.words.KindWord.TheVariants.{Mandatory, Optional, Serialize}
use Rattle.crm_parse.specs.declared.words.RoleWord.{RoleWord}
use Rattle.crm_parse.specs.declared.words.RoleWord.TheVariants as role
use Rattle.crm_parse.specs.declared.words.SettingsWord.{SettingsWord}
use Rattle.crm_parse.specs.declared.words.SettingsWord.TheVariants.{Property, RscDefaults, OpDefaults}
use Rattle.crm_parse.specs.Reading.{Words}
use Rattle.crm_parse.specs.WordTexts.{action_word_text, bool_text, kind_text, settings_text}
use Rattle.crm_parse.proofs.Affixes.{given_words, noted_words}
use Rattle.crm_parse.proofs.OperationWords.{op_words}
use Rattle.crm_parse.proofs.PairLists.{pair_words}
use Rattle.crm_parse.proofs.PairWords.{pair_word}
use Rattle.crm_parse.proofs.LocationRead.{discovery_words}
use Rattle.crm_print.proofs.Written.{located_words, meta_words, operation_words, role_words, ruled_words, score_word, section_words, side_word, step_word, written}
use Rattle.crm_print.specs.Items.{discovery, given_id, in_role, items_of, labelled, location_items, noted, noted_role, operation_items, pair, parted, rule, section, side, step, with_colon, with_meta, word}
use Rattle.crm_print.specs.Quoting.{Item}
use Rattle.crm_print.specs.Inner.Quoting.{item_word}
use Rattle.crm_print.specs.Inner.Text.{canonical_words}

-- the words of some items
abbrev pub spelled : List Item → Words
spelled items = map item_word items

-- some items spell some words
pub record Spells (items : List Item) (words : Words) : Type 0 where
  pub same : spelled items ≡ words

nothing : Spells [] []
nothing = record { same = refl }

cons : (item : Item) (items : List Item) (text : List ℕ) (words : Words) → item_word item ≡ text → Spells items words → Spells (item ∷ items) (text ∷ words)
cons item items text words e s = record { same = ap (λ t. t ∷ spelled items) e ∙ ap (λ (ws : Words). text ∷ ws) s.same }

join : (xs ys : List Item) (ws vs : Words) → Spells xs ws → Spells ys vs → Spells (xs ++ ys) (ws ++ vs)
join xs ys ws vs s t = record { same = map-append item_word xs ys ∙ (ap (λ (us : Words). us ++ spelled ys) s.same ∙ ap (λ (us : Words). ws ++ us) t.same) }

word-is : (text : List ℕ) → item_word (word text) ≡ text
word-is text = append-nil text

labelled-is : (label text : List ℕ) → item_word (labelled label text) ≡ label ++ text
labelled-is label text = ap (λ t. label ++ t) (append-nil text)

pair-is : (kv : Kv) → item_word (pair kv) ≡ pair_word kv
pair-is kv = ap (λ (t : List ℕ). kv.key ++ 61 ∷ t) (append-nil kv.value)

words-spell : (words : Words) → Spells (map word words) words
words-spell [] = nothing
words-spell (first ∷ words) = cons (word first) (map word words) first words (word-is first) (words-spell words)

given-spells : (id : Option (List ℕ)) → Spells (given_id id) (given_words id)
given-spells None = nothing
given-spells (Some id) = record { same = refl }

noted-spells : (label : List ℕ) (text : Option (List ℕ)) → Spells (noted label text) (noted_words label text)
noted-spells label None = nothing
noted-spells label (Some text) = cons (labelled label text) [] (label ++ text) [] (labelled-is label text) nothing

pairs-spell : (kvs : List Kv) → Spells (map pair kvs) (pair_words kvs)
pairs-spell [] = nothing
pairs-spell (kv ∷ kvs) = cons (pair kv) (map pair kvs) (pair_word kv) (pair_words kvs) (pair-is kv) (pairs-spell kvs)

section-spells : (name : List ℕ) (kvs : List Kv) → Spells (section name kvs) (section_words name kvs)
section-spells name [] = nothing
section-spells name (kv ∷ kvs) = cons (word name) (map pair (kv ∷ kvs)) name (pair_words (kv ∷ kvs)) (word-is name) (pairs-spell (kv ∷ kvs))

operation-spells : (op : Operation) → Spells (operation_items op) (operation_words op)
operation-spells op =
    cons (word (codes "op")) (word op.name ∷ map pair op.pairs) (codes "op") (op_words op) refl
    (cons (word op.name) (map pair op.pairs) op.name (pair_words op.pairs) (word-is op.name) (pairs-spell op.pairs))

operations-spell : (ops : List Operation) → Spells (flat_map operation_items ops) (flat_map operation_words ops)
operations-spell [] = nothing
operations-spell (op ∷ ops) = join (operation_items op) (flat_map operation_items ops) (operation_words op) (flat_map operation_words ops) (operation-spells op) (operations-spell ops)

meta-spells : (description : Option (List ℕ)) (params meta : List Kv) → Spells (with_meta description params meta) (meta_words description params meta)
meta-spells description params meta =
    join (noted (codes "description=") description) (section (codes "params") params ++ section (codes "meta") meta) (noted_words (codes "description=") description)
    (section_words (codes "params") params ++ section_words (codes "meta") meta) (noted-spells (codes "description=") description)
    (join (section (codes "params") params) (section (codes "meta") meta) (section_words (codes "params") params) (section_words (codes "meta") meta)
    (section-spells (codes "params") params) (section-spells (codes "meta") meta))

role-spells : (label : List ℕ) (r : Option RoleWord) → Spells (noted_role label r) (role_words label r)
role-spells label None = nothing
role-spells label (Some role.Started) = cons (labelled label (codes "Started")) [] (label ++ codes "Started") [] refl nothing
role-spells label (Some role.Promoted) = cons (labelled label (codes "Promoted")) [] (label ++ codes "Promoted") [] refl nothing

discovery-spells : (everywhere : Bool) → Spells (discovery everywhere) (discovery_words everywhere)
discovery-spells true = record { same = refl }
discovery-spells false = nothing

located-spells : (id resource : List ℕ) (r : Option RoleWord) (everywhere : Bool) (items : List Item) (words : Words) → Spells items words
    → Spells (location_items id resource r everywhere ++ items) (codes "location" ∷ located_words id resource r everywhere words)
located-spells id resource r everywhere items words s =
    let rest = discovery everywhere ++ items in
    let last = join (noted_role (codes "role=") r) rest (role_words (codes "role=") r) (discovery_words everywhere ++ words) (role-spells (codes "role=") r)
    (join (discovery everywhere) items (discovery_words everywhere) words (discovery-spells everywhere) s) in
    let same = append_assoc (noted_role (codes "role=") r) (discovery everywhere) items in
    let tail : Spells ((noted_role (codes "role=") r ++ discovery everywhere) ++ items) (role_words (codes "role=") r ++ (discovery_words everywhere ++ words)) =
    record { same = ap spelled same ∙ last.same } in
    cons (word (codes "location")) _ (codes "location") _ refl (cons (word id) _ id _ (word-is id) (cons (word resource) _ resource _ (word-is resource) tail))

rule-spells : (r : RuleForm) → Spells (rule r) (ruled_words r)
rule-spells r =
    cons (word (codes "rule")) _ (codes "rule") _ refl
    (join (noted (codes "$id=") r.id) (noted_role (codes "$role=") r.role ++ with_colon (score_text r.score) ∷ map word r.words) (noted_words (codes "$id=") r.id)
    (role_words (codes "$role=") r.role ++ score_word r.score ∷ r.words) (noted-spells (codes "$id=") r.id)
    (join (noted_role (codes "$role=") r.role) (with_colon (score_text r.score) ∷ map word r.words) (role_words (codes "$role=") r.role) (score_word r.score ∷ r.words)
    (role-spells (codes "$role=") r.role)
    (cons (with_colon (score_text r.score)) (map word r.words) (score_word r.score) r.words refl (words-spell r.words))))

rules-spell : (rules : List RuleForm) → Spells (flat_map rule rules) (flat_map ruled_words rules)
rules-spell [] = nothing
rules-spell (r ∷ rules) = join (rule r) (flat_map rule rules) (ruled_words r) (flat_map ruled_words rules) (rule-spells r) (rules-spell rules)

side-case : (resource : List ℕ) (r : RoleWord) → item_word (in_role resource r) ≡ side_word (record { resource = resource; role = r })
side-case resource role.Started = word-is resource
side-case resource role.Promoted = refl

side-is : (s : Side) → item_word (side s) ≡ side_word s
side-is s = side-case s.resource s.role

step-case : (resource : List ℕ) (action : ActionWord) → item_word (parted resource (action_word_text action)) ≡ step_word (record { resource = resource; action = action })
step-case resource Start = refl
step-case resource Stop = refl
step-case resource Promote = refl
step-case resource Demote = refl

step-is : (s : OrderStep) → item_word (step s) ≡ step_word s
step-is s = step-case s.resource s.action

steps-spell : (steps : List OrderStep) → Spells (map step steps) (map step_word steps)
steps-spell [] = nothing
steps-spell (s ∷ steps) = cons (step s) (map step steps) (step_word s) (map step_word steps) (step-is s) (steps-spell steps)

kind-is : (kind : KindWord) → item_word (with_colon (kind_text kind)) ≡ kind_text kind ++ codes ":"
kind-is Mandatory = refl
kind-is Optional = refl
kind-is Serialize = refl

symmetrical-is : (b : Bool) → item_word (labelled (codes "symmetrical=") (bool_text b)) ≡ codes "symmetrical=" ++ bool_text b
symmetrical-is true = refl
symmetrical-is false = refl

settings-is : (what : SettingsWord) → item_word (word (settings_text what)) ≡ settings_text what
settings-is Property = refl
settings-is RscDefaults = refl
settings-is OpDefaults = refl

form-spells : (f : Form) → Spells (items_of f) (written f)
form-spells (form.Node id name attributes utilization) =
    let a = section (codes "attributes") attributes in
    let u = section (codes "utilization") utilization in
    let tail = join a u _ _ (section-spells (codes "attributes") attributes) (section-spells (codes "utilization") utilization) in
    cons (word (codes "node")) _ (codes "node") _ refl
    (join (given_id id) (word name ∷ (a ++ u)) _ _ (given-spells id) (cons (word name) (a ++ u) name _ (word-is name) tail))
form-spells (form.Primitive id agent description params meta utilization operations ops) =
    let u = section (codes "utilization") utilization in
    let o = section (codes "operations") operations in
    let p = flat_map operation_items ops in
    let last = join o p _ _ (section-spells (codes "operations") operations) (operations-spell ops) in
    let sections = join u (o ++ p) _ _ (section-spells (codes "utilization") utilization) last in
    cons (word (codes "primitive")) _ (codes "primitive") _ refl (cons (word id) _ id _ (word-is id) (cons (word agent) _ agent _ (word-is agent)
    (join (with_meta description params meta) (u ++ (o ++ p)) _ _ (meta-spells description params meta) sections)))
form-spells (form.Group id members description params meta) =
    cons (word (codes "group")) _ (codes "group") _ refl (cons (word id) _ id _ (word-is id)
    (join (map word members) (with_meta description params meta) _ _ (words-spell members) (meta-spells description params meta)))
form-spells (form.Cloned id child true description params meta) =
    cons (word (codes "ms")) _ (codes "ms") _ refl (cons (word id) _ id _ (word-is id) (cons (word child) _ child _ (word-is child) (meta-spells description params meta)))
form-spells (form.Cloned id child false description params meta) =
    cons (word (codes "clone")) _ (codes "clone") _ refl (cons (word id) _ id _ (word-is id) (cons (word child) _ child _ (word-is child) (meta-spells description params meta)))
form-spells (form.Location id resource r everywhere score node) =
    located-spells id resource r everywhere (with_colon (score_text score) ∷ word node ∷ []) (score_word score ∷ node ∷ [])
    (cons (with_colon (score_text score)) (word node ∷ []) (score_word score) (node ∷ []) refl (cons (word node) [] node [] (word-is node) nothing))
form-spells (form.RuledLocation id resource r everywhere rules) = located-spells id resource r everywhere (flat_map rule rules) (flat_map ruled_words rules) (rules-spell rules)
form-spells (form.Colocation id score dependent primary) =
    cons (word (codes "colocation")) _ (codes "colocation") _ refl (cons (word id) _ id _ (word-is id)
    (cons (with_colon (score_text score)) (side dependent ∷ side primary ∷ []) (score_word score) (side_word dependent ∷ side_word primary ∷ []) refl
    (cons (side dependent) (side primary ∷ []) (side_word dependent) (side_word primary ∷ []) (side-is dependent) (cons (side primary) [] (side_word primary) [] (side-is primary) nothing))))
form-spells (form.Order id kind steps symmetrical) =
    let last = cons (labelled (codes "symmetrical=") (bool_text symmetrical)) [] (codes "symmetrical=" ++ bool_text symmetrical) [] (symmetrical-is symmetrical) nothing in
    cons (word (codes "order")) _ (codes "order") _ refl (cons (word id) _ id _ (word-is id) (cons (with_colon (kind_text kind)) _ (kind_text kind ++ codes ":") _ (kind-is kind)
    (join (map step steps) (labelled (codes "symmetrical=") (bool_text symmetrical) ∷ []) (map step_word steps) ((codes "symmetrical=" ++ bool_text symmetrical) ∷ []) (steps-spell steps) last)))
form-spells (form.Settings what set pairs) =
    cons (word (settings_text what)) _ (settings_text what) _ (settings-is what) (join (given_id set) (map pair pairs) _ _ (given-spells set) (pairs-spell pairs))
form-spells (form.Kept words) = words-spell words

-- the canonical line of a statement is read as the words that it is written with
pub canonical_words-written : (f : Form) → canonical_words f ≡ written f
canonical_words-written f = let s = form-spells f in s.same
