-- Where the words that a statement is written with are clean, so is each part of its items.
use Rattle.std.proofs.Common.{◌≡◌, ℕ, Bool, true, false, List, [], ◌∷◌, ◌++◌, Option, Some, None, refl, arith}
use Rattle.std.specs.Prelude.{codes, map}
use Rattle.std.specs.List.{flat_map, list_all}
use Rattle.score.specs.ScoreText.{score_text}
use Rattle.crm_parse.specs.declared.form.Form.{Form}
use Rattle.crm_parse.specs.declared.form.Form.TheVariants as form
use Rattle.crm_parse.specs.declared.form.OrderStep.{OrderStep}
use Rattle.crm_parse.specs.declared.form.Side.{Side}
use Rattle.crm_parse.specs.declared.pair.Kv.{Kv}
use Rattle.crm_parse.specs.declared.pair.Operation.{Operation}
use Rattle.crm_parse.specs.declared.rule_form.RuleForm.{RuleForm}
use Rattle.crm_parse.specs.declared.words.ActionWord.{ActionWord}
use Rattle.crm_parse.specs.declared.words.ActionWord.TheVariants.{Start, Stop, Promote, Demote}
use Rattle.crm_parse.specs.declared.words.KindWord.{KindWord}
use Rattle.crm_parse.specs.declared.words.KindWord.TheVariants.{Mandatory, Optional, Serialize}
use Rattle.crm_parse.specs.declared.words.RoleWord.{RoleWord}
use Rattle.crm_parse.specs.declared.words.RoleWord.TheVariants as role
use Rattle.crm_parse.specs.Reading.{Words}
use Rattle.crm_parse.specs.WordTexts.{action_word_text, bool_text, kind_text, role_text, settings_text}
use Rattle.crm_parse.proofs.Affixes.{given_words, noted_words}
use Rattle.crm_print.proofs.Clean.{AllClean, Clean, EachClean, clean-after, clean-ascii, clean-before, clean-behind, is_clean_byte}
use Rattle.crm_print.proofs.CleanSections.{all-behind, all-front}
use Rattle.crm_print.proofs.CleanStatements.{settings-clean}
use Rattle.crm_parse.proofs.PairLists.{pair_words}
use Rattle.crm_parse.proofs.PairWords.{pair_word}
use Rattle.crm_parse.proofs.LocationRead.{discovery_words}
use Rattle.crm_print.proofs.Written.{located_words, meta_words, operation_words, role_words, ruled_words, score_word, section_words, side_word, step_word, written}
use Rattle.crm_print.specs.Items.{discovery, given_id, items_of, labelled, location_items, noted, noted_role, operation_items, pair, rule, section, side, step, with_colon, with_meta, word}
use Rattle.crm_print.specs.Quoting.{Item}

pub each-append : (xs ys : List Item) → EachClean xs → EachClean ys → EachClean (xs ++ ys)
each-append [] ys a b = b
each-append (x ∷ xs) ys a b = (a.0, each-append xs ys a.1 b)

pub word-clean : (text : List ℕ) → Clean text → AllClean (word text)
word-clean text c = (c, tt)

pub words-clean : (words : Words) → AllClean words → EachClean (map word words)
words-clean [] w = tt
words-clean (first ∷ words) w = (word-clean first w.0, words-clean words w.1)

pub colon-clean : (text : List ℕ) → Clean (text ++ codes ":") → AllClean (with_colon text)
colon-clean text c = (clean-before text 58 [] (omega arith) c, (clean-ascii (codes ":") refl, tt))

pub given-clean : (id : Option (List ℕ)) → AllClean (given_words id) → EachClean (given_id id)
given-clean None w = tt
given-clean (Some id) w = (colon-clean id w.0, tt)

pub noted-clean : (label : List ℕ) (text : Option (List ℕ)) → list_all is_clean_byte label ≡ true → AllClean (noted_words label text) → EachClean (noted label text)
noted-clean label None l w = tt
noted-clean label (Some text) l w = ((clean-ascii label l, (clean-after label text l w.0, tt)), tt)

pub pair-clean : (kv : Kv) → Clean (pair_word kv) → AllClean (pair kv)
pair-clean kv c = (clean-before kv.key 61 kv.value (omega arith) c, (clean-ascii (codes "=") refl, (clean-behind kv.key 61 kv.value (omega arith) c, tt)))

pub pairs-clean : (kvs : List Kv) → AllClean (pair_words kvs) → EachClean (map pair kvs)
pairs-clean [] w = tt
pairs-clean (kv ∷ kvs) w = (pair-clean kv w.0, pairs-clean kvs w.1)

pub section-clean : (name : List ℕ) (kvs : List Kv) → AllClean (section_words name kvs) → EachClean (section name kvs)
section-clean name [] w = tt
section-clean name (kv ∷ kvs) w = (word-clean name w.0, pairs-clean (kv ∷ kvs) w.1)

pub operation-clean : (op : Operation) → AllClean (operation_words op) → EachClean (operation_items op)
operation-clean op w = (word-clean (codes "op") w.0, (word-clean op.name w.1.0, pairs-clean op.pairs w.1.1))

pub operations-clean : (ops : List Operation) → AllClean (flat_map operation_words ops) → EachClean (flat_map operation_items ops)
operations-clean [] w = tt
operations-clean (op ∷ ops) w =
    each-append (operation_items op) (flat_map operation_items ops) (operation-clean op (all-front (operation_words op) (flat_map operation_words ops) w))
    (operations-clean ops (all-behind (operation_words op) (flat_map operation_words ops) w))

-- two lists of words and of items, one behind the other
pub both-clean : (ws vs : Words) (xs ys : List Item) → (AllClean ws → EachClean xs) → (AllClean vs → EachClean ys) → AllClean (ws ++ vs) → EachClean (xs ++ ys)
both-clean ws vs xs ys f g w = each-append xs ys (f (all-front ws vs w)) (g (all-behind ws vs w))

pub meta-clean : (description : Option (List ℕ)) (params meta : List Kv) → AllClean (meta_words description params meta) → EachClean (with_meta description params meta)
meta-clean description params meta w =
    both-clean (noted_words (codes "description=") description) (section_words (codes "params") params ++ section_words (codes "meta") meta)
    (noted (codes "description=") description) (section (codes "params") params ++ section (codes "meta") meta) (noted-clean (codes "description=") description refl)
    (both-clean (section_words (codes "params") params) (section_words (codes "meta") meta) (section (codes "params") params) (section (codes "meta") meta)
    (section-clean (codes "params") params) (section-clean (codes "meta") meta)) w

pub node_items-clean : (id : Option (List ℕ)) (name : List ℕ) (attributes utilization : List Kv) → AllClean (written (form.Node id name attributes utilization))
    → EachClean (items_of (form.Node id name attributes utilization))
node_items-clean id name attributes utilization w =
    let a = section_words (codes "attributes") attributes in
    let u = section_words (codes "utilization") utilization in
    let x = section (codes "attributes") attributes in
    let y = section (codes "utilization") utilization in
    let two = both-clean a u x y (section-clean (codes "attributes") attributes) (section-clean (codes "utilization") utilization) in
    (word-clean (codes "node") w.0, both-clean (given_words id) (name ∷ (a ++ u)) (given_id id) (word name ∷ (x ++ y)) (given-clean id) (λ v. (word-clean name v.0, two v.1)) w.1)

pub primitive_items-clean : (id agent : List ℕ) (description : Option (List ℕ)) (params meta utilization operations : List Kv) (ops : List Operation)
    → AllClean (written (form.Primitive id agent description params meta utilization operations ops))
    → EachClean (items_of (form.Primitive id agent description params meta utilization operations ops))
primitive_items-clean id agent description params meta utilization operations ops w =
    let u = section_words (codes "utilization") utilization in
    let o = section_words (codes "operations") operations in
    let p = flat_map operation_words ops in
    let x = section (codes "utilization") utilization in
    let y = section (codes "operations") operations in
    let z = flat_map operation_items ops in
    let last = both-clean o p y z (section-clean (codes "operations") operations) (operations-clean ops) in
    let sections = both-clean u (o ++ p) x (y ++ z) (section-clean (codes "utilization") utilization) last in (
      word-clean (codes "primitive") w.0,
      (
        word-clean id w.1.0,
        (
          word-clean agent w.1.1.0,
          both-clean (meta_words description params meta) (u ++ (o ++ p)) (with_meta description params meta) (x ++ (y ++ z)) (meta-clean description params meta) sections w.1.1.1,
        ),
      ),
    )

pub group_items-clean : (id : List ℕ) (members : Words) (description : Option (List ℕ)) (params meta : List Kv)
    → AllClean (written (form.Group id members description params meta)) → EachClean (items_of (form.Group id members description params meta))
group_items-clean id members description params meta w = (
  word-clean (codes "group") w.0,
  (
    word-clean id w.1.0,
    both-clean members (meta_words description params meta) (map word members) (with_meta description params meta) (words-clean members) (meta-clean description params meta) w.1.1,
  ),
)

pub cloned_items-clean : (id child : List ℕ) (ms : Bool) (description : Option (List ℕ)) (params meta : List Kv)
    → AllClean (written (form.Cloned id child ms description params meta)) → EachClean (items_of (form.Cloned id child ms description params meta))
cloned_items-clean id child true description params meta w =
    (word-clean (codes "ms") w.0, (word-clean id w.1.0, (word-clean child w.1.1.0, meta-clean description params meta w.1.1.1)))
cloned_items-clean id child false description params meta w =
    (word-clean (codes "clone") w.0, (word-clean id w.1.0, (word-clean child w.1.1.0, meta-clean description params meta w.1.1.1)))

role-clean : (role : RoleWord) → Clean (role_text role)
role-clean role.Started = clean-ascii (codes "Started") refl
role-clean role.Promoted = clean-ascii (codes "Promoted") refl

kind-clean : (kind : KindWord) → Clean (kind_text kind)
kind-clean Mandatory = clean-ascii (codes "Mandatory") refl
kind-clean Optional = clean-ascii (codes "Optional") refl
kind-clean Serialize = clean-ascii (codes "Serialize") refl

action-clean : (action : ActionWord) → Clean (action_word_text action)
action-clean Start = clean-ascii (codes "start") refl
action-clean Stop = clean-ascii (codes "stop") refl
action-clean Promote = clean-ascii (codes "promote") refl
action-clean Demote = clean-ascii (codes "demote") refl

bool-clean : (b : Bool) → Clean (bool_text b)
bool-clean true = clean-ascii (codes "true") refl
bool-clean false = clean-ascii (codes "false") refl

noted_role-clean : (label : List ℕ) (role : Option RoleWord) → list_all is_clean_byte label ≡ true → EachClean (noted_role label role)
noted_role-clean label None l = tt
noted_role-clean label (Some role) l = ((clean-ascii label l, (role-clean role, tt)), tt)

discovery-clean : (everywhere : Bool) → EachClean (discovery everywhere)
discovery-clean true = (word-clean (codes "resource-discovery=always") (clean-ascii (codes "resource-discovery=always") refl), tt)
discovery-clean false = tt

-- what stands in a location before its score or its rules, and what stands there
located-clean : (id resource : List ℕ) (role : Option RoleWord) (everywhere : Bool) (rest : Words) (items : List Item) → (AllClean rest → EachClean items)
    → AllClean (located_words id resource role everywhere rest) → EachClean (location_items id resource role everywhere ++ items)
located-clean id resource role everywhere rest items f w =
    let last = all-behind (discovery_words everywhere) rest (all-behind (role_words (codes "role=") role) (discovery_words everywhere ++ rest) w.1.1) in
    each-append (location_items id resource role everywhere) items (
      word-clean (codes "location") (clean-ascii (codes "location") refl),
      (
        word-clean id w.0,
        (
          word-clean resource w.1.0,
          each-append (noted_role (codes "role=") role) (discovery everywhere) (noted_role-clean (codes "role=") role refl) (discovery-clean everywhere),
        ),
      ),
    )
    (f last)

rule-clean : (r : RuleForm) → AllClean (ruled_words r) → EachClean (rule r)
rule-clean r w =
    let words : AllClean (score_word r.score ∷ r.words) → EachClean (with_colon (score_text r.score) ∷ map word r.words) =
    λ v. (colon-clean (score_text r.score) v.0, words-clean r.words v.1) in (
      word-clean (codes "rule") w.0,
      both-clean (noted_words (codes "$id=") r.id) (role_words (codes "$role=") r.role ++ score_word r.score ∷ r.words)
          (noted (codes "$id=") r.id) (noted_role (codes "$role=") r.role ++ with_colon (score_text r.score) ∷ map word r.words) (noted-clean (codes "$id=") r.id refl)
          (both-clean (role_words (codes "$role=") r.role) (score_word r.score ∷ r.words) (noted_role (codes "$role=") r.role) (with_colon (score_text r.score) ∷ map word r.words)
          (λ v. noted_role-clean (codes "$role=") r.role refl) words) w.1,
    )

rules-clean : (rules : List RuleForm) → AllClean (flat_map ruled_words rules) → EachClean (flat_map rule rules)
rules-clean [] w = tt
rules-clean (r ∷ rules) w =
    both-clean (ruled_words r) (flat_map ruled_words rules) (rule r) (flat_map rule rules) (rule-clean r) (λ v. rules-clean rules v) w

side-case : (resource : List ℕ) (role : RoleWord) → Clean (side_word (record { resource = resource; role = role })) → AllClean (side (record { resource = resource; role = role }))
side-case resource role.Started c = word-clean resource c
side-case resource role.Promoted c =
    (clean-before resource 58 (codes "Promoted") (omega arith) c, (clean-ascii (codes ":") refl, (clean-ascii (codes "Promoted") refl, tt)))

side-clean : (s : Side) → Clean (side_word s) → AllClean (side s)
side-clean s c = side-case s.resource s.role c

step-clean : (s : OrderStep) → Clean (step_word s) → AllClean (step s)
step-clean s c = (clean-before s.resource 58 (action_word_text s.action) (omega arith) c, (clean-ascii (codes ":") refl, (action-clean s.action, tt)))

steps-clean : (steps : List OrderStep) → AllClean (map step_word steps) → EachClean (map step steps)
steps-clean [] w = tt
steps-clean (s ∷ steps) w = (step-clean s w.0, steps-clean steps w.1)

-- the items of any statement
pub items-clean : (f : Form) → AllClean (written f) → EachClean (items_of f)
items-clean (form.Node id name attributes utilization) w = node_items-clean id name attributes utilization w
items-clean (form.Primitive id agent description params meta utilization operations ops) w =
    primitive_items-clean id agent description params meta utilization operations ops w
items-clean (form.Group id members description params meta) w = group_items-clean id members description params meta w
items-clean (form.Cloned id child ms description params meta) w = cloned_items-clean id child ms description params meta w
items-clean (form.Location id resource role everywhere score node) w =
    located-clean id resource role everywhere (score_word score ∷ node ∷ []) (with_colon (score_text score) ∷ word node ∷ [])
    (λ v. (colon-clean (score_text score) v.0, (word-clean node v.1.0, tt))) w.1
items-clean (form.RuledLocation id resource role everywhere rules) w =
    located-clean id resource role everywhere (flat_map ruled_words rules) (flat_map rule rules) (rules-clean rules) w.1
items-clean (form.Colocation id score dependent primary) w = (
  word-clean (codes "colocation") w.0,
  (
    word-clean id w.1.0,
    (
      colon-clean (score_text score) w.1.1.0,
      (side-clean dependent w.1.1.1.0, (side-clean primary w.1.1.1.1.0, tt)),
    ),
  ),
)
items-clean (form.Order id kind steps symmetrical) w = (
  word-clean (codes "order") w.0,
  (
    word-clean id w.1.0,
    (
      (kind-clean kind, (clean-ascii (codes ":") refl, tt)),
      each-append (map step steps) (labelled (codes "symmetrical=") (bool_text symmetrical) ∷ []) (steps-clean steps (all-front (map step_word steps) _ w.1.1.1))
          ((clean-ascii (codes "symmetrical=") refl, (bool-clean symmetrical, tt)), tt),
    ),
  ),
)
items-clean (form.Settings what set pairs) w =
    (word-clean (settings_text what) (settings-clean what), both-clean (given_words set) (pair_words pairs) (given_id set) (map pair pairs) (given-clean set) (pairs-clean pairs) w.1)
items-clean (form.Kept words) w = words-clean words w
