-- Each item of a statement has a part.
use Rattle.std.proofs.Common.{◌≡◌, ℕ, Bool, true, false, List, [], ◌∷◌, ◌++◌, Option, Some, None, codes, map, refl}
use Rattle.std.specs.List.{flat_map, list_all}
use Rattle.crm_parse.specs.declared.form.Form.{Form}
use Rattle.crm_parse.specs.declared.form.Form.TheVariants as form
use Rattle.crm_parse.specs.declared.pair.Kv.{Kv}
use Rattle.crm_parse.specs.declared.pair.Operation.{Operation}
use Rattle.crm_parse.specs.declared.rule_form.RuleForm.{RuleForm}
use Rattle.crm_parse.specs.declared.words.RoleWord.{RoleWord}
use Rattle.crm_parse.specs.declared.words.RoleWord.TheVariants as role
use Rattle.crm_parse.specs.WordTexts.{bool_text}
use Rattle.score.specs.ScoreText.{score_text}
use Rattle.crm_print.specs.Items.{discovery, given_id, in_role, items_of, labelled, location_items, noted, noted_role, operation_items, pair, rule, section, side, step, with_colon, with_meta, word}
use Rattle.crm_print.specs.Quoting.{Item}
use Rattle.crm_print.proofs.Lines.{is_filled}

abbrev Filled : List Item → Type 0
Filled items = list_all is_filled items ≡ true

filled-append : (xs ys : List Item) → Filled xs → Filled ys → Filled (xs ++ ys)
filled-append [] ys h g = g
filled-append ((part ∷ parts) ∷ xs) ys h g = filled-append xs ys h g
filled-append ([] ∷ xs) ys h g = cc

filled-cons : (item : Item) (items : List Item) → is_filled item ≡ true → Filled items → Filled (item ∷ items)
filled-cons (part ∷ parts) items h g = g
filled-cons [] items h g = cc

filled-map : {X : Type 0} (f : X → Item) → ((x : X) → is_filled (f x) ≡ true) → (xs : List X) → Filled (map f xs)
filled-map f h [] = refl
filled-map f h (x ∷ xs) = filled-cons (f x) (map f xs) (h x) (filled-map f h xs)

filled-flat_map : {X : Type 0} (f : X → List Item) → ((x : X) → Filled (f x)) → (xs : List X) → Filled (flat_map f xs)
filled-flat_map f h [] = refl
filled-flat_map f h (x ∷ xs) = filled-append (f x) (flat_map f xs) (h x) (filled-flat_map f h xs)

filled-given : (id : Option (List ℕ)) → Filled (given_id id)
filled-given None = refl
filled-given (Some id) = refl

filled-noted : (label : List ℕ) (text : Option (List ℕ)) → Filled (noted label text)
filled-noted label None = refl
filled-noted label (Some text) = refl

filled-noted_role : (label : List ℕ) (role : Option RoleWord) → Filled (noted_role label role)
filled-noted_role label None = refl
filled-noted_role label (Some role) = refl

filled-section : (name : List ℕ) (kvs : List Kv) → Filled (section name kvs)
filled-section name [] = refl
filled-section name (kv ∷ kvs) = filled-map pair (λ kv. refl) kvs

filled-operation : (op : Operation) → Filled (operation_items op)
filled-operation op = filled-map pair (λ kv. refl) op.pairs

filled-meta : (description : Option (List ℕ)) (params meta : List Kv) → Filled (with_meta description params meta)
filled-meta description params meta =
    filled-append (noted (codes "description=") description) (section (codes "params") params ++ section (codes "meta") meta) (filled-noted (codes "description=") description)
    (filled-append (section (codes "params") params) (section (codes "meta") meta) (filled-section (codes "params") params) (filled-section (codes "meta") meta))

filled-in_role : (resource : List ℕ) (role : RoleWord) → is_filled (in_role resource role) ≡ true
filled-in_role resource role.Started = refl
filled-in_role resource role.Promoted = refl

filled-rule : (r : RuleForm) → Filled (rule r)
filled-rule r =
    filled-append (noted (codes "$id=") r.id) (noted_role (codes "$role=") r.role ++ with_colon (score_text r.score) ∷ map word r.words) (filled-noted (codes "$id=") r.id)
    (filled-append (noted_role (codes "$role=") r.role) (with_colon (score_text r.score) ∷ map word r.words) (filled-noted_role (codes "$role=") r.role)
    (filled-map word (λ text. refl) r.words))

filled-discovery : (everywhere : Bool) → Filled (discovery everywhere)
filled-discovery true = refl
filled-discovery false = refl

filled-located : (id resource : List ℕ) (role : Option RoleWord) (everywhere : Bool) → Filled (location_items id resource role everywhere)
filled-located id resource role everywhere =
    filled-append (noted_role (codes "role=") role) (discovery everywhere) (filled-noted_role (codes "role=") role) (filled-discovery everywhere)

pub filled-items : (f : Form) → list_all is_filled (items_of f) ≡ true
filled-items (form.Node id name attributes utilization) =
    filled-append (given_id id) (word name ∷ (section (codes "attributes") attributes ++ section (codes "utilization") utilization)) (filled-given id)
    (filled-append (section (codes "attributes") attributes) (section (codes "utilization") utilization) (filled-section (codes "attributes") attributes) (filled-section (codes "utilization") utilization))
filled-items (form.Primitive id agent description params meta utilization operations ops) =
    filled-append (with_meta description params meta) (section (codes "utilization") utilization ++ (section (codes "operations") operations ++ flat_map operation_items ops)) (filled-meta description params meta)
    (filled-append (section (codes "utilization") utilization) (section (codes "operations") operations ++ flat_map operation_items ops) (filled-section (codes "utilization") utilization)
    (filled-append (section (codes "operations") operations) (flat_map operation_items ops) (filled-section (codes "operations") operations) (filled-flat_map operation_items filled-operation ops)))
filled-items (form.Group id members description params meta) =
    filled-append (map word members) (with_meta description params meta) (filled-map word (λ text. refl) members) (filled-meta description params meta)
filled-items (form.Cloned id child ms description params meta) = filled-meta description params meta
filled-items (form.Location id resource role everywhere score node) =
    filled-append (location_items id resource role everywhere) (with_colon (score_text score) ∷ word node ∷ []) (filled-located id resource role everywhere) refl
filled-items (form.RuledLocation id resource role everywhere rules) =
    filled-append (location_items id resource role everywhere) (flat_map rule rules) (filled-located id resource role everywhere) (filled-flat_map rule filled-rule rules)
filled-items (form.Colocation id score dependent primary) =
    filled-cons (side dependent) (side primary ∷ []) (filled-in_role dependent.resource dependent.role) (filled-cons (side primary) [] (filled-in_role primary.resource primary.role) refl)
filled-items (form.Order id kind steps symmetrical) =
    filled-append (map step steps) (labelled (codes "symmetrical=") (bool_text symmetrical) ∷ []) (filled-map step (λ s. refl) steps) refl
filled-items (form.Settings what set pairs) =
    filled-append (given_id set) (map pair pairs) (filled-given set) (filled-map pair (λ kv. refl) pairs)
filled-items (form.Kept words) = filled-map word (λ text. refl) words
