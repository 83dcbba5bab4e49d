-- Colocations, orders, settings and locations that end too early can be continued.
use Rattle.std.proofs.Common.{◌≡◌, ℕ, Bool, true, false, cond, List, [], ◌∷◌, ◌++◌, None, Result, Ok, Err, refl}
use Rattle.std.specs.Prelude.{codes}
use Rattle.faults.specs.Reading.{◌>>=◌}
use Rattle.crm_parse.specs.declared.draft.DraftStatement.{DraftStatement}
use Rattle.crm_parse.specs.declared.draft.StepDraft.{StepDraft}
use Rattle.crm_parse.specs.declared.fault.ParseCause.{ParseCause}
use Rattle.crm_parse.specs.declared.fault.ParseCause.TheVariants.{MissingWord, RepeatedKey}
use Rattle.crm_parse.specs.declared.form.Form.TheVariants as form
use Rattle.crm_parse.specs.declared.pair.Kv.{Kv}
use Rattle.crm_parse.specs.declared.place.Place.{Place}
use Rattle.crm_parse.specs.declared.place.Place.TheVariants as place
use Rattle.crm_parse.specs.declared.words.KindWord.{KindWord}
use Rattle.crm_parse.specs.declared.words.SettingsWord.{SettingsWord}
use Rattle.crm_parse.specs.declared.words.SettingsWord.TheVariants.{Property, RscDefaults, OpDefaults}
use Rattle.crm_parse.specs.Colocation.{colocation_at, no_attribute, no_third, side_at, side_of, side_started}
use Rattle.crm_parse.specs.Keys.{accepts}
use Rattle.crm_parse.specs.Order.{ends_steps, kind_at, kind_in, order_at, order_steps_at, read_order_step, symmetrical_in, with_step, with_steps}
use Rattle.crm_parse.specs.Pairs.{kv_of}
use Rattle.crm_parse.specs.Reading.{Words, colon_at, end_at, given_at, name_at, next_word_in, prefixed_at, score_of, some_name}
use Rattle.crm_parse.specs.Settings.{is_pair, set_at, settings_at, settings_pairs, with_setting, with_settings}
use Rattle.crm_parse.proofs.CausesKept.{none-attribute, none-end, none-kind, none-kv, none-ok, none-order_step, none-score, none-side, none-some_name, none-symmetrical, none-third}
use Rattle.crm_parse.proofs.FaultsStay.{Goes, left, name-goes, next-goes, ok-goes}
use Rattle.crm_parse.proofs.GoesFurther.{Continues, GoesFurther, LacksNone, Through, Whatever, continue-first, continue-last, continue-option, continue-test, continue-word, further, name-missing, next-missing, none-if, none-step, word-missing}
use Rattle.crm_parse.proofs.LabelsStay.{colon-more, option-goes}
use Rattle.crm_parse.proofs.LinesStay.{one_step-goes, side-goes}

-- a name, a score and a pair that may stand anywhere
abbrev pub a_name : List ℕ
a_name = codes "a"

abbrev pub a_score_word : List ℕ
a_score_word = codes "0:"

abbrev pub a_pair : List ℕ
a_pair = codes "$id=a"

abbrev pub pair_of_id : Kv
pair_of_id = record { key = codes "$id"; value = codes "a" }

side-missing : (words : Words) → side_at words ≡ Err MissingWord → words ≡ []
unfolding side_at
side-missing words = word-missing words _ (λ word rest. none-step (no_attribute word) _ (none-attribute word) (λ fits. none-step (side_of word) _ (none-side word) (λ side e. cc)))

pub colocation-further : (words : Words) → Continues Whatever (colocation_at words) (λ more. colocation_at (words ++ more))
unfolding colocation_at side_at name_at score_of side_started
colocation-further words =
    continue-word Whatever name_at words _ (λ more. name-goes MissingWord more words) (name-missing words)
    (further Whatever _ (a_name ∷ a_score_word ∷ a_name ∷ a_name ∷ []) _ refl refl tt) (λ id e.
    continue-word Whatever next_word_in id.1 _ (λ more. next-goes MissingWord more id.1) (next-missing id.1)
    (further Whatever _ (a_score_word ∷ a_name ∷ a_name ∷ []) _ refl refl tt) (λ word e.
    continue-test Whatever (no_attribute word.0) _ _ (none-attribute word.0) (λ fits e.
    continue-test Whatever (score_of word.0) _ _ (none-score word.0) (λ points e.
    continue-word Whatever side_at word.1 _ (λ more. side-goes MissingWord more word.1) (side-missing word.1)
    (further Whatever _ (a_name ∷ a_name ∷ []) _ refl refl tt) (λ dependent e.
    continue-word Whatever side_at dependent.1 _ (λ more. side-goes MissingWord more dependent.1) (side-missing dependent.1)
    (further Whatever _ (a_name ∷ []) _ refl refl tt) (λ primary e.
    λ e. absurd (none-step (no_third primary.1) _ (none-third primary.1) (λ end e. cc) e)))))))

-- an order
step-missing : (steps : List StepDraft) (words : Words) → with_step steps words ≡ Err MissingWord → words ≡ []
unfolding with_step
step-missing steps words = word-missing words _ (λ word rest. none-step (read_order_step word) _ (none-order_step word) (λ one e. cc))

steps-none-case : (steps : List StepDraft) (word : List ℕ) (words : Words) (ends : Bool) → ((one : StepDraft) → LacksNone (with_steps (steps ++ one ∷ []) words))
    → LacksNone (cond ends (Ok (steps, word ∷ words)) (read_order_step word >>= (λ one. with_steps (steps ++ one ∷ []) words)))
steps-none-case steps word words true k = none-ok (steps, word ∷ words)
steps-none-case steps word words false k = none-step (read_order_step word) _ (none-order_step word) k

steps-none : (steps : List StepDraft) (words : Words) → LacksNone (with_steps steps words)
steps-none steps [] = none-ok (steps, [])
steps-none steps (word ∷ words) = steps-none-case steps word words (ends_steps word) (λ one. steps-none (steps ++ one ∷ []) words)

steps-further : (words : Words) → Continues Through (order_steps_at words) (λ more. order_steps_at (words ++ more))
unfolding order_steps_at with_step read_order_step
steps-further words =
    continue-word Through (with_step []) words _ (λ more. one_step-goes MissingWord more [] words) (step-missing [] words)
    (further Through _ (a_name ∷ a_name ∷ []) _ refl refl refl) (λ first e.
    continue-word Through (with_step first.0) first.1 _ (λ more. one_step-goes MissingWord more first.0 first.1) (step-missing first.0 first.1)
    (further Through _ (a_name ∷ []) _ refl refl refl) (λ second e.
    λ e. absurd (steps-none second.0 second.1 e)))

kind-goes : (more rest : Words) (word : List ℕ) → Goes (left more) (kind_at (word ∷ rest)) (kind_at (word ∷ (rest ++ more)))
unfolding kind_at
kind-goes more rest word = option-goes more kind_in (colon_at (word ∷ rest)) (colon_at (word ∷ (rest ++ more))) (colon-more word rest more)

kind-none : (words : Words) → LacksNone (kind_at words)
unfolding kind_at
kind-none words = none-step (kind_in (colon_at words).0) _ (none-kind (colon_at words).0) (λ kind e. cc)

abbrev symmetrical_of : {B : Type 0} → KindWord → (Bool → B) → Words → Result B ParseCause
symmetrical_of kind make words =
    symmetrical_in kind (prefixed_at (codes "symmetrical=") words).0 >>= (λ both. end_at (prefixed_at (codes "symmetrical=") words).1 >>= (λ end. Ok (make both)))

symmetrical-ends : {B : Type 0} (kind : KindWord) (make : Bool → B) (words : Words) → words ≡ [] → GoesFurther Whatever (λ (more : Words). symmetrical_of kind make words)
unfolding symmetrical_in
symmetrical-ends kind make [] e = further Whatever _ [] _ refl refl tt
symmetrical-ends kind make (word ∷ words) e = absurd (cc)

symmetrical-none : {B : Type 0} (kind : KindWord) (make : Bool → B) (words : Words) → LacksNone (symmetrical_of kind make words)
symmetrical-none kind make words =
    let found = prefixed_at (codes "symmetrical=") words in
    none-step (symmetrical_in kind found.0) _ (none-symmetrical kind found.0) (λ both. none-step (end_at found.1) _ (none-end found.1) (λ end. none-ok (make both)))

pub order-further : (words : Words) → Continues Whatever (order_at words) (λ more. order_at (words ++ more))
unfolding order_at name_at kind_at order_steps_at with_step read_order_step symmetrical_in
order-further words =
    continue-word Whatever name_at words _ (λ more. name-goes MissingWord more words) (name-missing words)
    (further Whatever _ (a_name ∷ a_name ∷ a_name ∷ []) _ refl refl tt) (λ id e.
    continue-option Whatever kind_at id.1 _ kind-goes (λ word rest. kind-none (word ∷ rest))
    (further Whatever _ (a_name ∷ a_name ∷ []) _ refl refl tt) (λ kind e.
    continue-first Through Whatever (order_steps_at kind.1) (λ more. order_steps_at (kind.1 ++ more)) _ (steps-further kind.1)
    (λ steps h. symmetrical-ends kind.0 _ steps.1 h)
    (λ steps. symmetrical-none kind.0 _ steps.1)))

-- settings
id-taken : (p : Place) → accepts p (codes "$id") (codes "a") ≡ Ok tt
unfolding accepts
id-taken place.Plain = refl
id-taken place.NodeAttributes = refl
id-taken place.PrimitivePlain = refl
id-taken place.PrimitiveMeta = refl
id-taken place.LeafMeta = refl
id-taken place.CloneMeta = refl
id-taken place.MsMeta = refl
id-taken place.Property = refl
id-taken place.OpDefaults = refl
id-taken (place.Operation name) = refl

pub kv-taken : (p : Place) → kv_of p a_pair ≡ Ok pair_of_id
unfolding kv_of
kv-taken p = rw (id-taken p) refl

setting-taken : (what : SettingsWord) (before : List DraftStatement) (pairs : List Kv)
    → with_setting what before pairs a_pair ≡ Ok (pairs ++ pair_of_id ∷ [])
unfolding with_setting
setting-taken Property before pairs = rw (kv-taken place.Property) refl
setting-taken RscDefaults before pairs = rw (kv-taken place.LeafMeta) refl
setting-taken OpDefaults before pairs = rw (kv-taken place.OpDefaults) refl

setting-none : (what : SettingsWord) (before : List DraftStatement) (pairs : List Kv) (word : List ℕ) → LacksNone (with_setting what before pairs word)
unfolding with_setting
setting-none what before pairs word = none-step (kv_of _ word) _ (none-kv _ word) (λ pair. none-if _ (Err RepeatedKey) (Ok (pairs ++ pair ∷ [])) (λ e. cc) (λ e. cc))

settings-none : (what : SettingsWord) (before : List DraftStatement) (pairs : List Kv) (words : Words) → LacksNone (with_settings what before pairs words)
settings-none what before pairs [] = none-ok pairs
settings-none what before pairs (word ∷ words) = none-step (with_setting what before pairs word) _ (setting-none what before pairs word) (λ more. settings-none what before more words)

pairs-further : (what : SettingsWord) (before : List DraftStatement) (words : Words)
    → Continues Whatever (settings_pairs what before words) (λ more. settings_pairs what before (words ++ more))
pairs-further what before [] e = further Whatever _ (a_pair ∷ []) (pair_of_id ∷ []) (rw (setting-taken what before []) refl) refl tt
pairs-further what before (word ∷ words) e = absurd (settings-none what before [] (word ∷ words) e)

set-go-case : (more rest : Words) (word : List ℕ) (pair : Bool) → Goes (left more) (cond pair (Ok (None, word ∷ rest)) (given_at (word ∷ rest)))
    (cond pair (Ok (None, word ∷ (rest ++ more))) (given_at (word ∷ (rest ++ more))))
unfolding given_at
set-go-case more rest word true = ok-goes (left more) (None, word ∷ rest)
set-go-case more rest word false = option-goes more some_name (colon_at (word ∷ rest)) (colon_at (word ∷ (rest ++ more))) (colon-more word rest more)

set-goes : (more rest : Words) (word : List ℕ) → Goes (left more) (set_at (word ∷ rest)) (set_at (word ∷ (rest ++ more)))
set-goes more rest word = set-go-case more rest word (is_pair word)

given-none : (words : Words) → LacksNone (given_at words)
unfolding given_at
given-none words = none-step (some_name (colon_at words).0) _ (none-some_name (colon_at words).0) (λ id e. cc)

set-none : (word : List ℕ) (rest : Words) → LacksNone (set_at (word ∷ rest))
set-none word rest = none-if (is_pair word) (Ok (None, word ∷ rest)) (given_at (word ∷ rest)) (none-ok (None, word ∷ rest)) (given-none (word ∷ rest))

pub settings-further : (what : SettingsWord) (before : List DraftStatement) (words : Words) → Continues Whatever (settings_at what before words) (λ more. settings_at what before (words ++ more))
unfolding settings_at
settings-further what before words =
    continue-option Whatever set_at words _ set-goes set-none (further Whatever _ (a_pair ∷ []) (form.Settings what None (pair_of_id ∷ [])) (rw (setting-taken what before []) refl) refl tt) (λ set e.
    continue-last Whatever Whatever (settings_pairs what before set.1) (λ more. settings_pairs what before (set.1 ++ more)) _ (λ x h. tt) (pairs-further what before set.1))
