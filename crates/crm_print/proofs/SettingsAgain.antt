-- A statement of settings is read again from its words, after any statements that give the same keys.
use Rattle.std.proofs.Common.{◌≡◌, ℕ, Bool, true, false, List, [], ◌∷◌, ◌++◌, Option, None, Result, Ok, Err, refl, sym, ap, ◌∙◌, subst}
use Rattle.std.specs.Prelude.{◌||◌}
use Rattle.std.specs.List.{list_any}
use Rattle.crm_parse.specs.declared.draft.DraftStatement.{DraftStatement}
use Rattle.crm_parse.specs.declared.fault.ParseCause.{ParseCause}
use Rattle.crm_parse.specs.declared.fault.ParseCause.TheVariants.{RepeatedKey}
use Rattle.crm_parse.specs.declared.form.Form.{Form}
use Rattle.crm_parse.specs.declared.form.Form.TheVariants as form
use Rattle.crm_parse.specs.declared.pair.Kv.{Kv}
use Rattle.crm_parse.specs.declared.words.SettingsWord.{SettingsWord}
use Rattle.crm_parse.specs.Pairs.{kv_of, repeats}
use Rattle.crm_parse.specs.Reading.{Words, given_at}
use Rattle.faults.specs.Reading.{◌>>=◌}
use Rattle.crm_parse.specs.Settings.{begins_pair, set_at, set_before, sets, settings_at, settings_pairs, settings_place, with_setting, with_settings}
use Rattle.crm_parse.specs.WordTexts.{settings_text}
use Rattle.crm_parse.proofs.Affixes.{colon_at-words, given_words}
use Rattle.crm_parse.proofs.Binds.{given_at-ok, unless-ok}
use Rattle.faults.proofs.Steps.{bind-ok}
use Rattle.crm_parse.proofs.PairLists.{Adds, AddsAll, adds_more, adds_none, pair_words}
use Rattle.crm_parse.proofs.PairWords.{kv_of-word}
use Rattle.crm_print.proofs.Written.{written}

with_setting-adds : (what : SettingsWord) (before : List DraftStatement) (pairs : List Kv) (word : List ℕ) (more : List Kv)
    → with_setting what before pairs word ≡ Ok more → Adds pairs word more
unfolding with_setting
with_setting-adds what before pairs word more e =
    let (pair, is_pair, rest) = bind-ok (kv_of (settings_place what) word) _ more e in
    let (last, new) = unless-ok (repeats (settings_place what) pairs pair.key || set_before what before pair.key) (Ok (pairs ++ pair ∷ [])) more RepeatedKey rest in
    record { pair = pair; added = cc; spelled = kv_of-word (settings_place what) word pair is_pair }

with_settings-adds : (what : SettingsWord) (before : List DraftStatement) (pairs : List Kv) (words : Words) (all : List Kv)
    → with_settings what before pairs words ≡ Ok all → AddsAll pairs words all
with_settings-adds what before pairs [] all e =
    let same : pairs ≡ all = cc in
    subst (λ ps. AddsAll pairs [] ps) same (adds_none pairs)
with_settings-adds what before pairs (word ∷ words) all e =
    let (more, one, rest) = bind-ok (with_setting what before pairs word) _ all e in
    adds_more pairs more all word words (with_setting-adds what before pairs word more one) (with_settings-adds what before more words all rest)

-- the words of the pairs are those that were read
settings_pairs-words : (what : SettingsWord) (before : List DraftStatement) (words : Words) (pairs : List Kv) → settings_pairs what before words ≡ Ok pairs
    → words ≡ pair_words pairs
settings_pairs-words what before [] pairs e = cc
settings_pairs-words what before (word ∷ words) pairs e =
    let a = with_settings-adds what before [] (word ∷ words) pairs e in
    a.spelled ∙ ap pair_words (sym a.added)

pub set-case : (words : Words) (begins : Bool) (read : Option (List ℕ) × Words) → begins_pair words ≡ begins → set_at words ≡ Ok read → words ≡ given_words read.0 ++ read.1
set-case words true read b e =
    let h : Ok (None, words) ≡ Ok read = rw (b, set_at) at e in
    let pair : (None, words) ≡ read = cc in
    ap (λ (r : Option (List ℕ) × Words). given_words r.0 ++ r.1) pair
set-case words false read b e =
    let h : given_at words ≡ Ok read = rw (b, set_at) at e in
    colon_at-words words read (sym (given_at-ok words read h).0)

-- the words that are written are those that were read
pub settings-written : (what : SettingsWord) (before : List DraftStatement) (words : Words) (f : Form) → settings_at what before words ≡ Ok f
    → written f ≡ settings_text what ∷ words
unfolding settings_at
settings-written what before words f e =
    let (set, is_set, e1) = bind-ok (set_at words) _ f e in
    let (pairs, are_pairs, last) = bind-ok (settings_pairs what before set.1) _ f e1 in
    let whole : form.Settings what set.0 pairs ≡ f = cc in
    let same : given_words set.0 ++ pair_words pairs ≡ words =
    ap (λ ws. given_words set.0 ++ ws) (sym (settings_pairs-words what before set.1 pairs are_pairs)) ∙ sym (set-case words (begins_pair words) set refl is_set) in
    subst (λ g. written g ≡ settings_text what ∷ words) whole (ap (λ ws. settings_text what ∷ ws) same)

-- some statements give the same keys as others
abbrev pub SameKeys : List DraftStatement → List DraftStatement → Type 0
SameKeys before after = (what : SettingsWord) (key : List ℕ) → list_any (sets what key) before ≡ list_any (sets what key) after

-- steps that go on alike
pub bind-same : {A B : Type 0} (r : Result A ParseCause) (f g : A → Result B ParseCause) → ((x : A) → f x ≡ g x) → (r >>= f) ≡ (r >>= g)
bind-same (Ok x) f g h = h x
bind-same (Err cause) f g h = refl

with_setting-after : (what : SettingsWord) (before after : List DraftStatement) (pairs : List Kv) (word : List ℕ) → SameKeys before after
    → with_setting what before pairs word ≡ with_setting what after pairs word
unfolding with_setting
with_setting-after what before after pairs word h =
    bind-same (kv_of (settings_place what) word) _ _ (λ pair. rw (h what pair.key) refl)

with_settings-after : (what : SettingsWord) (before after : List DraftStatement) (pairs : List Kv) (words : Words) → SameKeys before after
    → with_settings what before pairs words ≡ with_settings what after pairs words
with_settings-after what before after pairs [] h = refl
with_settings-after what before after pairs (word ∷ words) h =
    rw (with_setting-after what before after pairs word h)
    (bind-same (with_setting what after pairs word) _ _ (λ more. with_settings-after what before after more words h))

settings_pairs-after : (what : SettingsWord) (before after : List DraftStatement) (words : Words) → SameKeys before after
    → settings_pairs what before words ≡ settings_pairs what after words
settings_pairs-after what before after [] h = refl
settings_pairs-after what before after (word ∷ words) h = with_settings-after what before after [] (word ∷ words) h

-- settings read the same after statements that give the same keys
pub settings-after : (what : SettingsWord) (before after : List DraftStatement) (words : Words) → SameKeys before after
    → settings_at what before words ≡ settings_at what after words
unfolding settings_at
settings-after what before after words h =
    bind-same (set_at words) _ _ (λ set. rw (settings_pairs-after what before after set.1 h) refl)
