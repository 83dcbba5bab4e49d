-- Settings are read just when the words say them.
use Rattle.std.proofs.Common.{◌≡◌, ◌≢◌, inl, inr, ◌&&◌, ◌||◌, not, ℕ, Bool, true, false, List, [], ◌∷◌, ◌++◌, Option, Some, None, Ok, refl, sym, ap, ◌∙◌, subst, append_assoc, append-nil}
use Rattle.std.specs.Prelude.{codes}
use Rattle.std.specs.List.{AllByRecursion, list_any}
use Rattle.std.proofs.lemmas.Bool.{false_from_ne_true, false≢true, or_from, or_parts}
use Rattle.crm_lex.specs.Names.{is, is_name}
use Rattle.crm_parse.specs.declared.draft.Draft.{Draft}
use Rattle.crm_parse.specs.declared.draft.Draft.TheVariants as draft
use Rattle.crm_parse.specs.declared.draft.DraftStatement.{DraftStatement}
use Rattle.crm_parse.specs.declared.fault.ParseCause.TheVariants.{RepeatedKey}
use Rattle.crm_parse.specs.declared.form.Form.{Form}
use Rattle.crm_parse.specs.declared.form.Form.TheVariants as form
use Rattle.crm_parse.specs.declared.pair.Kv.{Kv}
use Rattle.crm_parse.specs.declared.words.SettingsWord.{SettingsWord}
use Rattle.crm_parse.specs.declared.words.SettingsWord.TheVariants.{Property, RscDefaults, OpDefaults}
use Rattle.crm_parse.specs.Pairs.{kv_of, repeats}
use Rattle.crm_parse.specs.Reading.{Words, colon_at, given_at}
use Rattle.crm_parse.specs.Settings.{begins_pair, form_sets, is_pair, is_same_settings, set_at, set_before, sets, settings_at, settings_pairs, settings_place, with_setting, with_settings}
use Rattle.faults.proofs.Steps.{bind-ok}
use Rattle.crm_parse.proofs.Binds.{given_at-again, is-same, is-true, name_of-again, unless-ok}
use Rattle.crm_parse.proofs.Affixes.{before-again}
use Rattle.crm_parse.proofs.LackedBytes.{cut_at-none, has-append, name-lacks}
use Rattle.crm_parse.proofs.PairsAgain.{cut_at-again}
use Rattle.crm_parse.specs.Grammar.Phrases.{ColonSays, EachSays, MaySay, NameSays, is_given, no_word, not_given, one_word}
use Rattle.crm_parse.specs.Grammar.Parts.{EachTwo, MayStandBoth, PairSays, a_pair}
use Rattle.crm_parse.specs.Grammar.SettingsForm.{IsNewSetting, LacksSetting, SettingsSay, some_settings}
use Rattle.crm_parse.proofs.Grammar.OptionsSaid.{GivenIsSaid, colon-is, given-said}
use Rattle.crm_parse.proofs.Grammar.PairsRelated.{filled-said, key-filled, new-read, new-said, pair-read, pair-said, two-middle, two-push}

-- one statement
same-settings : (what : SettingsWord) → is_same_settings what what ≡ true
same-settings Property = refl
same-settings RscDefaults = refl
same-settings OpDefaults = refl

settings-same : (kind what : SettingsWord) → is_same_settings kind what ≡ true → kind ≡ what
settings-same Property Property e = refl
settings-same RscDefaults RscDefaults e = refl
settings-same OpDefaults OpDefaults e = refl
settings-same Property RscDefaults e = cc
settings-same Property OpDefaults e = cc
settings-same RscDefaults Property e = cc
settings-same RscDefaults OpDefaults e = cc
settings-same OpDefaults Property e = cc
settings-same OpDefaults RscDefaults e = cc

keys-differ : (key : List ℕ) (pairs : List Kv) → list_any (λ pair. is pair.key key) pairs ≡ false → AllByRecursion (λ pair. pair.key ≢ key) pairs
keys-differ key [] h = tt
keys-differ key (pair ∷ pairs) h =
    let (one, rest) = or_parts _ _ h in
    ((λ e. false≢true (sym one ∙ (ap (λ k. is k key) e ∙ is-same key))), keys-differ key pairs rest)

differ-keys : (key : List ℕ) (pairs : List Kv) → AllByRecursion (λ pair. pair.key ≢ key) pairs → list_any (λ pair. is pair.key key) pairs ≡ false
differ-keys key [] h = refl
differ-keys key (pair ∷ pairs) h = or_from _ _ (false_from_ne_true _ (λ e. h.0 (is-true pair.key key e))) (differ-keys key pairs h.1)

form-lacks : (what : SettingsWord) (key : List ℕ) (set : Option (List ℕ)) (pairs : List Kv) → form_sets what key (form.Settings what set pairs) ≡ false
    → AllByRecursion (λ pair. pair.key ≢ key) pairs
form-lacks what key set pairs h = keys-differ key pairs (rw (same-settings what) at h)

draft-lacks : (what : SettingsWord) (key : List ℕ) (statement : DraftStatement) → sets what key statement ≡ false → LacksSetting what key statement
draft-lacks what key statement h set pairs e = form-lacks what key set pairs (rw e at h)

settings-case : (what kind : SettingsWord) (key : List ℕ) (set : Option (List ℕ)) (pairs : List Kv) (b : Bool) → is_same_settings kind what ≡ b
    → (kind ≡ what → AllByRecursion (λ pair. pair.key ≢ key) pairs) → (b && list_any (λ pair. is pair.key key) pairs) ≡ false
settings-case what kind key set pairs true s h = differ-keys key pairs (h (settings-same kind what s))
settings-case what kind key set pairs false s h = refl

abbrev SetsDraft : SettingsWord → List ℕ → Draft → Bool
SetsDraft what key d = elim d [ draft.Whole f ↦ form_sets what key f | draft.Order order ↦ false ]

form-sets : (what : SettingsWord) (key : List ℕ) (f : Form)
    → ((set : Option (List ℕ)) (pairs : List Kv) → f ≡ form.Settings what set pairs → AllByRecursion (λ pair. pair.key ≢ key) pairs) → form_sets what key f ≡ false
form-sets what key (form.Settings kind set pairs) h =
    settings-case what kind key set pairs (is_same_settings kind what) refl (λ same. h set pairs (ap (λ w. form.Settings w set pairs) same))
form-sets what key (form.Node a b c d) h = refl
form-sets what key (form.Primitive a b c d e g i j) h = refl
form-sets what key (form.Group a b c d e) h = refl
form-sets what key (form.Cloned a b c d e g) h = refl
form-sets what key (form.Location a b c d e g) h = refl
form-sets what key (form.RuledLocation a b c d e) h = refl
form-sets what key (form.Colocation a b c d) h = refl
form-sets what key (form.Order a b c d) h = refl
form-sets what key (form.Kept a) h = refl

lacks-case : (what : SettingsWord) (key : List ℕ) (d : Draft)
    → ((set : Option (List ℕ)) (pairs : List Kv) → d ≡ draft.Whole (form.Settings what set pairs) → AllByRecursion (λ pair. pair.key ≢ key) pairs)
    → SetsDraft what key d ≡ false
lacks-case what key (draft.Whole f) h = form-sets what key f (λ set pairs e. h set pairs (ap draft.Whole e))
lacks-case what key (draft.Order order) h = refl

lacks-sets : (what : SettingsWord) (key : List ℕ) (statement : DraftStatement) → LacksSetting what key statement → sets what key statement ≡ false
lacks-sets what key statement h = lacks-case what key statement.draft h

all-lack : (what : SettingsWord) (key : List ℕ) (before : List DraftStatement) → list_any (sets what key) before ≡ false → AllByRecursion (LacksSetting what key) before
all-lack what key [] h = tt
all-lack what key (statement ∷ before) h =
    let (one, rest) = or_parts _ _ h in
    (draft-lacks what key statement one, all-lack what key before rest)

lack-all : (what : SettingsWord) (key : List ℕ) (before : List DraftStatement) → AllByRecursion (LacksSetting what key) before → list_any (sets what key) before ≡ false
lack-all what key [] h = refl
lack-all what key (statement ∷ before) h = or_from _ _ (lacks-sets what key statement h.0) (lack-all what key before h.1)

setting-said : (what : SettingsWord) (before : List DraftStatement) (pair : Kv) (id : Bool) → is pair.key (codes "$id") ≡ id
    → (not id && list_any (sets what pair.key) before) ≡ false → IsNewSetting what before pair
setting-said what before pair true i h = inl (is-true pair.key (codes "$id") i)
setting-said what before pair false i h = inr (all-lack what pair.key before h)

setting-read : (what : SettingsWord) (before : List DraftStatement) (pair : Kv) → IsNewSetting what before pair → set_before what before pair.key ≡ false
setting-read what before pair (inl e) = rw e refl
setting-read what before pair (inr h) = rw (lack-all what pair.key before h) (no-and (not (is pair.key (codes "$id"))))
  where
    no-and : (b : Bool) → (b && false) ≡ false
    no-and true = refl
    no-and false = refl

-- pairs behind those before
record SettingsAreSaid (what : SettingsWord) (before : List DraftStatement) (pairs : List Kv) (words : Words) (after : List Kv) : Type 0 where
  more : List Kv
  added : after ≡ pairs ++ more
  said : EachSays (PairSays (settings_place what)) words more
  two : EachTwo (MayStandBoth (settings_place what)) after
  new : AllByRecursion (IsNewSetting what before) more

pairs-said : (what : SettingsWord) (before : List DraftStatement) (pairs : List Kv) (words : Words) (after : List Kv) → EachTwo (MayStandBoth (settings_place what)) pairs
    → with_settings what before pairs words ≡ Ok after → SettingsAreSaid what before pairs words after
unfolding with_setting
pairs-said what before pairs [] after two e =
    let same : pairs ≡ after = cc in
    subst (SettingsAreSaid what before pairs []) same (record { more = []; added = sym (append-nil pairs); said = no_word; two = two; new = tt })
pairs-said what before pairs (word ∷ words) after two e =
    let p = settings_place what in
    let (between, one, rest) = bind-ok (with_setting what before pairs word) _ after e in
    let (pair, is_pair, last) = bind-ok (kv_of p word) _ between one in
    let (made, new) = unless-ok (repeats p pairs pair.key || set_before what before pair.key) (Ok (pairs ++ pair ∷ [])) between RepeatedKey last in
    let (apart, unset) = or_parts (repeats p pairs pair.key) (set_before what before pair.key) new in
    let same : pairs ++ pair ∷ [] ≡ between = cc in
    let more = pairs-said what before between words after (subst (EachTwo (MayStandBoth p)) same (two-push (MayStandBoth p) pairs pair two (new-said p pairs pair apart))) rest in
    record {
      more = pair ∷ more.more;
      added = more.added ∙ (ap (λ ps. ps ++ more.more) (sym same) ∙ append_assoc pairs (pair ∷ []) more.more);
      said = one_word word pair words more.more (pair-said p word pair is_pair) more.said;
      two = more.two;
      new = (setting-said what before pair (is pair.key (codes "$id")) refl unset, more.new);
    }

pairs-read : (what : SettingsWord) (before : List DraftStatement) (pairs : List Kv) (words : Words) (more : List Kv) → EachSays (PairSays (settings_place what)) words more
    → EachTwo (MayStandBoth (settings_place what)) (pairs ++ more) → AllByRecursion (IsNewSetting what before) more
    → with_settings what before pairs words ≡ Ok (pairs ++ more)
unfolding with_setting
pairs-read what before pairs ws ms no_word two new = ap Ok (sym (append-nil pairs))
pairs-read what before pairs ws ms (one_word word kv words kvs s more) two new =
    let p = settings_place what in
    let apart = new-read p pairs kv (two-middle (MayStandBoth p) pairs kv kvs two) in
    let next = subst (EachTwo (MayStandBoth p)) (sym (append_assoc pairs (kv ∷ []) kvs)) two in
    rw (with_settings, with_setting, pair-read p word kv s, apart, setting-read what before kv new.0)
    (pairs-read what before (pairs ++ kv ∷ []) words kvs more next new.1 ∙ ap Ok (append_assoc pairs (kv ∷ []) kvs))

record AllSaid (what : SettingsWord) (before : List DraftStatement) (words : Words) (pairs : List Kv) : Type 0 where
  said : EachSays (PairSays (settings_place what)) words pairs
  some : pairs ≢ []
  two : EachTwo (MayStandBoth (settings_place what)) pairs
  new : AllByRecursion (IsNewSetting what before) pairs

all-said : (what : SettingsWord) (before : List DraftStatement) (words : Words) (pairs : List Kv) → settings_pairs what before words ≡ Ok pairs → AllSaid what before words pairs
all-said what before [] pairs e = cc
all-said what before (word ∷ words) pairs e =
    let p = settings_place what in
    let got = pairs-said what before [] (word ∷ words) pairs tt e in
    let some = filled-said p word words got.more got.said in
    subst (AllSaid what before (word ∷ words)) (sym got.added)
    (record { said = got.said; some = some; two = subst (EachTwo (MayStandBoth p)) got.added got.two; new = got.new })

all-read : (what : SettingsWord) (before : List DraftStatement) (words : Words) (pairs : List Kv) → EachSays (PairSays (settings_place what)) words pairs → pairs ≢ []
    → EachTwo (MayStandBoth (settings_place what)) pairs → AllByRecursion (IsNewSetting what before) pairs → settings_pairs what before words ≡ Ok pairs
all-read what before ws ps no_word some two new = absurd (some refl)
all-read what before ws ps (one_word word kv words kvs s more) some two new =
    pairs-read what before [] (word ∷ words) (kv ∷ kvs) (one_word word kv words kvs s more) two new

-- the id of the set
set-case : (words : Words) (begins : Bool) (read : Option (List ℕ) × Words) → begins_pair words ≡ begins → set_at words ≡ Ok read → GivenIsSaid words read
set-case words true read b e =
    let h : Ok (None, words) ≡ Ok read = rw (b, set_at) at e in
    let pair : (None, words) ≡ read = cc in
    subst (GivenIsSaid words) pair (record { front = []; whole = refl; said = not_given })
set-case words false read b e =
    let h : given_at words ≡ Ok read = rw (b, set_at) at e in
    given-said words read h

pair-begins : (place : _) (word : List ℕ) (kv : Kv) → PairSays place word kv → is_pair word ≡ true
pair-begins place w k (a_pair key value some lacks taken) = rw (is_pair, cut_at-again 61 key value lacks, key-filled key some) refl

pairs-begin : (what : SettingsWord) (words : Words) (pairs : List Kv) → EachSays (PairSays (settings_place what)) words pairs → pairs ≢ [] → set_at words ≡ Ok (None, words)
pairs-begin what ws ps no_word some = absurd (some refl)
pairs-begin what ws ps (one_word word kv words kvs s more) some = rw (set_at, pair-begins (settings_place what) word kv s) refl

colon-begins : (name : List ℕ) → is_name name ≡ true → is_pair (name ++ codes ":") ≡ false
colon-begins name h = rw (is_pair, cut_at-none 61 (name ++ codes ":") (has-append 61 name (codes ":") (name-lacks 61 name refl h) refl)) refl

named-read : (word name : List ℕ) (words : Words) → ColonSays NameSays word name → set_at (word ∷ words) ≡ Ok (Some name, words)
named-read word name words s =
    let (same, h) = colon-is word name s in
    let c : colon_at ((name ++ codes ":") ∷ words) ≡ (Some name, words) = rw (colon_at, before-again (codes ":") name) refl in
    let given : given_at ((name ++ codes ":") ∷ words) ≡ Ok (Some name, words) =
    given_at-again (Some name) words ((name ++ codes ":") ∷ words) c (rw (name_of-again name h) refl) in
    rw (same, set_at, colon-begins name h) given

set-read : (what : SettingsWord) (front : Words) (set : Option (List ℕ)) (words : Words) (pairs : List Kv) → MaySay (ColonSays NameSays) front set
    → EachSays (PairSays (settings_place what)) words pairs → pairs ≢ [] → set_at (front ++ words) ≡ Ok (set, words)
set-read what f s words pairs not_given said some = pairs-begin what words pairs said some
set-read what f s words pairs (is_given word name c) said some = named-read word name words c

-- what is read as settings says them
pub settings-are_said : (what : SettingsWord) (before : List DraftStatement) (words : Words) (f : Form) → settings_at what before words ≡ Ok f → SettingsSay what before words f
unfolding settings_at
settings-are_said what before words f e =
    let (set, is_set, e1) = bind-ok (set_at words) _ f e in
    let (pairs, are_pairs, last) = bind-ok (settings_pairs what before set.1) _ f e1 in
    let made : form.Settings what set.0 pairs ≡ f = cc in
    let given = set-case words (begins_pair words) set refl is_set in
    let all = all-said what before set.1 pairs are_pairs in
    subst (SettingsSay what before words) made (subst (λ ws. SettingsSay what before ws (form.Settings what set.0 pairs)) (sym given.whole)
    (some_settings given.front set.0 set.1 pairs given.said all.said all.some all.two all.new))

-- what says settings is read as them
pub settings-are_read : (what : SettingsWord) (before : List DraftStatement) (words : Words) (f : Form) → SettingsSay what before words f → settings_at what before words ≡ Ok f
unfolding settings_at
settings-are_read what before ws f (some_settings set_words set words pairs given said some two new) =
    rw (settings_at, set-read what set_words set words pairs given said some, all-read what before words pairs said some two new) refl
