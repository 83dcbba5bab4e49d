-- `property [SET-ID:] KEY=VALUE..`, and `rsc_defaults` and `op_defaults` alike (crmsh manual, property, rsc_defaults and op_defaults).
use Rattle.std.specs.Prelude.{ℕ, ◌==◌, Bool, true, false, not, ◌&&◌, ◌||◌, if◌then◌else◌, List, [], ◌∷◌, ◌++◌, length, codes, Option, Some, None, Result, Ok, Err}
use Rattle.std.specs.List.{list_any}
use Rattle.crm_lex.specs.Names.{is}
use Rattle.crm_parse.specs.declared.draft.Draft.TheVariants as draft
use Rattle.crm_parse.specs.declared.draft.DraftStatement.{DraftStatement}
use Rattle.crm_parse.specs.declared.fault.ParseCause.{ParseCause}
use Rattle.crm_parse.specs.declared.fault.ParseCause.TheVariants.{MissingWord, RepeatedKey}
use Rattle.crm_parse.specs.declared.form.Form.{Form}
use Rattle.crm_parse.specs.declared.form.Form.TheVariants as form
use Rattle.crm_parse.specs.declared.pair.Kv.{Kv}
use Rattle.crm_parse.specs.declared.place.Place.{Place}
use Rattle.crm_parse.specs.declared.place.Place.TheVariants as place
use Rattle.crm_parse.specs.declared.words.SettingsWord.{SettingsWord}
use Rattle.crm_parse.specs.declared.words.SettingsWord.TheVariants.{Property, RscDefaults, OpDefaults}
use Rattle.crm_parse.specs.Pairs.{kv_of, repeats}
use Rattle.crm_parse.specs.Reading.{Words, given_at}
use Rattle.faults.specs.Reading.{◌>>=◌}
use Rattle.crm_parse.specs.Texts.{cut_at}

-- the place of the pairs
abbrev pub settings_place : SettingsWord → Place
settings_place Property = place.Property
settings_place RscDefaults = place.LeafMeta
settings_place OpDefaults = place.OpDefaults

abbrev pub is_same_settings : SettingsWord → SettingsWord → Bool
is_same_settings Property Property = true
is_same_settings RscDefaults RscDefaults = true
is_same_settings OpDefaults OpDefaults = true
is_same_settings _ _ = false

abbrev pub form_sets : SettingsWord → List ℕ → Form → Bool
form_sets what key (form.Settings kind set pairs) = is_same_settings kind what && list_any (λ pair. is pair.key key) pairs
form_sets what key _ = false

-- a statement of the same settings gives the key
abbrev pub sets : SettingsWord → List ℕ → DraftStatement → Bool
sets what key statement = elim statement.draft [ draft.Whole f ↦ form_sets what key f | draft.Order order ↦ false ]

-- the key was given by an earlier statement of the same settings; `$id` may be given again
abbrev pub set_before : SettingsWord → List DraftStatement → List ℕ → Bool
set_before what before key = not (is key (codes "$id")) && list_any (sets what key) before

-- some pairs, after some statements, and that of one more word
unfoldable pub with_setting : SettingsWord → List DraftStatement → List Kv → List ℕ → Result (List Kv) ParseCause
with_setting what before pairs word = do
  pair ← kv_of (settings_place what) word
  if repeats (settings_place what) pairs pair.key || set_before what before pair.key then Err RepeatedKey else Ok (pairs ++ pair ∷ [])

abbrev pub with_settings : SettingsWord → List DraftStatement → List Kv → Words → Result (List Kv) ParseCause
with_settings what before pairs [] = Ok pairs
with_settings what before pairs (word ∷ words) = do
  more ← with_setting what before pairs word
  with_settings what before more words

-- the pairs of a statement, one or more
abbrev pub settings_pairs : SettingsWord → List DraftStatement → Words → Result (List Kv) ParseCause
settings_pairs what before [] = Err MissingWord
settings_pairs what before (word ∷ words) = with_settings what before [] (word ∷ words)

-- the word has a key and an `=`
abbrev pub is_pair : List ℕ → Bool
is_pair word = elim (cut_at 61 word) [ None ↦ false | Some pair ↦ not (length pair.0 == 0) ]

abbrev pub begins_pair : Words → Bool
begins_pair [] = false
begins_pair (word ∷ words) = is_pair word

-- the id of the set, where one is written; a pair is none, though it ends in a colon
abbrev pub set_at : Words → Result (Option (List ℕ) × Words) ParseCause
set_at words = if begins_pair words then Ok (None, words) else given_at words

unfoldable pub settings_at : SettingsWord → List DraftStatement → Words → Result Form ParseCause
settings_at what before words = do
  set ← set_at words
  pairs ← settings_pairs what before set.1
  Ok (form.Settings what set.0 pairs)
