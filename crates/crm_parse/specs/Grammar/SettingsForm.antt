-- `property [SET-ID:] KEY=VALUE..`, and `rsc_defaults` and `op_defaults` alike (crmsh manual, property, rsc_defaults and op_defaults).
use Rattle.std.specs.Prelude.{◌≡◌, ◌≢◌, ◌⊎◌, ℕ, List, [], ◌++◌, codes, Option}
use Rattle.std.specs.List.{AllByRecursion}
use Rattle.crm_parse.specs.declared.draft.Draft.TheVariants as draft
use Rattle.crm_parse.specs.declared.draft.DraftStatement.{DraftStatement}
use Rattle.crm_parse.specs.declared.form.Form.{Form}
use Rattle.crm_parse.specs.declared.form.Form.TheVariants as form
use Rattle.crm_parse.specs.declared.pair.Kv.{Kv}
use Rattle.crm_parse.specs.declared.words.SettingsWord.{SettingsWord}
use Rattle.crm_parse.specs.Reading.{Words}
use Rattle.crm_parse.specs.Settings.{settings_place}
use Rattle.crm_parse.specs.Grammar.Phrases.{ColonSays, EachSays, MaySay, NameSays}
use Rattle.crm_parse.specs.Grammar.Parts.{EachTwo, MayStandBoth, PairSays}

-- where the statement is one of these settings, it doesn't give the key
abbrev pub LacksSetting : SettingsWord → List ℕ → DraftStatement → Type 0
LacksSetting what key statement =
    (set : Option (List ℕ)) (pairs : List Kv) → statement.draft ≡ draft.Whole (form.Settings what set pairs) → AllByRecursion (λ pair. pair.key ≢ key) pairs

-- no earlier statement of the same settings gives the key; `$id` may be given again
abbrev pub IsNewSetting : SettingsWord → List DraftStatement → Kv → Type 0
IsNewSetting what before pair = (pair.key ≡ codes "$id") ⊎ AllByRecursion (LacksSetting what pair.key) before

pub data SettingsSay (what : SettingsWord) (before : List DraftStatement) : Words → Form → Type 0 where
  some_settings : (set_words : Words) (set : Option (List ℕ)) (words : Words) (pairs : List Kv) → MaySay (ColonSays NameSays) set_words set
      → EachSays (PairSays (settings_place what)) words pairs → pairs ≢ [] → EachTwo (MayStandBoth (settings_place what)) pairs
      → AllByRecursion (IsNewSetting what before) pairs → SettingsSay what before (set_words ++ words) (form.Settings what set pairs)
