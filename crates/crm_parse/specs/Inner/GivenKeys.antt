-- The keys that settings give.
use Rattle.std.specs.Prelude.{◌≡◌, ◌||◌, ℕ, Bool, List}
use Rattle.std.specs.List.{list_any}
use Rattle.crm_parse.specs.declared.draft.DraftStatement.{DraftStatement}
use Rattle.crm_parse.specs.declared.setting_keys.SettingKeys.{SettingKeys}
use Rattle.crm_parse.specs.declared.words.SettingsWord.{SettingsWord}
use Rattle.crm_parse.specs.declared.words.SettingsWord.TheVariants.{Property, RscDefaults, OpDefaults}
use Rattle.crm_lex.specs.NameSets.{has_name}
use Rattle.crm_parse.specs.Settings.{sets}

-- the set of these settings has the key
abbrev pub gives : SettingKeys → SettingsWord → List ℕ → Bool
gives keys Property key = has_name keys.property key
gives keys RscDefaults key = has_name keys.rsc_defaults key
gives keys OpDefaults key = has_name keys.op_defaults key

-- the sets have the keys of these settings that the statements give, and no other
abbrev pub HasSettingsOf : SettingKeys → List DraftStatement → Type 0
HasSettingsOf keys statements = (what : SettingsWord) (key : List ℕ) → gives keys what key ≡ list_any (sets what key) statements

-- the sets with the keys of one more statement
abbrev pub AddsSettings : SettingKeys → SettingKeys → DraftStatement → Type 0
AddsSettings old new statement =
    (what : SettingsWord) (key : List ℕ) → gives new what key ≡ (gives old what key || sets what key statement)
