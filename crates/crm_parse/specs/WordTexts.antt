-- The text of each word that stands for one of a few values (crmsh manual, configure).
use Rattle.std.specs.Prelude.{ℕ, Bool, true, false, List, codes}
use Rattle.crm_parse.specs.declared.words.ActionWord.{ActionWord}
use Rattle.crm_parse.specs.declared.words.ActionWord.TheVariants.{Start, Stop, Promote, Demote}
use Rattle.crm_parse.specs.declared.words.KindWord.{KindWord}
use Rattle.crm_parse.specs.declared.words.KindWord.TheVariants.{Mandatory, Optional, Serialize}
use Rattle.crm_parse.specs.declared.words.RoleWord.{RoleWord}
use Rattle.crm_parse.specs.declared.words.RoleWord.TheVariants as role
use Rattle.crm_parse.specs.declared.words.SettingsWord.{SettingsWord}
use Rattle.crm_parse.specs.declared.words.SettingsWord.TheVariants.{Property, RscDefaults, OpDefaults}

abbrev pub role_text : RoleWord → List ℕ
role_text role.Started = codes "Started"
role_text role.Promoted = codes "Promoted"

abbrev pub kind_text : KindWord → List ℕ
kind_text Mandatory = codes "Mandatory"
kind_text Optional = codes "Optional"
kind_text Serialize = codes "Serialize"

abbrev pub action_word_text : ActionWord → List ℕ
action_word_text Start = codes "start"
action_word_text Stop = codes "stop"
action_word_text Promote = codes "promote"
action_word_text Demote = codes "demote"

abbrev pub bool_text : Bool → List ℕ
bool_text true = codes "true"
bool_text false = codes "false"

abbrev pub settings_text : SettingsWord → List ℕ
settings_text Property = codes "property"
settings_text RscDefaults = codes "rsc_defaults"
settings_text OpDefaults = codes "op_defaults"

-- the word of a clone, and of one that is promotable by its word
abbrev pub clone_word : Bool → List ℕ
clone_word true = codes "ms"
clone_word false = codes "clone"
