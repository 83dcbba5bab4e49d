-- What a line of a configuration says, by its first word (crmsh manual, configure).
use Rattle.std.specs.Prelude.{ℕ, Bool, true, false, List, ◌∷◌, codes}
use Rattle.crm_parse.specs.declared.draft.Draft.{Draft}
use Rattle.crm_parse.specs.declared.draft.Draft.TheVariants as draft
use Rattle.crm_parse.specs.declared.draft.DraftStatement.{DraftStatement}
use Rattle.crm_parse.specs.declared.draft.OrderDraft.{OrderDraft}
use Rattle.crm_parse.specs.declared.form.Form.{Form}
use Rattle.crm_parse.specs.declared.form.Form.TheVariants as form
use Rattle.crm_parse.specs.declared.words.SettingsWord.{SettingsWord}
use Rattle.crm_parse.specs.declared.words.SettingsWord.TheVariants.{Property, RscDefaults, OpDefaults}
use Rattle.crm_parse.specs.Reading.{Words}
use Rattle.crm_parse.specs.Grammar.ColocationForm.{ColocationSays}
use Rattle.crm_parse.specs.Grammar.LocationForms.{LocationSays}
use Rattle.crm_parse.specs.Grammar.NodeForm.{NodeSays}
use Rattle.crm_parse.specs.Grammar.OrderForm.{OrderSays}
use Rattle.crm_parse.specs.Grammar.PrimitiveForm.{PrimitiveSays}
use Rattle.crm_parse.specs.Grammar.SettingsForm.{SettingsSay}
use Rattle.crm_parse.specs.Grammar.ResourceForms.{CloneSays, GroupSays}

-- the word of a clone, and whether a clone is promotable by it
pub data CloneWordSays : List ℕ → Bool → Type 0 where
  is_clone_word : CloneWordSays (codes "clone") false
  ms_word : CloneWordSays (codes "ms") true
  master_word : CloneWordSays (codes "master") true

-- the two words of a colocation
pub data ColocationWord : List ℕ → Type 0 where
  colocation_word : ColocationWord (codes "colocation")
  collocation_word : ColocationWord (codes "collocation")

-- which settings a word begins
pub data SettingsWordSays : List ℕ → SettingsWord → Type 0 where
  property_word : SettingsWordSays (codes "property") Property
  rsc_defaults_word : SettingsWordSays (codes "rsc_defaults") RscDefaults
  op_defaults_word : SettingsWordSays (codes "op_defaults") OpDefaults

-- the statements that are kept and have no effect
pub data KeptWord : List ℕ → Type 0 where
  fencing_topology_word : KeptWord (codes "fencing_topology")
  alert_word : KeptWord (codes "alert")
  user_word : KeptWord (codes "user")
  role_word : KeptWord (codes "role")
  acl_target_word : KeptWord (codes "acl_target")
  acl_group_word : KeptWord (codes "acl_group")

-- what the words of a line say, after some statements; only settings ask for these, so that no two of them give one key
pub data LineSays (before : List DraftStatement) : Words → Draft → Type 0 where
  line_of_node : (words : Words) (f : Form) → NodeSays words f → LineSays before (codes "node" ∷ words) (draft.Whole f)
  line_of_primitive : (words : Words) (f : Form) → PrimitiveSays words f → LineSays before (codes "primitive" ∷ words) (draft.Whole f)
  line_of_group : (words : Words) (f : Form) → GroupSays words f → LineSays before (codes "group" ∷ words) (draft.Whole f)
  line_of_clone : (word : List ℕ) (ms : Bool) (words : Words) (f : Form) → CloneWordSays word ms → CloneSays ms words f → LineSays before (word ∷ words) (draft.Whole f)
  line_of_location : (words : Words) (f : Form) → LocationSays words f → LineSays before (codes "location" ∷ words) (draft.Whole f)
  line_of_colocation : (word : List ℕ) (words : Words) (f : Form) → ColocationWord word → ColocationSays words f → LineSays before (word ∷ words) (draft.Whole f)
  line_of_order : (words : Words) (order : OrderDraft) → OrderSays words order → LineSays before (codes "order" ∷ words) (draft.Order order)
  line_of_settings : (word : List ℕ) (what : SettingsWord) (words : Words) (f : Form) → SettingsWordSays word what → SettingsSay what before words f
      → LineSays before (word ∷ words) (draft.Whole f)
  line_kept : (word : List ℕ) (words : Words) → KeptWord word → LineSays before (word ∷ words) (draft.Whole (form.Kept (word ∷ words)))
