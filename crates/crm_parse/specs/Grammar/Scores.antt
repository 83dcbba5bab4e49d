-- The words of rules that several statements have: scores with their colon, and roles (crmsh manual, location and colocation).
use Rattle.std.specs.Prelude.{◌≡◌, ℕ, ℤ, List, Some}
use Rattle.score.specs.ScoreText.{read_score}
use Rattle.crm_parse.specs.declared.values.RoleName.TheVariants as named
use Rattle.crm_parse.specs.declared.words.RoleWord.{RoleWord}
use Rattle.crm_parse.specs.declared.words.RoleWord.TheVariants as role
use Rattle.crm_parse.specs.Values.{role_of}
use Rattle.crm_parse.specs.Grammar.Phrases.{ColonSays, TableSays}

-- a score, and its colon
abbrev pub ScoreSays : List ℕ → ℤ → Type 0
ScoreSays = ColonSays (TableSays read_score)

-- a role that is taken in rules: `Started`; or `Promoted` and `Master`, which are the same; in upper or lower case. `Unpromoted`, `Slave` and `Stopped` aren't taken
pub data TakenRoleSays : List ℕ → RoleWord → Type 0 where
  says_started : (text : List ℕ) → role_of text ≡ Some named.Started → TakenRoleSays text role.Started
  says_promoted : (text : List ℕ) → role_of text ≡ Some named.Promoted → TakenRoleSays text role.Promoted
