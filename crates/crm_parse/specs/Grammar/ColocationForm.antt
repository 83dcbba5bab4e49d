-- `colocation ID SCORE: RESOURCE[:ROLE] RESOURCE[:ROLE]` (crmsh manual, colocation).
use Rattle.std.specs.Prelude.{◌≡◌, ℕ, ℤ, true, List, [], ◌∷◌, ◌++◌, codes}
use Rattle.crm_lex.specs.Names.{is_name}
use Rattle.crm_parse.specs.declared.form.Form.{Form}
use Rattle.crm_parse.specs.declared.form.Form.TheVariants as form
use Rattle.crm_parse.specs.declared.form.Side.{Side}
use Rattle.crm_parse.specs.declared.words.RoleWord.{RoleWord}
use Rattle.crm_parse.specs.declared.words.RoleWord.TheVariants as role
use Rattle.crm_parse.specs.Reading.{Words}
use Rattle.crm_parse.specs.Grammar.Scores.{ScoreSays, TakenRoleSays}

-- a resource, and its role behind a colon; without one it is Started
pub data SideSays : List ℕ → Side → Type 0 where
  side_alone : (resource : List ℕ) → is_name resource ≡ true → SideSays resource (record { resource = resource; role = role.Started })
  side_in_role : (resource text : List ℕ) (role : RoleWord) → is_name resource ≡ true → TakenRoleSays text role
      → SideSays (resource ++ (codes ":" ++ text)) (record { resource = resource; role = role })

pub data ColocationSays : Words → Form → Type 0 where
  a_colocation : (id score one other : List ℕ) (points : ℤ) (dependent primary : Side) → is_name id ≡ true → ScoreSays score points
      → SideSays one dependent → SideSays other primary → ColocationSays (id ∷ score ∷ one ∷ other ∷ []) (form.Colocation id points dependent primary)
