-- `primitive ID AGENT [description=TEXT] [SECTION..]` (crmsh manual, primitive).
use Rattle.std.specs.Prelude.{◌≡◌, ◌≢◌, ◌==◌, ℕ, true, false, List, [], ◌∷◌, ◌++◌, codes, Option}
use Rattle.std.specs.List.{list_any}
use Rattle.crm_lex.specs.Names.{is_name}
use Rattle.crm_parse.specs.declared.form.Form.{Form}
use Rattle.crm_parse.specs.declared.form.Form.TheVariants as form
use Rattle.crm_parse.specs.declared.owner.Owner.TheVariants as owner
use Rattle.crm_parse.specs.declared.owner.SectionWord.TheVariants.{Params, Meta, Utilization, Operations}
use Rattle.crm_parse.specs.Primitive.{is_template}
use Rattle.crm_parse.specs.Reading.{Words}
use Rattle.crm_parse.specs.Grammar.Phrases.{MaySay}
use Rattle.crm_parse.specs.Grammar.Parts.{Section, SectionsSay, operations_in, pairs_in}
use Rattle.crm_parse.specs.Grammar.ResourceForms.{DescriptionSays}

-- a part of an agent: it isn't empty, and has no colon (58)
pub record IsAgentPart (part : List ℕ) : Type 0 where
  pub filled : part ≢ []
  pub plain : list_any (λ b. b == 58) part ≡ false

-- one to three parts joined by colons; one part alone is a type of `ocf:heartbeat` (rule of this project)
pub data AgentSays : List ℕ → List ℕ → Type 0 where
  agent_type : (type : List ℕ) → IsAgentPart type → AgentSays type (codes "ocf:heartbeat:" ++ type)
  class_and_type : (class type : List ℕ) → IsAgentPart class → IsAgentPart type → AgentSays (class ++ (codes ":" ++ type)) (class ++ (codes ":" ++ type))
  class_provider_type : (class provider type : List ℕ) → IsAgentPart class → IsAgentPart provider → IsAgentPart type
      → AgentSays (class ++ (codes ":" ++ (provider ++ (codes ":" ++ type)))) (class ++ (codes ":" ++ (provider ++ (codes ":" ++ type))))

-- an id, an agent that doesn't begin with `@`, which begins a template, a description, and sections
pub data PrimitiveSays : Words → Form → Type 0 where
  a_primitive : (id agent_word agent : List ℕ) (description_words : Words) (description : Option (List ℕ)) (section_words : Words) (sections : List Section)
      → is_name id ≡ true → is_template agent_word ≡ false → AgentSays agent_word agent → MaySay DescriptionSays description_words description
      → SectionsSay owner.Primitive section_words sections
      → PrimitiveSays (id ∷ agent_word ∷ (description_words ++ section_words)) (form.Primitive id agent description (pairs_in Params sections)
      (pairs_in Meta sections) (pairs_in Utilization sections) (pairs_in Operations sections) (operations_in sections))
