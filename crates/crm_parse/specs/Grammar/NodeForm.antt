-- `node [ID:] NAME [attributes KEY=VALUE..] [utilization KEY=VALUE..]` (crmsh manual, node).
use Rattle.std.specs.Prelude.{◌≡◌, ℕ, true, List, ◌∷◌, ◌++◌, Option}
use Rattle.crm_lex.specs.Names.{is_name}
use Rattle.crm_parse.specs.declared.form.Form.{Form}
use Rattle.crm_parse.specs.declared.form.Form.TheVariants as form
use Rattle.crm_parse.specs.declared.owner.Owner.TheVariants as owner
use Rattle.crm_parse.specs.declared.owner.SectionWord.TheVariants.{Attributes, Utilization}
use Rattle.crm_parse.specs.Reading.{Words}
use Rattle.crm_parse.specs.Grammar.Phrases.{ColonSays, MaySay, NameSays}
use Rattle.crm_parse.specs.Grammar.Parts.{Section, SectionsSay, pairs_in}

pub data NodeSays : Words → Form → Type 0 where
  a_node : (id_words : Words) (id : Option (List ℕ)) (name : List ℕ) (section_words : Words) (sections : List Section) → MaySay (ColonSays NameSays) id_words id
      → is_name name ≡ true → SectionsSay owner.Node section_words sections
      → NodeSays (id_words ++ (name ∷ section_words)) (form.Node id name (pairs_in Attributes sections) (pairs_in Utilization sections))
