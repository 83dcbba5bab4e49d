-- A primitive is read just when the words say it.
use Rattle.std.proofs.Common.{◌≡◌, ℕ, List, ◌∷◌, ◌++◌, Option, Ok, refl, sym, ap, ◌∙◌, subst}
use Rattle.std.specs.Prelude.{codes}
use Rattle.crm_parse.specs.declared.form.Form.{Form}
use Rattle.crm_parse.specs.declared.form.Form.TheVariants as form
use Rattle.crm_parse.specs.declared.owner.Owner.TheVariants as owner
use Rattle.crm_parse.specs.declared.owner.SectionWord.TheVariants.{Params, Meta, Utilization, Operations}
use Rattle.crm_parse.specs.declared.section.Sections.{Sections}
use Rattle.crm_parse.specs.Primitive.{agent_of, primitive_at}
use Rattle.crm_parse.specs.Reading.{Words, name_at, next_word_in, prefixed_at}
use Rattle.crm_parse.specs.Sections.{sections_at}
use Rattle.faults.proofs.Steps.{bind-ok}
use Rattle.crm_parse.proofs.Binds.{name_at-again, name_at-ok, word_at-ok}
use Rattle.crm_parse.proofs.Affixes.{noted_words, prefixed_at-words}
use Rattle.crm_parse.specs.Grammar.Parts.{Section, operations_in, pairs_in}
use Rattle.crm_parse.specs.Grammar.PrimitiveForm.{PrimitiveSays, a_primitive}
use Rattle.crm_parse.proofs.Grammar.AgentRelated.{agent-read, agent-said}
use Rattle.crm_parse.proofs.Grammar.OperationsAreRead.{ops-read}
use Rattle.crm_parse.proofs.Grammar.OperationsRelated.{ops-said}
use Rattle.crm_parse.proofs.Grammar.OptionsSaid.{description-read, noted-said}
use Rattle.crm_parse.proofs.Grammar.SectionStates.{Stands}
use Rattle.crm_parse.proofs.Grammar.SectionsAreRead.{sections-read}
use Rattle.crm_parse.proofs.Grammar.SectionsAreSaid.{sections-said}

abbrev with_sections : List ℕ → List ℕ → Option (List ℕ) → List Section → Form
with_sections id agent description sections =
    form.Primitive id agent description (pairs_in Params sections) (pairs_in Meta sections) (pairs_in Utilization sections) (pairs_in Operations sections) (operations_in sections)

-- the form of what was read
made-same : (id agent : List ℕ) (description : Option (List ℕ)) (sections : List Section) (read : Sections) → Stands owner.Primitive sections read
    → with_sections id agent description sections
    ≡ form.Primitive id agent description read.params read.meta read.utilization read.operations read.ops
made-same id agent description sections read h =
    rw (← h.pairs Params _ refl, ← h.pairs Meta _ refl, ← h.pairs Utilization _ refl, ← h.pairs Operations _ refl, ← h.ops) refl

-- what is read as a primitive says it
pub primitive-is_said : (words : Words) (f : Form) → primitive_at words ≡ Ok f → PrimitiveSays words f
unfolding primitive_at
primitive-is_said words f e =
    let (id, named, after_id) = bind-ok (name_at words) _ f e in
    let (word, at, after_word) = bind-ok (next_word_in id.1) _ f after_id in
    let (agent, is_agent, after_agent) = bind-ok (agent_of word.0) _ f after_word in
    let description = prefixed_at (codes "description=") word.1 in
    let (sections, are, last) = bind-ok (sections_at owner.Primitive description.1) _ f after_agent in
    let made : form.Primitive id.0 agent description.0 sections.params sections.meta sections.utilization sections.operations sections.ops ≡ f = cc in
    let (id_is, good) = name_at-ok words id named in
    let a = agent-said word.0 agent is_agent in
    let got = sections-said owner.Primitive ops-said description.1 sections are in
    let front = noted_words (codes "description=") description.0 in
    let whole : id.0 ∷ word.0 ∷ (front ++ description.1) ≡ words =
    ap (λ ws. id.0 ∷ word.0 ∷ ws) (sym (prefixed_at-words (codes "description=") word.1 description refl))
    ∙ (ap (λ ws. id.0 ∷ ws) (sym (word_at-ok id.1 word at)) ∙ sym id_is) in
    let said = a_primitive id.0 word.0 agent front description.0 description.1 got.sections good a.plain a.said (noted-said (codes "description=") description.0) got.say in
    subst (PrimitiveSays words) (made-same id.0 agent description.0 got.sections sections got.stands ∙ made)
    (subst (λ ws. PrimitiveSays ws (with_sections id.0 agent description.0 got.sections)) whole said)

-- what says a primitive is read as it
pub primitive-is_read : (words : Words) (f : Form) → PrimitiveSays words f → primitive_at words ≡ Ok f
unfolding primitive_at
primitive-is_read ws f (a_primitive id agent_word agent description_words description section_words sections named plain says noted say) =
    let got = sections-read owner.Primitive ops-read section_words sections say in
    let rest = description_words ++ section_words in
    rw (
      primitive_at,
      name_at-again id (agent_word ∷ rest) named,
      agent-read agent_word agent plain says,
      description-read owner.Primitive description_words description section_words sections noted say.written,
      got.read,
    ) (ap Ok (sym (made-same id agent description sections got.after got.stands)))
