-- A node is read just when the words say it.
use Rattle.std.proofs.Common.{◌≡◌, ◌∷◌, ◌++◌, Ok, refl, sym, ap, ◌∙◌, subst}
use Rattle.crm_parse.specs.declared.form.Form.{Form}
use Rattle.crm_parse.specs.declared.form.Form.TheVariants as form
use Rattle.crm_parse.specs.declared.owner.Owner.TheVariants as owner
use Rattle.crm_parse.specs.declared.owner.SectionWord.TheVariants.{Attributes, Utilization}
use Rattle.crm_parse.specs.Node.{node_statement_at}
use Rattle.crm_parse.specs.Reading.{Words, given_at, name_at}
use Rattle.crm_parse.specs.Sections.{sections_at}
use Rattle.faults.proofs.Steps.{bind-ok}
use Rattle.crm_parse.proofs.Binds.{name_at-again, name_at-ok}
use Rattle.crm_parse.proofs.Affixes.{name-no_colon_at}
use Rattle.crm_parse.specs.Grammar.NodeForm.{NodeSays, a_node}
use Rattle.crm_parse.specs.Grammar.Parts.{pairs_in}
use Rattle.crm_parse.proofs.Grammar.OptionsSaid.{given-read, given-said, no_operation_says}
use Rattle.crm_parse.proofs.Grammar.SectionsAreRead.{OpsAreRead, sections-read}
use Rattle.crm_parse.proofs.Grammar.SectionsAreSaid.{OpsAreSaid, sections-said}

no_ops : OpsAreSaid owner.Node
no_ops done before words op h a e = cc

none_read : OpsAreRead owner.Node
none_read done before words op h said fits = absurd (no_operation_says owner.Node words _ op (λ e. let f : owner.Node ≡ owner.Primitive = e in cc) said refl)

-- what is read as a node says it
pub node-is_said : (words : Words) (f : Form) → node_statement_at words ≡ Ok f → NodeSays words f
unfolding node_statement_at
node-is_said words f e =
    let (id, given, after_id) = bind-ok (given_at words) _ f e in
    let (name, named, after_name) = bind-ok (name_at id.1) _ f after_id in
    let (sections, are, last) = bind-ok (sections_at owner.Node name.1) _ f after_name in
    let made : form.Node id.0 name.0 sections.attributes sections.utilization ≡ f = cc in
    let one = given-said words id given in
    let (name_is, good) = name_at-ok id.1 name named in
    let got = sections-said owner.Node no_ops name.1 sections are in
    let a : pairs_in Attributes got.sections ≡ sections.attributes = sym (got.stands.pairs Attributes _ refl) in
    let u : pairs_in Utilization got.sections ≡ sections.utilization = sym (got.stands.pairs Utilization _ refl) in
    let whole : one.front ++ (name.0 ∷ name.1) ≡ words = ap (λ ws. one.front ++ ws) (sym name_is) ∙ sym one.whole in
    let said = a_node one.front id.0 name.0 name.1 got.sections one.said good got.say in
    subst (NodeSays words) made (rw (← a, ← u) (subst (λ ws. NodeSays ws (form.Node id.0 name.0 (pairs_in Attributes got.sections) (pairs_in Utilization got.sections))) whole said))

-- what says a node is read as it
pub node-is_read : (words : Words) (f : Form) → NodeSays words f → node_statement_at words ≡ Ok f
unfolding node_statement_at
node-is_read ws f (a_node id_words id name section_words sections given named say) =
    let got = sections-read owner.Node none_read section_words sections say in
    rw (
      node_statement_at,
      given-read id_words id (name ∷ section_words) given (name-no_colon_at name section_words named),
      name_at-again name section_words named,
      got.read,
      got.stands.pairs Attributes _ refl,
      got.stands.pairs Utilization _ refl,
    ) refl
