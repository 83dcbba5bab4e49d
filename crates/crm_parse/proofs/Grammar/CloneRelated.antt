-- A clone is read just when the words say it.
use Rattle.std.proofs.Common.{◌≡◌, Bool, true, false, ◌∷◌, ◌++◌, Some, Ok, refl, sym, ap, ◌∙◌, subst}
use Rattle.std.specs.Prelude.{codes}
use Rattle.crm_parse.specs.declared.form.Form.{Form}
use Rattle.crm_parse.specs.declared.form.Form.TheVariants as form
use Rattle.crm_parse.specs.declared.owner.Owner.TheVariants as owner
use Rattle.crm_parse.specs.declared.owner.SectionWord.TheVariants.{Params, Meta}
use Rattle.crm_parse.specs.Groups.{clone_at, clone_owner}
use Rattle.crm_parse.specs.Reading.{Words, name_at, prefixed_at}
use Rattle.crm_parse.specs.Sections.{place_of, sections_at}
use Rattle.faults.proofs.Steps.{bind-ok}
use Rattle.crm_parse.proofs.Binds.{name_at-again, name_at-ok}
use Rattle.crm_parse.proofs.Affixes.{noted_words, prefixed_at-words}
use Rattle.crm_parse.specs.Grammar.Parts.{pairs_in, section_place}
use Rattle.crm_parse.specs.Grammar.ResourceForms.{CloneSays, a_clone}
use Rattle.crm_parse.proofs.Grammar.OptionsSaid.{description-read, no_operation_says, noted-said}
use Rattle.crm_parse.proofs.Grammar.SectionsAreRead.{OpsAreRead, sections-read}
use Rattle.crm_parse.proofs.Grammar.SectionsAreSaid.{OpsAreSaid, sections-said}

no_ops : (ms : Bool) → OpsAreSaid (clone_owner ms)
no_ops true done before words op h a e = cc
no_ops false done before words op h a e = cc

no_primitive : (ms : Bool) → clone_owner ms ≡ owner.Primitive → ⊥
no_primitive true e = cc
no_primitive false e = cc

none_read : (ms : Bool) → OpsAreRead (clone_owner ms)
none_read ms done before words op h said fits = absurd (no_operation_says (clone_owner ms) words _ op (no_primitive ms) said refl)

params-place : (ms : Bool) → section_place (clone_owner ms) Params ≡ Some (place_of (clone_owner ms) Params)
params-place true = refl
params-place false = refl

meta-place : (ms : Bool) → section_place (clone_owner ms) Meta ≡ Some (place_of (clone_owner ms) Meta)
meta-place true = refl
meta-place false = refl

-- what is read as a clone says it
pub clone-is_said : (ms : Bool) (words : Words) (f : Form) → clone_at ms words ≡ Ok f → CloneSays ms words f
unfolding clone_at
clone-is_said ms words f e =
    let (id, named, after_id) = bind-ok (name_at words) _ f e in
    let (child, is_one, after_child) = bind-ok (name_at id.1) _ f after_id in
    let description = prefixed_at (codes "description=") child.1 in
    let (sections, are, last) = bind-ok (sections_at (clone_owner ms) description.1) _ f after_child in
    let made : form.Cloned id.0 child.0 ms description.0 sections.params sections.meta ≡ f = cc in
    let (id_is, good) = name_at-ok words id named in
    let (child_is, fine) = name_at-ok id.1 child is_one in
    let got = sections-said (clone_owner ms) (no_ops ms) description.1 sections are in
    let p : pairs_in Params got.sections ≡ sections.params = sym (got.stands.pairs Params _ (params-place ms)) in
    let m : pairs_in Meta got.sections ≡ sections.meta = sym (got.stands.pairs Meta _ (meta-place ms)) in
    let front = noted_words (codes "description=") description.0 in
    let whole : id.0 ∷ child.0 ∷ (front ++ description.1) ≡ words =
    ap (λ ws. id.0 ∷ child.0 ∷ ws) (sym (prefixed_at-words (codes "description=") child.1 description refl))
    ∙ (ap (λ ws. id.0 ∷ ws) (sym child_is) ∙ sym id_is) in
    let said = a_clone id.0 child.0 front description.0 description.1 got.sections good fine (noted-said (codes "description=") description.0) got.say in
    let params_said = subst (λ ps. CloneSays ms (id.0 ∷ child.0 ∷ (front ++ description.1)) (form.Cloned id.0 child.0 ms description.0 ps (pairs_in Meta got.sections))) p said in
    let all_said = subst (λ ps. CloneSays ms (id.0 ∷ child.0 ∷ (front ++ description.1)) (form.Cloned id.0 child.0 ms description.0 sections.params ps)) m params_said in
    subst (CloneSays ms words) made (subst (λ ws. CloneSays ms ws (form.Cloned id.0 child.0 ms description.0 sections.params sections.meta)) whole all_said)

-- what says a clone is read as it
pub clone-is_read : (ms : Bool) (words : Words) (f : Form) → CloneSays ms words f → clone_at ms words ≡ Ok f
unfolding clone_at
clone-is_read ms ws f (a_clone id child description_words description section_words sections named fine noted say) =
    let got = sections-read (clone_owner ms) (none_read ms) section_words sections say in
    let rest = description_words ++ section_words in
    rw (
      clone_at,
      name_at-again id (child ∷ rest) named,
      name_at-again child rest fine,
      description-read (clone_owner ms) description_words description section_words sections noted say.written,
      got.read,
      got.stands.pairs Params _ (params-place ms),
      got.stands.pairs Meta _ (meta-place ms),
    ) refl
