-- A clone is read again from its words.
use Rattle.std.proofs.Common.{◌≡◌, ℕ, Bool, true, false, List, ◌∷◌, Option, Ok, refl, subst}
use Rattle.crm_lex.specs.Names.{is_name}
use Rattle.crm_parse.specs.declared.form.Form.{Form}
use Rattle.crm_parse.specs.declared.form.Form.TheVariants as form
use Rattle.crm_parse.specs.declared.owner.SectionWord.TheVariants.{Meta, Params}
use Rattle.crm_parse.specs.declared.pair.Kv.{Kv}
use Rattle.crm_parse.specs.Groups.{clone_at, clone_owner}
use Rattle.crm_parse.specs.Reading.{Words, name_at, prefixed_at}
use Rattle.crm_parse.specs.Sections.{place_of, section_of, sections_at}
use Rattle.crm_parse.specs.WordTexts.{clone_word}
use Rattle.crm_parse.proofs.Binds.{name_at-again, name_at-ok}
use Rattle.faults.proofs.Steps.{bind-ok}
use Rattle.crm_print.proofs.MetaAgain.{description-last, label}
use Rattle.crm_parse.proofs.PairLists.{Kept}
use Rattle.crm_print.proofs.SectionsAgain.{Follows, meta_sections-again}
use Rattle.crm_parse.proofs.SectionsKept.{sections_at-kept}
use Rattle.crm_print.proofs.Written.{Again, meta_words}

clone-follows : (ms : Bool) → Follows (clone_owner ms)
unfolding section_of
clone-follows true = record { params = refl; meta = refl; any = λ s section. refl }
clone-follows false = record { params = refl; meta = refl; any = λ s section. refl }

clone-again : (ms : Bool) (id child : List ℕ) (description : Option (List ℕ)) (params meta : List Kv) → is_name id ≡ true → is_name child ≡ true
    → Kept (place_of (clone_owner ms) Params) params → Kept (place_of (clone_owner ms) Meta) meta
    → clone_at ms (id ∷ child ∷ meta_words description params meta) ≡ Ok (form.Cloned id child ms description params meta)
unfolding clone_at
clone-again ms id child description params meta n c p m =
    let rest = meta_words description params meta in
    rw (name_at-again id (child ∷ rest) n, name_at-again child rest c, description-last description params meta, meta_sections-again (clone_owner ms) (clone-follows ms) params meta p m) refl

-- what is read as a clone is read again
pub clone_at-again : (ms : Bool) (words : Words) (read : Form) → clone_at ms words ≡ Ok read → Again (clone_at ms) (clone_word ms) read
unfolding clone_at
clone_at-again ms words read e =
    let (id, named, after_id) = bind-ok (name_at words) _ read e in
    let (child, is_one, after_child) = bind-ok (name_at id.1) _ read after_id in
    let description = prefixed_at label child.1 in
    let (sections, are, last) = bind-ok (sections_at (clone_owner ms) description.1) _ read after_child in
    let kept = sections_at-kept (clone_owner ms) description.1 sections are in
    let made = form.Cloned id.0 child.0 ms description.0 sections.params sections.meta in
    let same : made ≡ read = cc in
    let again = clone-again ms id.0 child.0 description.0 sections.params sections.meta (name_at-ok words id named).1 (name_at-ok id.1 child is_one).1 kept.params kept.meta in
    subst (Again (clone_at ms) (clone_word ms)) same (id.0 ∷ child.0 ∷ meta_words description.0 sections.params sections.meta, refl, again)
