-- A group is read just when the words say it.
use Rattle.std.proofs.Common.{◌≡◌, ◌≢◌, ℕ, true, false, List, [], ◌∷◌, ◌++◌, Option, Some, None, Ok, refl, sym, ap, ◌∙◌, subst}
use Rattle.std.specs.Prelude.{codes, is_some}
use Rattle.std.specs.List.{AllByRecursion}
use Rattle.std.proofs.lemmas.Bool.{false≢true, or_from, or_right}
use Rattle.crm_lex.specs.Names.{is_name}
use Rattle.crm_parse.specs.declared.form.Form.{Form}
use Rattle.crm_parse.specs.declared.form.Form.TheVariants as form
use Rattle.crm_parse.specs.declared.owner.Owner.TheVariants as owner
use Rattle.crm_parse.specs.declared.owner.SectionWord.{SectionWord}
use Rattle.crm_parse.specs.declared.owner.SectionWord.TheVariants.{Attributes, Params, Meta, Utilization, Operations, Op}
use Rattle.crm_parse.specs.Groups.{ends_members, group_at, members_from}
use Rattle.crm_parse.specs.Reading.{Words, name_at, prefixed_at}
use Rattle.crm_parse.specs.Sections.{is_section, section_of, sections_at}
use Rattle.crm_parse.specs.Texts.{after}
use Rattle.faults.proofs.Steps.{bind-ok}
use Rattle.crm_parse.proofs.Binds.{name_at-again, name_at-ok}
use Rattle.crm_parse.proofs.GroupRead.{EndsMembers, IsMember, members-again, members_from-read}
use Rattle.crm_parse.proofs.Affixes.{after-again, name-no_description, noted_words, prefixed_at-words}
use Rattle.crm_parse.specs.Grammar.Phrases.{EachSays, MaySay, PartsSay, is_given, label_then, no_part, no_word, not_given, one_part, one_word}
use Rattle.crm_parse.specs.Grammar.Parts.{Section, SectionSays, a_section, an_operation, pairs_in, section_place, section_text}
use Rattle.crm_parse.specs.Grammar.ResourceForms.{DescriptionSays, GroupSays, MemberSays, a_group, a_member}
use Rattle.crm_parse.proofs.Grammar.OptionsSaid.{description-read, no_operation_says, noted-said}
use Rattle.crm_parse.proofs.Grammar.SectionWords.{BeginsSection, begins}
use Rattle.crm_parse.proofs.Grammar.SectionsAreRead.{OpsAreRead, sections-read}
use Rattle.crm_parse.proofs.Grammar.SectionsAreSaid.{OpsAreSaid, sections-said}

no_ops : OpsAreSaid owner.Group
no_ops done before words op h a e = cc

none_read : OpsAreRead owner.Group
none_read done before words op h said fits = absurd (no_operation_says owner.Group words _ op (λ e. let f : owner.Group ≡ owner.Primitive = e in cc) said refl)

-- the members
params-ends : ends_members (codes "params") ≡ true
unfolding section_of
params-ends = refl

meta-ends : ends_members (codes "meta") ≡ true
unfolding section_of
meta-ends = refl

not-one : (word text : List ℕ) → ends_members word ≡ false → ends_members text ≡ true → word ≢ text
not-one word text n e same = false≢true (sym n ∙ (ap ends_members same ∙ e))

member-said : (word : List ℕ) → IsMember word → MemberSays word word
member-said word h = a_member word h.named (not-one word (codes "params") h.goes_on params-ends) (not-one word (codes "meta") h.goes_on meta-ends)

members-said : (members : Words) → AllByRecursion IsMember members → EachSays MemberSays members members
members-said [] h = no_word
members-said (word ∷ members) h = one_word word word members members (member-said word h.0) (members-said members h.1)

other-section : (w : SectionWord) (word : List ℕ) → BeginsSection owner.Group word w → word ≢ codes "params" → word ≢ codes "meta" → ⊥
other-section Params word b p m = p b.text
other-section Meta word b p m = m b.text
other-section Attributes word b p m = let a = b.allows in cc
other-section Utilization word b p m = let a = b.allows in cc
other-section Operations word b p m = let a = b.allows in cc
other-section Op word b p m = let a = b.allows in cc

section-case : (word : List ℕ) (found : Option SectionWord) → section_of owner.Group word ≡ found → word ≢ codes "params" → word ≢ codes "meta" → is_some found ≡ false
section-case word None f p m = refl
section-case word (Some w) f p m = absurd (other-section w word (begins owner.Group word w f) p m)

member-is : (name : List ℕ) → is_name name ≡ true → name ≢ codes "params" → name ≢ codes "meta" → IsMember name
member-is name h p m = record {
  goes_on = or_from (is_section owner.Group name) (is_some (after (codes "description=") name)) (section-case name (section_of owner.Group name) refl p m)
      (ap is_some (name-no_description name h));
  named = h;
}

record MembersAre (words members : Words) : Type 0 where
  same : words ≡ members
  each : AllByRecursion IsMember members

one-member : (word name : List ℕ) (words members : Words) → MemberSays word name → MembersAre words members → MembersAre (word ∷ words) (name ∷ members)
one-member w n words members (a_member name h p m) are = record { same = ap (λ ws. name ∷ ws) are.same; each = (member-is name h p m, are.each) }

members-are : (words members : Words) → EachSays MemberSays words members → MembersAre words members
members-are ws ms no_word = record { same = refl; each = tt }
members-are ws ms (one_word word name words members s more) = one-member word name words members s (members-are words members more)

-- what ends them
ends-at : (word : List ℕ) (words : Words) → ends_members word ≡ true → EndsMembers (word ∷ words)
ends-at word words h before = rw h refl

section-ends : (w : SectionWord) (words : Words) → section_place owner.Group w ≢ None → EndsMembers (section_text w ∷ words)
section-ends Params words h = ends-at (codes "params") words params-ends
section-ends Meta words h = ends-at (codes "meta") words meta-ends
section-ends Attributes words h = absurd (h refl)
section-ends Utilization words h = absurd (h refl)
section-ends Operations words h = absurd (h refl)
section-ends Op words h = absurd (h refl)

part-ends : (part : Words) (s : Section) (words : Words) → SectionSays owner.Group part s → EndsMembers (part ++ words)
part-ends p s words (a_section w place ws kvs at each some) = section-ends w (ws ++ words) (λ e. let f : Some place ≡ None = sym at ∙ e in cc)
part-ends p s words (an_operation name ws kvs prim named no_rule each some two) = let f : owner.Group ≡ owner.Primitive = prim in cc

parts-end : (words : Words) (sections : List Section) → PartsSay (SectionSays owner.Group) words sections → EndsMembers words
parts-end ws ss no_part = λ before. refl
parts-end ws ss (one_part part s words sections said more) = part-ends part s words said

label-ends : (word text : List ℕ) (words : Words) → DescriptionSays word text → EndsMembers (word ∷ words)
label-ends w t words (label_then text value s) =
    ends-at (codes "description=" ++ text) words (or_right (is_section owner.Group (codes "description=" ++ text)) _ (ap is_some (after-again (codes "description=") text)))

rest-ends : (front : Words) (description : Option (List ℕ)) (words : Words) (sections : List Section) → MaySay DescriptionSays front description
    → PartsSay (SectionSays owner.Group) words sections → EndsMembers (front ++ words)
rest-ends f d words sections not_given h = parts-end words sections h
rest-ends f d words sections (is_given word text s) h = label-ends word text words s

-- what is read as a group says it
pub group-is_said : (words : Words) (f : Form) → group_at words ≡ Ok f → GroupSays words f
unfolding group_at
group-is_said words f e =
    let (id, named, after_id) = bind-ok (name_at words) _ f e in
    let (members, are_members, after_members) = bind-ok (members_from [] id.1) _ f after_id in
    let description = prefixed_at (codes "description=") members.1 in
    let (sections, are, last) = bind-ok (sections_at owner.Group description.1) _ f after_members in
    let made : form.Group id.0 members.0 description.0 sections.params sections.meta ≡ f = cc in
    let (id_is, good) = name_at-ok words id named in
    let r = members_from-read [] id.1 members are_members in
    let got = sections-said owner.Group no_ops description.1 sections are in
    let p : pairs_in Params got.sections ≡ sections.params = sym (got.stands.pairs Params _ refl) in
    let m : pairs_in Meta got.sections ≡ sections.meta = sym (got.stands.pairs Meta _ refl) in
    let members_are : r.members ≡ members.0 = sym r.added in
    let each = subst (λ ms. EachSays MemberSays ms ms) members_are (members-said r.members r.each) in
    let front = noted_words (codes "description=") description.0 in
    let whole : id.0 ∷ (members.0 ++ (front ++ description.1)) ≡ words =
    ap (λ ms. id.0 ∷ (ms ++ (front ++ description.1))) (sym members_are)
    ∙ (ap (λ ws. id.0 ∷ (r.members ++ ws)) (sym (prefixed_at-words (codes "description=") members.1 description refl))
    ∙ (ap (λ ws. id.0 ∷ ws) (sym r.whole) ∙ sym id_is)) in
    let said = a_group id.0 members.0 members.0 front description.0 description.1 got.sections good each (noted-said (codes "description=") description.0) got.say in
    let params_said = subst (λ ps. GroupSays (id.0 ∷ (members.0 ++ (front ++ description.1))) (form.Group id.0 members.0 description.0 ps (pairs_in Meta got.sections))) p said in
    let all_said = subst (λ ps. GroupSays (id.0 ∷ (members.0 ++ (front ++ description.1))) (form.Group id.0 members.0 description.0 sections.params ps)) m params_said in
    subst (GroupSays words) made (subst (λ ws. GroupSays ws (form.Group id.0 members.0 description.0 sections.params sections.meta)) whole all_said)

-- what says a group is read as it
pub group-is_read : (words : Words) (f : Form) → GroupSays words f → group_at words ≡ Ok f
unfolding group_at
group-is_read ws f (a_group id member_words members description_words description section_words sections named each noted say) =
    let got = sections-read owner.Group none_read section_words sections say in
    let are = members-are member_words members each in
    let rest = description_words ++ section_words in
    rw (
      group_at,
      are.same,
      name_at-again id (members ++ rest) named,
      members-again [] members rest are.each (rest-ends description_words description section_words sections noted say.written),
      description-read owner.Group description_words description section_words sections noted say.written,
      got.read,
      got.stands.pairs Params _ refl,
      got.stands.pairs Meta _ refl,
    ) refl
