-- A group is read again from its words.
use Rattle.std.proofs.Common.{◌≡◌, ℕ, true, List, ◌∷◌, ◌++◌, Option, Some, None, Ok, refl, sym, ap, subst, append-nil, []}
use Rattle.std.specs.Prelude.{codes, is_some}
use Rattle.std.specs.List.{AllByRecursion}
use Rattle.std.proofs.lemmas.Bool.{or_right}
use Rattle.crm_lex.specs.Names.{is_name}
use Rattle.crm_parse.specs.declared.form.Form.{Form}
use Rattle.crm_parse.specs.declared.form.Form.TheVariants as form
use Rattle.crm_parse.specs.declared.owner.Owner.TheVariants as owner
use Rattle.crm_parse.specs.declared.owner.SectionWord.TheVariants.{Meta, Params}
use Rattle.crm_parse.specs.declared.pair.Kv.{Kv}
use Rattle.crm_parse.specs.Groups.{ends_members, group_at, members_from}
use Rattle.crm_parse.specs.Reading.{Words, name_at, prefixed_at}
use Rattle.crm_parse.specs.Sections.{is_section, place_of, section_of, sections_at}
use Rattle.crm_parse.proofs.Affixes.{after-again}
use Rattle.crm_parse.proofs.Binds.{name_at-again, name_at-ok}
use Rattle.faults.proofs.Steps.{bind-ok}
use Rattle.crm_print.proofs.MetaAgain.{description-last, label}
use Rattle.crm_parse.proofs.PairLists.{Kept, pair_words}
use Rattle.crm_print.proofs.SectionsAgain.{Follows, meta_sections-again}
use Rattle.crm_parse.proofs.SectionsKept.{sections_at-kept}
use Rattle.crm_print.proofs.Written.{Again, meta_words, section_words}
use Rattle.crm_parse.proofs.GroupRead.{IsMember, members_from-read, EndsMembers, members-again}

ends-word : (word : List ℕ) (words : Words) → ends_members word ≡ true → EndsMembers (word ∷ words)
ends-word word words h before = rw h refl

ends-section : (name : List ℕ) (kvs : List Kv) (rest : Words) → ends_members name ≡ true → EndsMembers rest → EndsMembers (section_words name kvs ++ rest)
ends-section name [] rest n h = h
ends-section name (kv ∷ kvs) rest n h = ends-word name (pair_words (kv ∷ kvs) ++ rest) n

ends-meta : (description : Option (List ℕ)) (params meta : List Kv) → EndsMembers (meta_words description params meta)
unfolding section_of
ends-meta None params meta =
    let last = ends-section (codes "meta") meta [] refl (λ before. refl) in
    ends-section (codes "params") params (section_words (codes "meta") meta) refl (subst EndsMembers (append-nil (section_words (codes "meta") meta)) last)
ends-meta (Some text) params meta =
    ends-word (label ++ text) (section_words (codes "params") params ++ section_words (codes "meta") meta) (or_right (is_section owner.Group (label ++ text)) _ (ap is_some (after-again label text)))

group-follows : Follows owner.Group
unfolding section_of
group-follows = record { params = refl; meta = refl; any = λ s section. refl }

group-again : (id : List ℕ) (members : Words) (description : Option (List ℕ)) (params meta : List Kv) → is_name id ≡ true → AllByRecursion IsMember members
    → Kept (place_of owner.Group Params) params → Kept (place_of owner.Group Meta) meta
    → group_at (id ∷ (members ++ meta_words description params meta)) ≡ Ok (form.Group id members description params meta)
unfolding group_at
group-again id members description params meta n all p m =
    let rest = meta_words description params meta in
    rw (name_at-again id (members ++ rest) n, members-again [] members rest all (ends-meta description params meta), description-last description params meta, meta_sections-again owner.Group group-follows params meta p m) refl

-- what is read as a group is read again
pub group_at-again : (words : Words) (read : Form) → group_at words ≡ Ok read → Again group_at (codes "group") read
unfolding group_at
group_at-again words read e =
    let (id, named, after_id) = bind-ok (name_at words) _ read e in
    let (members, are_members, after_members) = bind-ok (members_from [] id.1) _ read after_id in
    let description = prefixed_at label members.1 in
    let (sections, are, last) = bind-ok (sections_at owner.Group description.1) _ read after_members in
    let kept = sections_at-kept owner.Group description.1 sections are in
    let r = members_from-read [] id.1 members are_members in
    let each = subst (AllByRecursion IsMember) (sym r.added) r.each in
    let made = form.Group id.0 members.0 description.0 sections.params sections.meta in
    let same : made ≡ read = cc in
    let again = group-again id.0 members.0 description.0 sections.params sections.meta (name_at-ok words id named).1 each kept.params kept.meta in
    subst (Again group_at (codes "group")) same (id.0 ∷ (members.0 ++ meta_words description.0 sections.params sections.meta), refl, again)
