-- `group ID MEMBER.. [description=TEXT] [SECTION..]` and `clone ID CHILD [description=TEXT] [SECTION..]` (crmsh manual, group, clone and ms).
use Rattle.std.specs.Prelude.{◌≡◌, ◌≢◌, ℕ, Bool, true, List, ◌∷◌, ◌++◌, codes, Option}
use Rattle.crm_lex.specs.Names.{is_name}
use Rattle.crm_parse.specs.declared.form.Form.{Form}
use Rattle.crm_parse.specs.declared.form.Form.TheVariants as form
use Rattle.crm_parse.specs.declared.owner.Owner.TheVariants as owner
use Rattle.crm_parse.specs.declared.owner.SectionWord.TheVariants.{Params, Meta}
use Rattle.crm_parse.specs.Groups.{clone_owner}
use Rattle.crm_parse.specs.Reading.{Words}
use Rattle.crm_parse.specs.Grammar.Phrases.{AnyText, EachSays, LabelSays, MaySay}
use Rattle.crm_parse.specs.Grammar.Parts.{Section, SectionsSay, pairs_in}

-- `description=TEXT`
abbrev pub DescriptionSays : List ℕ → List ℕ → Type 0
DescriptionSays = LabelSays (codes "description=") AnyText

-- a member of a group: a name that begins no section. A resource of the name `params` or `meta` can't be one, but the child of a clone can
pub data MemberSays : List ℕ → List ℕ → Type 0 where
  a_member : (name : List ℕ) → is_name name ≡ true → name ≢ codes "params" → name ≢ codes "meta" → MemberSays name name

-- a group; that it has a member is asked where its members are looked up (EmptyGroup)
pub data GroupSays : Words → Form → Type 0 where
  a_group : (id : List ℕ) (member_words members description_words : Words) (description : Option (List ℕ)) (section_words : Words) (sections : List Section)
      → is_name id ≡ true → EachSays MemberSays member_words members → MaySay DescriptionSays description_words description
      → SectionsSay owner.Group section_words sections
      → GroupSays (id ∷ (member_words ++ (description_words ++ section_words))) (form.Group id members description (pairs_in Params sections) (pairs_in Meta sections))

-- a clone; where it was written as `ms` or `master`, `promotable` may only say yes
pub data CloneSays (ms : Bool) : Words → Form → Type 0 where
  a_clone : (id child : List ℕ) (description_words : Words) (description : Option (List ℕ)) (section_words : Words) (sections : List Section)
      → is_name id ≡ true → is_name child ≡ true → MaySay DescriptionSays description_words description → SectionsSay (clone_owner ms) section_words sections
      → CloneSays ms (id ∷ child ∷ (description_words ++ section_words)) (form.Cloned id child ms description (pairs_in Params sections) (pairs_in Meta sections))
