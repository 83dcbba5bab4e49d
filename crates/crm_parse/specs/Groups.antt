-- `group ID MEMBER.. [description=TEXT]` and `clone ID CHILD [description=TEXT]`, with their sections (crmsh manual, group, clone and ms).
use Rattle.std.specs.Prelude.{ℕ, ◌||◌, Bool, true, false, if◌then◌else◌, List, [], ◌∷◌, ◌++◌, codes, is_some, Result, Ok}
use Rattle.crm_parse.specs.declared.fault.ParseCause.{ParseCause}
use Rattle.crm_parse.specs.declared.form.Form.{Form}
use Rattle.crm_parse.specs.declared.form.Form.TheVariants as form
use Rattle.crm_parse.specs.declared.owner.Owner.{Owner}
use Rattle.crm_parse.specs.declared.owner.Owner.TheVariants as owner
use Rattle.crm_parse.specs.Reading.{Words, description_at, name_at, name_of}
use Rattle.faults.specs.Reading.{◌>>=◌}
use Rattle.crm_parse.specs.Sections.{is_section, sections_at}
use Rattle.crm_parse.specs.Texts.{after}

-- the members of a group end at its description or its first section
abbrev pub ends_members : List ℕ → Bool
ends_members word = is_section owner.Group word || is_some (after (codes "description=") word)

-- some members, and those that follow; a group may have none
abbrev pub members_from : Words → Words → Result (Words × Words) ParseCause
members_from members [] = Ok (members, [])
members_from members (word ∷ words) = if ends_members word then Ok (members, word ∷ words) else do
  name ← name_of word
  members_from (members ++ name ∷ []) words

unfoldable pub group_at : Words → Result Form ParseCause
group_at words = do
  id ← name_at words
  members ← members_from [] id.1
  description ← description_at members.1
  sections ← sections_at owner.Group description.1
  Ok (form.Group id.0 members.0 description.0 sections.params sections.meta)

-- the keys of a clone are those of `clone`, or of `ms` and `master`
abbrev pub clone_owner : Bool → Owner
clone_owner true = owner.Ms
clone_owner false = owner.Clone

unfoldable pub clone_at : Bool → Words → Result Form ParseCause
clone_at ms words = do
  id ← name_at words
  child ← name_at id.1
  description ← description_at child.1
  sections ← sections_at (clone_owner ms) description.1
  Ok (form.Cloned id.0 child.0 ms description.0 sections.params sections.meta)
