-- The sections of a statement: a section word, and the words up to the next one (crmsh manual, node, primitive, group and clone).
use Rattle.std.specs.Prelude.{ℕ, ◌==◌, Bool, true, false, ◌&&◌, if◌then◌else◌, List, [], ◌∷◌, ◌++◌, length, codes, is_some, Option, Some, None, Result, Ok, Err}
use Rattle.crm_lex.specs.Names.{is}
use Rattle.crm_parse.specs.declared.fault.ParseCause.{ParseCause}
use Rattle.crm_parse.specs.declared.fault.ParseCause.TheVariants.{ExtraWord}
use Rattle.crm_parse.specs.declared.owner.Owner.{Owner}
use Rattle.crm_parse.specs.declared.owner.Owner.TheVariants as owner
use Rattle.crm_parse.specs.declared.owner.SectionWord.{SectionWord}
use Rattle.crm_parse.specs.declared.owner.SectionWord.TheVariants.{Attributes, Params, Meta, Utilization, Operations, Op}
use Rattle.crm_parse.specs.declared.pair.Kv.{Kv}
use Rattle.crm_parse.specs.declared.place.Place.{Place}
use Rattle.crm_parse.specs.declared.place.Place.TheVariants as place
use Rattle.crm_parse.specs.declared.section.Sections.{Sections}
use Rattle.crm_parse.specs.Keys.{stray}
use Rattle.crm_parse.specs.Operations.{operation_of}
use Rattle.crm_parse.specs.Pairs.{with_section}
use Rattle.crm_parse.specs.Reading.{Words}
use Rattle.faults.specs.Reading.{◌>>=◌}

-- the section that a word begins
abbrev pub section_word : List ℕ → Option SectionWord
section_word word =
    if is word (codes "attributes") then Some Attributes
    else if is word (codes "params") then Some Params
    else if is word (codes "meta") then Some Meta
    else if is word (codes "utilization") then Some Utilization
    else if is word (codes "operations") then Some Operations
    else if is word (codes "op") then Some Op
    else None

-- the sections that a statement may have
abbrev pub allows_section : Owner → SectionWord → Bool
allows_section owner.Node Attributes = true
allows_section owner.Node Utilization = true
allows_section owner.Node _ = false
allows_section owner.Primitive Attributes = false
allows_section owner.Primitive _ = true
allows_section _ Params = true
allows_section _ Meta = true
allows_section _ _ = false

abbrev pub allowed : Owner → Option SectionWord → Option SectionWord
allowed owner None = None
allowed owner (Some section) = if allows_section owner section then Some section else None

-- the section that a word begins in a statement
unfoldable pub section_of : Owner → List ℕ → Option SectionWord
section_of owner word = allowed owner (section_word word)

abbrev pub is_section : Owner → List ℕ → Bool
is_section owner word = is_some (section_of owner word)

-- the word after the section word is a name, whatever it is: so it is after `op` alone
abbrev pub takes_name : Option SectionWord → Bool
takes_name (Some Op) = true
takes_name _ = false

-- a section and its words
abbrev pub Part : Type 0
Part = SectionWord × Words

-- one more word stands before some words of a section and the sections after it: it is one of those words, or begins a section with them
abbrev pub onto : Option SectionWord → List ℕ → Words × List Part → Words × List Part
onto None word parts = (word ∷ parts.0, parts.1)
onto (Some section) word parts = ([], (section, parts.0) ∷ parts.1)

-- some words are cut into those before the first section word, and the sections. Where the first word stands in the place of a name (the truth says so), it
-- begins no section, whatever it is
abbrev pub cut_into_sections : Owner → Bool → Words → Words × List Part
cut_into_sections owner in_name_place [] = ([], [])
cut_into_sections owner true (word ∷ words) = onto None word (cut_into_sections owner false words)
cut_into_sections owner false (word ∷ words) = onto (section_of owner word) word (cut_into_sections owner (takes_name (section_of owner word)) words)

-- the place of the pairs of a section
abbrev pub place_of : Owner → SectionWord → Place
place_of owner.Node Attributes = place.NodeAttributes
place_of owner.Primitive Meta = place.PrimitiveMeta
place_of owner.Primitive _ = place.PrimitivePlain
place_of owner.Group Meta = place.LeafMeta
place_of owner.Clone Meta = place.CloneMeta
place_of owner.Ms Meta = place.MsMeta
place_of _ _ = place.Plain

-- no section
abbrev pub no_sections : Sections
no_sections = record { attributes = []; params = []; meta = []; utilization = []; operations = []; ops = [] }

abbrev pub has_no_pairs : List Kv → Bool
has_no_pairs pairs = length pairs == 0

-- a section may follow those before it: each of a node's two stands once, and in their order
abbrev pub may_follow : Owner → Sections → SectionWord → Bool
may_follow owner.Node before Attributes = has_no_pairs before.attributes && has_no_pairs before.utilization
may_follow owner.Node before Utilization = has_no_pairs before.utilization
may_follow _ before _ = true

-- some sections, and the words of one more
abbrev pub with_words : Place → Sections → SectionWord → Words → Result Sections ParseCause
with_words place before Attributes words = do
  pairs ← with_section place before.attributes words
  Ok (record before { attributes = pairs })
with_words place before Params words = do
  pairs ← with_section place before.params words
  Ok (record before { params = pairs })
with_words place before Meta words = do
  pairs ← with_section place before.meta words
  Ok (record before { meta = pairs })
with_words place before Utilization words = do
  pairs ← with_section place before.utilization words
  Ok (record before { utilization = pairs })
with_words place before Operations words = do
  pairs ← with_section place before.operations words
  Ok (record before { operations = pairs })
with_words place before Op words = do
  operation ← operation_of before.ops words
  Ok (record before { ops = before.ops ++ operation ∷ [] })

unfoldable pub with_part : Owner → Sections → Part → Result Sections ParseCause
with_part owner before part =
    if may_follow owner before part.0 then with_words (place_of owner part.0) before part.0 part.1 else Err ExtraWord

abbrev pub with_parts : Owner → Sections → List Part → Result Sections ParseCause
with_parts owner before [] = Ok before
with_parts owner before (part ∷ parts) = do
  more ← with_part owner before part
  with_parts owner more parts

-- some sections, and those that words are cut into; a word before the first section word has no place
abbrev pub with_cut : Owner → Sections → Words × List Part → Result Sections ParseCause
with_cut owner before ([], parts) = with_parts owner before parts
with_cut owner before (word ∷ words, parts) = Err (stray (place_of owner Params) word)

abbrev pub sections_from : Owner → Sections → Words → Result Sections ParseCause
sections_from owner before words = with_cut owner before (cut_into_sections owner false words)

-- the sections of a statement
abbrev pub sections_at : Owner → Words → Result Sections ParseCause
sections_at owner words = sections_from owner no_sections words
