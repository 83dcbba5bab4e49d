-- The sections that were read are read again, each from nothing.
use Rattle.std.proofs.Common.{◌≡◌, false, List, [], ◌∷◌, ◌++◌, Ok, refl, subst}
use Rattle.crm_parse.specs.declared.fault.ParseCause.TheVariants.{ExtraWord}
use Rattle.crm_parse.specs.declared.owner.Owner.{Owner}
use Rattle.crm_parse.specs.declared.owner.SectionWord.{SectionWord}
use Rattle.crm_parse.specs.declared.owner.SectionWord.TheVariants.{Attributes, Params, Meta, Utilization, Operations, Op}
use Rattle.crm_parse.specs.declared.section.Sections.{Sections}
use Rattle.crm_parse.specs.Operations.{operation_of}
use Rattle.crm_parse.specs.Pairs.{with_section}
use Rattle.crm_parse.specs.Reading.{Words}
use Rattle.crm_parse.specs.Sections.{Part, cut_into_sections, may_follow, no_sections, place_of, sections_at, with_cut, with_part, with_parts, with_words}
use Rattle.crm_parse.proofs.Binds.{if-ok}
use Rattle.faults.proofs.Steps.{bind-ok}
use Rattle.crm_parse.proofs.OperationWords.{KeptOps, kept_operation}
use Rattle.crm_parse.proofs.PairLists.{Kept, kept_section}

-- each section is read from nothing as it is
pub record AllKept (owner : Owner) (s : Sections) : Type 0 where
  pub attributes : Kept (place_of owner Attributes) s.attributes
  pub params : Kept (place_of owner Params) s.params
  pub meta : Kept (place_of owner Meta) s.meta
  pub utilization : Kept (place_of owner Utilization) s.utilization
  pub operations : Kept (place_of owner Operations) s.operations
  pub ops : KeptOps s.ops

with_words-kept : (owner : Owner) (before : Sections) (section : SectionWord) (words : Words) (after : Sections) → AllKept owner before
    → with_words (place_of owner section) before section words ≡ Ok after → AllKept owner after
with_words-kept owner before Attributes words after k e =
    let place = place_of owner Attributes in
    let (pairs, read, last) = bind-ok (with_section place before.attributes words) _ after e in
    let same : record before { attributes = pairs } ≡ after = cc in
    subst (AllKept owner) same (record { attributes = kept_section place before.attributes words pairs k.attributes read; params = k.params; meta = k.meta; utilization = k.utilization; operations = k.operations; ops = k.ops })
with_words-kept owner before Params words after k e =
    let place = place_of owner Params in
    let (pairs, read, last) = bind-ok (with_section place before.params words) _ after e in
    let same : record before { params = pairs } ≡ after = cc in
    subst (AllKept owner) same (record { attributes = k.attributes; params = kept_section place before.params words pairs k.params read; meta = k.meta; utilization = k.utilization; operations = k.operations; ops = k.ops })
with_words-kept owner before Meta words after k e =
    let place = place_of owner Meta in
    let (pairs, read, last) = bind-ok (with_section place before.meta words) _ after e in
    let same : record before { meta = pairs } ≡ after = cc in
    subst (AllKept owner) same (record { attributes = k.attributes; params = k.params; meta = kept_section place before.meta words pairs k.meta read; utilization = k.utilization; operations = k.operations; ops = k.ops })
with_words-kept owner before Utilization words after k e =
    let place = place_of owner Utilization in
    let (pairs, read, last) = bind-ok (with_section place before.utilization words) _ after e in
    let same : record before { utilization = pairs } ≡ after = cc in
    subst (AllKept owner) same (record { attributes = k.attributes; params = k.params; meta = k.meta; utilization = kept_section place before.utilization words pairs k.utilization read; operations = k.operations; ops = k.ops })
with_words-kept owner before Operations words after k e =
    let place = place_of owner Operations in
    let (pairs, read, last) = bind-ok (with_section place before.operations words) _ after e in
    let same : record before { operations = pairs } ≡ after = cc in
    subst (AllKept owner) same (record { attributes = k.attributes; params = k.params; meta = k.meta; utilization = k.utilization; operations = kept_section place before.operations words pairs k.operations read; ops = k.ops })
with_words-kept owner before Op words after k e =
    let (op, read, last) = bind-ok (operation_of before.ops words) _ after e in
    let same : record before { ops = before.ops ++ op ∷ [] } ≡ after = cc in
    subst (AllKept owner) same (record { attributes = k.attributes; params = k.params; meta = k.meta; utilization = k.utilization; operations = k.operations; ops = kept_operation before.ops words op k.ops read })

with_part-kept : (owner : Owner) (before : Sections) (part : Part) (after : Sections) → AllKept owner before → with_part owner before part ≡ Ok after → AllKept owner after
unfolding with_part
with_part-kept owner before part after k e =
    let (read, follows) = if-ok (may_follow owner before part.0) (with_words (place_of owner part.0) before part.0 part.1) after ExtraWord e in
    with_words-kept owner before part.0 part.1 after k read

with_parts-kept : (owner : Owner) (before : Sections) (parts : List Part) (after : Sections) → AllKept owner before → with_parts owner before parts ≡ Ok after
    → AllKept owner after
with_parts-kept owner before [] after k e =
    let same : before ≡ after = cc in
    subst (AllKept owner) same k
with_parts-kept owner before (part ∷ parts) after k e =
    let (between, one, rest) = bind-ok (with_part owner before part) _ after e in
    with_parts-kept owner between parts after (with_part-kept owner before part between k one) rest

with_cut-kept : (owner : Owner) (before : Sections) (parts : Words × List Part) (after : Sections) → AllKept owner before → with_cut owner before parts ≡ Ok after
    → AllKept owner after
with_cut-kept owner before ([], parts) after k e = with_parts-kept owner before parts after k e
with_cut-kept owner before (word ∷ words, parts) after k e = cc

none-kept : (owner : Owner) → AllKept owner no_sections
none-kept owner = record { attributes = refl; params = refl; meta = refl; utilization = refl; operations = refl; ops = refl }

-- each of the sections that a statement was read to have
pub sections_at-kept : (owner : Owner) (words : Words) (sections : Sections) → sections_at owner words ≡ Ok sections → AllKept owner sections
sections_at-kept owner words sections e = with_cut-kept owner no_sections (cut_into_sections owner false words) sections (none-kept owner) e
