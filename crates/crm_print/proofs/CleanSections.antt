-- Where the words of some sections are clean, so are those of what is read of them.
use Rattle.std.proofs.Common.{◌≡◌, ℕ, Bool, true, false, List, [], ◌∷◌, ◌++◌, Option, Some, None, Ok, refl, sym, ap, ◌∙◌, subst}
use Rattle.std.specs.Prelude.{codes}
use Rattle.std.specs.List.{AllByRecursion, flat_map}
use Rattle.std.proofs.lemmas.List.{map-append}
use Rattle.crm_lex.specs.Names.{is}
use Rattle.crm_parse.specs.declared.fault.ParseCause.TheVariants.{ExtraWord, Unsupported}
use Rattle.crm_parse.specs.declared.owner.Owner.{Owner}
use Rattle.crm_parse.specs.declared.owner.SectionWord.{SectionWord}
use Rattle.crm_parse.specs.declared.owner.SectionWord.TheVariants.{Attributes, Params, Meta, Utilization, Operations, Op}
use Rattle.crm_parse.specs.declared.pair.Kv.{Kv}
use Rattle.crm_parse.specs.declared.pair.Operation.{Operation}
use Rattle.crm_parse.specs.declared.place.Place.{Place}
use Rattle.crm_parse.specs.declared.section.Sections.{Sections}
use Rattle.crm_parse.specs.Operations.{operation_of}
use Rattle.crm_parse.specs.Pairs.{with_pairs, with_section}
use Rattle.crm_parse.specs.Reading.{Words}
use Rattle.crm_parse.specs.Sections.{Part, cut_into_sections, may_follow, no_sections, onto, place_of, section_of, sections_at, takes_name, with_cut, with_part, with_parts, with_words}
use Rattle.crm_parse.proofs.Binds.{if-ok, unless-ok}
use Rattle.faults.proofs.Steps.{bind-ok}
use Rattle.crm_print.proofs.Clean.{AllClean, Clean, clean-ascii}
use Rattle.crm_parse.proofs.OperationWords.{op_words, operation_of-words}
use Rattle.crm_parse.proofs.PairLists.{pair_words, with_pairs-adds}
use Rattle.crm_parse.proofs.PairWords.{pair_word}
use Rattle.crm_print.proofs.Written.{operation_words, section_words}

pub all-append : (xs ys : Words) → AllClean xs → AllClean ys → AllClean (xs ++ ys)
all-append [] ys a b = b
all-append (x ∷ xs) ys a b = (a.0, all-append xs ys a.1 b)

pub all-front : (xs ys : Words) → AllClean (xs ++ ys) → AllClean xs
all-front [] ys a = tt
all-front (x ∷ xs) ys a = (a.0, all-front xs ys a.1)

pub all-behind : (xs ys : Words) → AllClean (xs ++ ys) → AllClean ys
all-behind [] ys a = a
all-behind (x ∷ xs) ys a = all-behind xs ys a.1

-- the words of a section
clean-section : (place : Place) (before : List Kv) (words : Words) (after : List Kv) → AllClean (pair_words before) → AllClean words
    → with_section place before words ≡ Ok after → AllClean (pair_words after)
clean-section place before [] after b w e = cc
clean-section place before (word ∷ words) after b w e =
    let (read, no_rule) = unless-ok (is word (codes "rule")) (with_pairs place before (word ∷ words)) after Unsupported e in
    let a = with_pairs-adds place before (word ∷ words) after read in
    let spelled : pair_words after ≡ pair_words before ++ (word ∷ words) =
    ap pair_words a.added ∙ (map-append pair_word before a.pairs ∙ ap (λ (ws : Words). pair_words before ++ ws) (sym a.spelled)) in
    subst AllClean (sym spelled) (all-append (pair_words before) (word ∷ words) b w)

-- some operations whose words are clean
abbrev pub CleanOps : List Operation → Type 0
CleanOps ops = AllByRecursion (λ op. AllClean (op_words op)) ops

ops-push : (ops : List Operation) (op : Operation) → CleanOps ops → AllClean (op_words op) → CleanOps (ops ++ op ∷ [])
ops-push [] op c w = (w, tt)
ops-push (first ∷ ops) op c w = (c.0, ops-push ops op c.1 w)

-- sections whose words are clean
pub record CleanSections (s : Sections) : Type 0 where
  pub attributes : AllClean (pair_words s.attributes)
  pub params : AllClean (pair_words s.params)
  pub meta : AllClean (pair_words s.meta)
  pub utilization : AllClean (pair_words s.utilization)
  pub operations : AllClean (pair_words s.operations)
  pub ops : CleanOps s.ops

clean-words : (place : Place) (before : Sections) (section : SectionWord) (words : Words) (after : Sections) → CleanSections before → AllClean words
    → with_words place before section words ≡ Ok after → CleanSections after
clean-words place before Attributes words after k w e =
    let (pairs, read, last) = bind-ok (with_section place before.attributes words) _ after e in
    let same : record before { attributes = pairs } ≡ after = cc in
    let new = clean-section place before.attributes words pairs k.attributes w read in
    subst CleanSections same (record { attributes = new; params = k.params; meta = k.meta; utilization = k.utilization; operations = k.operations; ops = k.ops })
clean-words place before Params words after k w e =
    let (pairs, read, last) = bind-ok (with_section place before.params words) _ after e in
    let same : record before { params = pairs } ≡ after = cc in
    let new = clean-section place before.params words pairs k.params w read in
    subst CleanSections same (record { attributes = k.attributes; params = new; meta = k.meta; utilization = k.utilization; operations = k.operations; ops = k.ops })
clean-words place before Meta words after k w e =
    let (pairs, read, last) = bind-ok (with_section place before.meta words) _ after e in
    let same : record before { meta = pairs } ≡ after = cc in
    let new = clean-section place before.meta words pairs k.meta w read in
    subst CleanSections same (record { attributes = k.attributes; params = k.params; meta = new; utilization = k.utilization; operations = k.operations; ops = k.ops })
clean-words place before Utilization words after k w e =
    let (pairs, read, last) = bind-ok (with_section place before.utilization words) _ after e in
    let same : record before { utilization = pairs } ≡ after = cc in
    let new = clean-section place before.utilization words pairs k.utilization w read in
    subst CleanSections same (record { attributes = k.attributes; params = k.params; meta = k.meta; utilization = new; operations = k.operations; ops = k.ops })
clean-words place before Operations words after k w e =
    let (pairs, read, last) = bind-ok (with_section place before.operations words) _ after e in
    let same : record before { operations = pairs } ≡ after = cc in
    let new = clean-section place before.operations words pairs k.operations w read in
    subst CleanSections same (record { attributes = k.attributes; params = k.params; meta = k.meta; utilization = k.utilization; operations = new; ops = k.ops })
clean-words place before Op words after k w e =
    let (op, read, last) = bind-ok (operation_of before.ops words) _ after e in
    let same : record before { ops = before.ops ++ op ∷ [] } ≡ after = cc in
    let new = ops-push before.ops op k.ops (subst AllClean (operation_of-words before.ops words op read) w) in
    subst CleanSections same (record { attributes = k.attributes; params = k.params; meta = k.meta; utilization = k.utilization; operations = k.operations; ops = new })

clean-part : (owner : Owner) (before : Sections) (part : Part) (after : Sections) → CleanSections before → AllClean part.1 → with_part owner before part ≡ Ok after
    → CleanSections after
unfolding with_part
clean-part owner before part after k w e =
    let (read, follows) = if-ok (may_follow owner before part.0) (with_words (place_of owner part.0) before part.0 part.1) after ExtraWord e in
    clean-words (place_of owner part.0) before part.0 part.1 after k w read

abbrev CleanParts : List Part → Type 0
CleanParts parts = AllByRecursion (λ part. AllClean part.1) parts

clean-parts : (owner : Owner) (before : Sections) (parts : List Part) (after : Sections) → CleanSections before → CleanParts parts
    → with_parts owner before parts ≡ Ok after → CleanSections after
clean-parts owner before [] after k w e =
    let same : before ≡ after = cc in
    subst CleanSections same k
clean-parts owner before (part ∷ parts) after k w e =
    let (between, one, rest) = bind-ok (with_part owner before part) _ after e in
    clean-parts owner between parts after (clean-part owner before part between k w.0 one) w.1 rest

-- words that are cut
abbrev CleanCut : Words × List Part → Type 0
CleanCut parts = AllClean parts.0 × CleanParts parts.1

cut-onto : (section : Option SectionWord) (word : List ℕ) (parts : Words × List Part) → Clean word → CleanCut parts → CleanCut (onto section word parts)
cut-onto None word parts w c = ((w, c.0), c.1)
cut-onto (Some section) word parts w c = (tt, (c.0, c.1))

clean-cut : (owner : Owner) (is_name : Bool) (words : Words) → AllClean words → CleanCut (cut_into_sections owner is_name words)
clean-cut owner is_name [] w = (tt, tt)
clean-cut owner true (word ∷ words) w = cut-onto None word (cut_into_sections owner false words) w.0 (clean-cut owner false words w.1)
clean-cut owner false (word ∷ words) w =
    let name = takes_name (section_of owner word) in
    cut-onto (section_of owner word) word (cut_into_sections owner name words) w.0 (clean-cut owner name words w.1)

cut-sections : (owner : Owner) (parts : Words × List Part) (after : Sections) → CleanCut parts → with_cut owner no_sections parts ≡ Ok after → CleanSections after
cut-sections owner ([], parts) after c e =
    clean-parts owner no_sections parts after (record { attributes = tt; params = tt; meta = tt; utilization = tt; operations = tt; ops = tt }) c.1 e
cut-sections owner (word ∷ words, parts) after c e = cc

-- the sections of a statement
pub clean-sections : (owner : Owner) (words : Words) (sections : Sections) → AllClean words → sections_at owner words ≡ Ok sections → CleanSections sections
clean-sections owner words sections w e = cut-sections owner (cut_into_sections owner false words) sections (clean-cut owner false words w) e

-- as they are written
pub clean-section_words : (name : List ℕ) (kvs : List Kv) → Clean name → AllClean (pair_words kvs) → AllClean (section_words name kvs)
clean-section_words name [] n c = tt
clean-section_words name (kv ∷ kvs) n c = (n, c)

pub clean-operation_words : (ops : List Operation) → CleanOps ops → AllClean (flat_map operation_words ops)
clean-operation_words [] c = tt
clean-operation_words (op ∷ ops) c = (clean-ascii (codes "op") refl, all-append (op_words op) (flat_map operation_words ops) c.0 (clean-operation_words ops c.1))
