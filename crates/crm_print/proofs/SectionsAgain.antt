-- The words of the sections of a statement are read as these sections again.
use Rattle.std.proofs.Common.{◌≡◌, true, false, List, ◌∷◌, ◌++◌, Some, Ok, refl, sym, ap, ◌∙◌, append-nil, []}
use Rattle.std.specs.Prelude.{codes, map}
use Rattle.std.specs.List.{flat_map}
use Rattle.crm_parse.specs.declared.owner.Owner.{Owner}
use Rattle.crm_parse.specs.declared.owner.Owner.TheVariants as owner
use Rattle.crm_parse.specs.declared.owner.SectionWord.{SectionWord}
use Rattle.crm_parse.specs.declared.owner.SectionWord.TheVariants.{Attributes, Params, Meta, Utilization, Operations, Op}
use Rattle.crm_parse.specs.declared.pair.Kv.{Kv}
use Rattle.crm_parse.specs.declared.pair.Operation.{Operation}
use Rattle.crm_parse.specs.declared.place.Place.{Place}
use Rattle.crm_parse.specs.declared.section.Sections.{Sections}
use Rattle.crm_parse.specs.Operations.{operation_of}
use Rattle.crm_parse.specs.Reading.{Words}
use Rattle.crm_parse.specs.Sections.{Part, cut_into_sections, may_follow, no_sections, place_of, section_of, sections_at, takes_name, with_part, with_parts, with_words}
use Rattle.faults.proofs.Steps.{bind-ok}
use Rattle.crm_parse.proofs.OperationWords.{KeptOps, op_words, with_operations}
use Rattle.crm_parse.proofs.PairLists.{Kept, pair_words}
use Rattle.crm_parse.proofs.PairsAgain.{section-again}
use Rattle.crm_print.proofs.SectionCuts.{op_part, section_parts, cut-section, cut-last, cut-operations}
use Rattle.crm_print.proofs.Written.{operation_words, section_words}
use Rattle.crm_parse.proofs.SectionPairs.{pairs_of, put}

put-none : (section : SectionWord) (s : Sections) → pairs_of section s ≡ [] → put section [] s ≡ s
put-none Attributes s e = ap (λ ps. put Attributes ps s) (sym e)
put-none Params s e = ap (λ ps. put Params ps s) (sym e)
put-none Meta s e = ap (λ ps. put Meta ps s) (sym e)
put-none Utilization s e = ap (λ ps. put Utilization ps s) (sym e)
put-none Operations s e = ap (λ ps. put Operations ps s) (sym e)
put-none Op s e = refl

-- a section that has pairs
with_words-put : (place : Place) (before : Sections) (section : SectionWord) (kv : Kv) (kvs : List Kv) → takes_name (Some section) ≡ false → pairs_of section before ≡ []
    → Kept place (kv ∷ kvs) → with_words place before section (pair_words (kv ∷ kvs)) ≡ Ok (put section (kv ∷ kvs) before)
with_words-put place before Attributes kv kvs n e k = rw (e, section-again place kv kvs k) refl
with_words-put place before Params kv kvs n e k = rw (e, section-again place kv kvs k) refl
with_words-put place before Meta kv kvs n e k = rw (e, section-again place kv kvs k) refl
with_words-put place before Utilization kv kvs n e k = rw (e, section-again place kv kvs k) refl
with_words-put place before Operations kv kvs n e k = rw (e, section-again place kv kvs k) refl
with_words-put place before Op kv kvs n e k = cc

module _ (owner : Owner) where
  -- a section that follows some sections
  pub parts-section : (before : Sections) (section : SectionWord) (kvs : List Kv) (parts : List Part) → takes_name (Some section) ≡ false → pairs_of section before ≡ []
      → may_follow owner before section ≡ true → Kept (place_of owner section) kvs
      → with_parts owner before (section_parts section kvs ++ parts) ≡ with_parts owner (put section kvs before) parts
  unfolding with_part
  parts-section before section [] parts n e f k = ap (λ s. with_parts owner s parts) (sym (put-none section before e))
  parts-section before section (kv ∷ kvs) parts n e f k = rw (f, with_words-put (place_of owner section) before section kv kvs n e k) refl

  -- operations that follow some sections
  pub parts-operations : (before : Sections) (ops after : List Operation) → ((s : Sections) → may_follow owner s Op ≡ true)
      → with_operations before.ops ops ≡ Ok after → with_parts owner before (map op_part ops) ≡ Ok (record before { ops = after })
  unfolding with_part
  parts-operations before [] after f e =
      let same : before.ops ≡ after = cc in
      ap (λ (os : List Operation). Ok (record before { ops = os })) same
  parts-operations before (op ∷ ops) after f e =
      let (read, one, rest) = bind-ok (operation_of before.ops (op_words op)) _ after e in
      rw (f before, one) (parts-operations (record before { ops = before.ops ++ read ∷ [] }) ops after f rest)

-- the sections of a node
pub node_sections-again : (attributes utilization : List Kv) → Kept (place_of owner.Node Attributes) attributes → Kept (place_of owner.Node Utilization) utilization
    → sections_at owner.Node (section_words (codes "attributes") attributes ++ section_words (codes "utilization") utilization)
    ≡ Ok (record no_sections { attributes = attributes; utilization = utilization })
unfolding section_of
node_sections-again attrs utils a u =
    let last = cut-last owner.Node (codes "utilization") Utilization utils refl refl in
    let all = cut-section owner.Node (codes "attributes") Attributes attrs (section_words (codes "utilization") utils) (section_parts Utilization utils) refl refl last in
    let more = section_parts Utilization utils in
    let between = put Attributes attrs no_sections in
    let then_last : with_parts owner.Node between (more ++ []) ≡ Ok (put Utilization utils between) = parts-section owner.Node between Utilization utils [] refl refl refl u in
    let done : with_parts owner.Node between more ≡ Ok (put Utilization utils between) = rw (append-nil more) at then_last in
    rw all (parts-section owner.Node no_sections Attributes attrs more refl refl refl a ∙ done)

-- a statement with parameters and meta attributes, whose sections may stand in any order
pub record Follows (owner : Owner) : Type 0 where
  pub params : section_of owner (codes "params") ≡ Some Params
  pub meta : section_of owner (codes "meta") ≡ Some Meta
  pub any : (s : Sections) (section : SectionWord) → may_follow owner s section ≡ true

module _ (owner : Owner) (follows : Follows owner) where
  cut-meta : (params meta : List Kv) (tail : Words) (parts : List Part) → cut_into_sections owner false tail ≡ ([], parts)
      → cut_into_sections owner false (section_words (codes "params") params ++ (section_words (codes "meta") meta ++ tail))
      ≡ ([], section_parts Params params ++ (section_parts Meta meta ++ parts))
  cut-meta params meta tail parts e =
      cut-section owner (codes "params") Params params (section_words (codes "meta") meta ++ tail) (section_parts Meta meta ++ parts) follows.params refl
      (cut-section owner (codes "meta") Meta meta tail parts follows.meta refl e)

  parts-meta : (params meta : List Kv) (parts : List Part) → Kept (place_of owner Params) params → Kept (place_of owner Meta) meta
      → with_parts owner no_sections (section_parts Params params ++ (section_parts Meta meta ++ parts))
      ≡ with_parts owner (record no_sections { params = params; meta = meta }) parts
  parts-meta params meta parts p m =
      let between = put Params params no_sections in
      parts-section owner no_sections Params params (section_parts Meta meta ++ parts) refl refl (follows.any no_sections Params) p
      ∙ parts-section owner between Meta meta parts refl refl (follows.any between Meta) m

  -- the sections of a group or a clone
  pub meta_sections-again : (params meta : List Kv) → Kept (place_of owner Params) params → Kept (place_of owner Meta) meta
      → sections_at owner (section_words (codes "params") params ++ section_words (codes "meta") meta) ≡ Ok (record no_sections { params = params; meta = meta })
  meta_sections-again params meta p m =
      let all = rw (append-nil (section_words (codes "meta") meta)) at (cut-meta params meta [] [] refl) in
      rw all (parts-meta params meta [] p m)

-- the sections of a primitive behind its parameters and meta attributes
abbrev pub op_sections : List Kv → List Kv → List Operation → Words
op_sections utilization operations ops =
    section_words (codes "utilization") utilization ++ (section_words (codes "operations") operations ++ flat_map operation_words ops)

primitive-follows : Follows owner.Primitive
unfolding section_of
primitive-follows = record { params = refl; meta = refl; any = λ s section. refl }

-- the sections of a primitive
pub primitive_sections-again : (params meta utilization operations : List Kv) (ops : List Operation) → Kept (place_of owner.Primitive Params) params
    → Kept (place_of owner.Primitive Meta) meta → Kept (place_of owner.Primitive Utilization) utilization → Kept (place_of owner.Primitive Operations) operations → KeptOps ops
    → sections_at owner.Primitive (section_words (codes "params") params ++ (section_words (codes "meta") meta ++ op_sections utilization operations ops))
    ≡ Ok (record { attributes = []; params = params; meta = meta; utilization = utilization; operations = operations; ops = ops })
unfolding section_of
primitive_sections-again params meta utilization operations ops p m u o k =
    let last = cut-operations owner.Primitive ops refl in
    let two = cut-section owner.Primitive (codes "operations") Operations operations (flat_map operation_words ops) (map op_part ops) refl refl last in
    let tail = section_parts Operations operations ++ map op_part ops in
    let three = cut-section owner.Primitive (codes "utilization") Utilization utilization (section_words (codes "operations") operations ++ flat_map operation_words ops) tail refl refl two in
    let all = cut-meta owner.Primitive primitive-follows params meta (op_sections utilization operations ops) (section_parts Utilization utilization ++ tail) three in
    let first : Sections = record no_sections { params = params; meta = meta } in
    let second = put Utilization utilization first in
    let third = put Operations operations second in
    rw all (parts-meta owner.Primitive primitive-follows params meta (section_parts Utilization utilization ++ tail) p m
    ∙ (parts-section owner.Primitive first Utilization utilization tail refl refl refl u
    ∙ (parts-section owner.Primitive second Operations operations (map op_part ops) refl refl refl o
    ∙ parts-operations owner.Primitive third ops ops (λ s. refl) k)))
