-- Words that are put together by sections are cut into these sections again.
use Rattle.std.proofs.Common.{◌≡◌, ℕ, false, List, ◌∷◌, ◌++◌, Some, refl, append-nil, []}
use Rattle.std.specs.Prelude.{codes, map}
use Rattle.std.specs.List.{flat_map}
use Rattle.crm_parse.specs.declared.owner.Owner.{Owner}
use Rattle.crm_parse.specs.declared.owner.SectionWord.{SectionWord}
use Rattle.crm_parse.specs.declared.owner.SectionWord.TheVariants.{Op}
use Rattle.crm_parse.specs.declared.pair.Kv.{Kv}
use Rattle.crm_parse.specs.declared.pair.Operation.{Operation}
use Rattle.crm_parse.specs.Reading.{Words}
use Rattle.crm_parse.specs.Sections.{Part, cut_into_sections, section_of, takes_name}
use Rattle.crm_parse.proofs.OperationWords.{op_words}
use Rattle.crm_parse.proofs.PairLists.{pair_words}
use Rattle.crm_print.proofs.Written.{operation_words, section_words}
use Rattle.crm_parse.proofs.Cuts.{cut-pairs}

-- the sections that they are cut into
abbrev pub section_parts : SectionWord → List Kv → List Part
section_parts section [] = []
section_parts section (kv ∷ kvs) = (section, pair_words (kv ∷ kvs)) ∷ []

abbrev pub op_part : Operation → Part
op_part op = (Op, op_words op)

module _ (owner : Owner) where
  pub cut-section : (word : List ℕ) (section : SectionWord) (kvs : List Kv) (tail : Words) (parts : List Part) → section_of owner word ≡ Some section
      → takes_name (Some section) ≡ false → cut_into_sections owner false tail ≡ ([], parts) → cut_into_sections owner false (section_words word kvs ++ tail) ≡ ([], section_parts section kvs ++ parts)
  cut-section word section [] tail parts s n e = e
  cut-section word section (kv ∷ kvs) tail parts s n e = rw (s, n, cut-pairs owner (kv ∷ kvs) tail parts e) refl

  -- the last section
  pub cut-last : (word : List ℕ) (section : SectionWord) (kvs : List Kv) → section_of owner word ≡ Some section → takes_name (Some section) ≡ false
      → cut_into_sections owner false (section_words word kvs) ≡ ([], section_parts section kvs)
  cut-last word section kvs s n = rw (append-nil (section_words word kvs), append-nil (section_parts section kvs)) at (cut-section word section kvs [] [] s n refl)

  -- operations, whose names are words of their own
  pub cut-operations : (ops : List Operation) → section_of owner (codes "op") ≡ Some Op → cut_into_sections owner false (flat_map operation_words ops) ≡ ([], map op_part ops)
  cut-operations [] s = refl
  cut-operations (op ∷ ops) s = rw (s, cut-pairs owner op.pairs (flat_map operation_words ops) (map op_part ops) (cut-operations ops s)) refl
