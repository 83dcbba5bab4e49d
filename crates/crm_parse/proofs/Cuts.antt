-- Words that are cut into sections.
use Rattle.std.proofs.Common.{◌≡◌, ℕ, ◌+◌, false, List, ◌∷◌, take, drop, suc, Option, Some, None, refl, ap, arith, [], ◌++◌}
use Rattle.std.specs.List.{position_or_len}
use Rattle.crm_parse.specs.declared.owner.Owner.{Owner}
use Rattle.crm_parse.specs.declared.owner.SectionWord.{SectionWord}
use Rattle.crm_parse.specs.Reading.{Words}
use Rattle.crm_parse.specs.Sections.{cut_into_sections, is_section, section_of, Part, section_word}
use Rattle.std.specs.Prelude.{codes}
use Rattle.crm_parse.specs.declared.pair.Kv.{Kv}
use Rattle.crm_parse.proofs.PairWords.{pair_word}
use Rattle.crm_parse.proofs.PairLists.{pair_words}
use Rattle.crm_parse.proofs.PairsAgain.{pair_word-differs}

pair-no_section_word : (kv : Kv) → section_word (pair_word kv) ≡ None
pair-no_section_word kv = rw (
  pair_word-differs kv (codes "attributes") refl,
  pair_word-differs kv (codes "params") refl,
  pair_word-differs kv (codes "meta") refl,
  pair_word-differs kv (codes "utilization") refl,
  pair_word-differs kv (codes "operations") refl,
  pair_word-differs kv (codes "op") refl,
) refl

module _ (owner : Owner) where
  -- how many words stand before the next section word
  abbrev before : Words → ℕ
  before words = position_or_len (is_section owner) words

  own_case : (word : List ℕ) (words : Words) (section : Option SectionWord) → section_of owner word ≡ section
      → (cut_into_sections owner false words).0 ≡ take (before words) words
      → (cut_into_sections owner false (word ∷ words)).0 ≡ take (before (word ∷ words)) (word ∷ words)
  own_case word words None e h = let s : 1 + before words ≡ suc (before words) = omega arith in rw (e, s) (ap (λ ws. word ∷ ws) h)
  own_case word words (Some section) e h = rw e refl

  -- they are the words of the section that they stand in
  pub own_before : (words : Words) → (cut_into_sections owner false words).0 ≡ take (before words) words
  own_before [] = refl
  own_before (word ∷ words) = own_case word words (section_of owner word) refl (own_before words)

  rest_case : (word : List ℕ) (words : Words) (section : Option SectionWord) → section_of owner word ≡ section
      → cut_into_sections owner false (drop (before words) words) ≡ ([], (cut_into_sections owner false words).1)
      → cut_into_sections owner false (drop (before (word ∷ words)) (word ∷ words)) ≡ ([], (cut_into_sections owner false (word ∷ words)).1)
  rest_case word words None e h = let s : 1 + before words ≡ suc (before words) = omega arith in rw (e, s) h
  rest_case word words (Some section) e h = rw (e, e) refl

  -- and the words after them are the other sections
  pub rest_before : (words : Words) → cut_into_sections owner false (drop (before words) words) ≡ ([], (cut_into_sections owner false words).1)
  rest_before [] = refl
  rest_before (word ∷ words) = rest_case word words (section_of owner word) refl (rest_before words)

  -- a pair's word begins no section
  pub pair-no_section : (kv : Kv) → section_of owner (pair_word kv) ≡ None
  unfolding section_of
  pair-no_section kv = rw (pair-no_section_word kv) refl

  pub cut-pairs : (kvs : List Kv) (tail : Words) (parts : List Part) → cut_into_sections owner false tail ≡ ([], parts) → cut_into_sections owner false (pair_words kvs ++ tail) ≡ (pair_words kvs, parts)
  cut-pairs [] tail parts e = e
  cut-pairs (kv ∷ kvs) tail parts e = rw (pair-no_section kv, cut-pairs kvs tail parts e) refl
