-- The words of sections, as they are cut.
use Rattle.std.proofs.Common.{◌≡◌, ℕ, Bool, true, false, cond, List, [], ◌∷◌, ◌++◌, Option, Some, None, refl, sym, ap, ◌∙◌, subst}
use Rattle.std.specs.Prelude.{codes}
use Rattle.std.specs.List.{AllByRecursion, flat_map}
use Rattle.crm_lex.specs.Names.{is}
use Rattle.crm_parse.specs.declared.owner.Owner.{Owner}
use Rattle.crm_parse.specs.declared.owner.Owner.TheVariants as owner
use Rattle.crm_parse.specs.declared.owner.SectionWord.{SectionWord}
use Rattle.crm_parse.specs.declared.owner.SectionWord.TheVariants.{Attributes, Params, Meta, Utilization, Operations, Op}
use Rattle.crm_parse.specs.declared.place.Place.{Place}
use Rattle.crm_parse.specs.Reading.{Words}
use Rattle.crm_parse.specs.Sections.{Part, allowed, allows_section, cut_into_sections, onto, place_of, section_of, section_word, takes_name}
use Rattle.crm_parse.proofs.Binds.{is-true}
use Rattle.crm_parse.proofs.PairWords.{some-ok}
use Rattle.crm_parse.specs.Grammar.Parts.{section_place, section_text}

-- the word of a section
word-case : (word : List ℕ) (section : SectionWord) (a p m u o x : Bool) → is word (codes "attributes") ≡ a → is word (codes "params") ≡ p → is word (codes "meta") ≡ m
    → is word (codes "utilization") ≡ u → is word (codes "operations") ≡ o → is word (codes "op") ≡ x
    → cond a (Some Attributes) (cond p (Some Params) (cond m (Some Meta) (cond u (Some Utilization) (cond o (Some Operations) (cond x (Some Op) None))))) ≡ Some section
    → word ≡ section_text section
word-case word section true p m u o x b c d e f g h = let s : Attributes ≡ section = cc in is-true word (codes "attributes") b ∙ ap section_text s
word-case word section false true m u o x b c d e f g h = let s : Params ≡ section = cc in is-true word (codes "params") c ∙ ap section_text s
word-case word section false false true u o x b c d e f g h = let s : Meta ≡ section = cc in is-true word (codes "meta") d ∙ ap section_text s
word-case word section false false false true o x b c d e f g h = let s : Utilization ≡ section = cc in is-true word (codes "utilization") e ∙ ap section_text s
word-case word section false false false false true x b c d e f g h = let s : Operations ≡ section = cc in is-true word (codes "operations") f ∙ ap section_text s
word-case word section false false false false false true b c d e f g h = let s : Op ≡ section = cc in is-true word (codes "op") g ∙ ap section_text s
word-case word section false false false false false false b c d e f g h = cc

section_word-text : (word : List ℕ) (section : SectionWord) → section_word word ≡ Some section → word ≡ section_text section
section_word-text word section e =
    word-case word section (is word (codes "attributes")) (is word (codes "params")) (is word (codes "meta")) (is word (codes "utilization")) (is word (codes "operations"))
    (is word (codes "op")) refl refl refl refl refl refl e

pub text-section_word : (section : SectionWord) → section_word (section_text section) ≡ Some section
text-section_word Attributes = refl
text-section_word Params = refl
text-section_word Meta = refl
text-section_word Utilization = refl
text-section_word Operations = refl
text-section_word Op = refl

-- two sections of one word are one
pub same-section : (one other : SectionWord) → is (section_text one) (section_text other) ≡ true → one ≡ other
same-section one other e =
    let s : Some one ≡ Some other = sym (text-section_word one) ∙ (ap section_word (is-true (section_text one) (section_text other) e) ∙ text-section_word other) in
    cc

pub record BeginsSection (statement : Owner) (word : List ℕ) (section : SectionWord) : Type 0 where
  pub text : word ≡ section_text section
  pub allows : allows_section statement section ≡ true

allowed-case : (statement : Owner) (word : List ℕ) (found : Option SectionWord) (section : SectionWord) → section_word word ≡ found → allowed statement found ≡ Some section
    → BeginsSection statement word section
allowed-case statement word None section f e = cc
allowed-case statement word (Some other) section f e =
    let (same, allows) = some-ok (allows_section statement other) other section e in
    record {
      text = section_word-text word section (f ∙ ap Some (sym same));
      allows = subst (λ s. allows_section statement s ≡ true) (sym same) allows;
    }

pub begins : (statement : Owner) (word : List ℕ) (section : SectionWord) → section_of statement word ≡ Some section → BeginsSection statement word section
unfolding section_of
begins statement word section e = allowed-case statement word (section_word word) section refl e

pub section_of-text : (statement : Owner) (section : SectionWord) → allows_section statement section ≡ true → section_of statement (section_text section) ≡ Some section
unfolding section_of
section_of-text statement section h = rw (section_of, text-section_word section, h) refl

-- the words of a part
abbrev pub part_words : Part → Words
part_words part = section_text part.0 ∷ part.1

abbrev pub whole_words : Words × List Part → Words
whole_words cut = cut.0 ++ flat_map part_words cut.1

onto-words : (word : List ℕ) (found : Option SectionWord) (cut : Words × List Part) (words : Words) → ((section : SectionWord) → found ≡ Some section → word ≡ section_text section)
    → words ≡ whole_words cut → word ∷ words ≡ whole_words (onto found word cut)
onto-words word None cut words h e = ap (λ ws. word ∷ ws) e
onto-words word (Some section) cut words h e = ap (λ w. w ∷ words) (h section refl) ∙ ap (λ ws. section_text section ∷ ws) e

-- words that are cut are joined again
pub cut-words : (statement : Owner) (is_name : Bool) (words : Words) → words ≡ whole_words (cut_into_sections statement is_name words)
cut-words statement is_name [] = refl
cut-words statement true (word ∷ words) = ap (λ ws. word ∷ ws) (cut-words statement false words)
cut-words statement false (word ∷ words) =
    onto-words word (section_of statement word) (cut_into_sections statement (takes_name (section_of statement word)) words) words
    (λ section e. (begins statement word section e).text) (cut-words statement (takes_name (section_of statement word)) words)

abbrev pub Allowed : Owner → Part → Type 0
Allowed statement part = allows_section statement part.0 ≡ true

onto-allowed : (statement : Owner) (word : List ℕ) (found : Option SectionWord) (cut : Words × List Part)
    → ((section : SectionWord) → found ≡ Some section → allows_section statement section ≡ true) → AllByRecursion (Allowed statement) cut.1
    → AllByRecursion (Allowed statement) (onto found word cut).1
onto-allowed statement word None cut h e = e
onto-allowed statement word (Some section) cut h e = (h section refl, e)

-- each part is one that the statement may have
pub cut-allowed : (statement : Owner) (is_name : Bool) (words : Words) → AllByRecursion (Allowed statement) (cut_into_sections statement is_name words).1
cut-allowed statement is_name [] = tt
cut-allowed statement true (word ∷ words) = cut-allowed statement false words
cut-allowed statement false (word ∷ words) =
    onto-allowed statement word (section_of statement word) (cut_into_sections statement (takes_name (section_of statement word)) words)
    (λ section e. (begins statement word section e).allows) (cut-allowed statement (takes_name (section_of statement word)) words)

-- the place of the pairs of a section that isn't `op`
pub placed : (statement : Owner) (section : SectionWord) → allows_section statement section ≡ true → takes_name (Some section) ≡ false
    → section_place statement section ≡ Some (place_of statement section)
placed owner.Node Attributes h n = refl
placed owner.Node Params h n = cc
placed owner.Node Meta h n = cc
placed owner.Node Utilization h n = refl
placed owner.Node Operations h n = cc
placed owner.Node Op h n = cc
placed owner.Primitive Attributes h n = cc
placed owner.Primitive Params h n = refl
placed owner.Primitive Meta h n = refl
placed owner.Primitive Utilization h n = refl
placed owner.Primitive Operations h n = refl
placed owner.Primitive Op h n = cc
placed owner.Group Attributes h n = cc
placed owner.Group Params h n = refl
placed owner.Group Meta h n = refl
placed owner.Group Utilization h n = cc
placed owner.Group Operations h n = cc
placed owner.Group Op h n = cc
placed owner.Clone Attributes h n = cc
placed owner.Clone Params h n = refl
placed owner.Clone Meta h n = refl
placed owner.Clone Utilization h n = cc
placed owner.Clone Operations h n = cc
placed owner.Clone Op h n = cc
placed owner.Ms Attributes h n = cc
placed owner.Ms Params h n = refl
placed owner.Ms Meta h n = refl
placed owner.Ms Utilization h n = cc
placed owner.Ms Operations h n = cc
placed owner.Ms Op h n = cc

pub record IsPlaced (statement : Owner) (section : SectionWord) (place : Place) : Type 0 where
  pub allows : allows_section statement section ≡ true
  pub plain : takes_name (Some section) ≡ false
  pub same : place ≡ place_of statement section

is_place : (statement : Owner) (section : SectionWord) (p : Place) → allows_section statement section ≡ true → takes_name (Some section) ≡ false
    → Some (place_of statement section) ≡ Some p → IsPlaced statement section p
is_place statement section p a n e = record { allows = a; plain = n; same = cc }

pub placed-is : (statement : Owner) (section : SectionWord) (p : Place) → section_place statement section ≡ Some p → IsPlaced statement section p
placed-is owner.Node Attributes p e = is_place owner.Node Attributes p refl refl e
placed-is owner.Node Params p e = cc
placed-is owner.Node Meta p e = cc
placed-is owner.Node Utilization p e = is_place owner.Node Utilization p refl refl e
placed-is owner.Node Operations p e = cc
placed-is owner.Node Op p e = cc
placed-is owner.Primitive Attributes p e = cc
placed-is owner.Primitive Params p e = is_place owner.Primitive Params p refl refl e
placed-is owner.Primitive Meta p e = is_place owner.Primitive Meta p refl refl e
placed-is owner.Primitive Utilization p e = is_place owner.Primitive Utilization p refl refl e
placed-is owner.Primitive Operations p e = is_place owner.Primitive Operations p refl refl e
placed-is owner.Primitive Op p e = cc
placed-is owner.Group Attributes p e = cc
placed-is owner.Group Params p e = is_place owner.Group Params p refl refl e
placed-is owner.Group Meta p e = is_place owner.Group Meta p refl refl e
placed-is owner.Group Utilization p e = cc
placed-is owner.Group Operations p e = cc
placed-is owner.Group Op p e = cc
placed-is owner.Clone Attributes p e = cc
placed-is owner.Clone Params p e = is_place owner.Clone Params p refl refl e
placed-is owner.Clone Meta p e = is_place owner.Clone Meta p refl refl e
placed-is owner.Clone Utilization p e = cc
placed-is owner.Clone Operations p e = cc
placed-is owner.Clone Op p e = cc
placed-is owner.Ms Attributes p e = cc
placed-is owner.Ms Params p e = is_place owner.Ms Params p refl refl e
placed-is owner.Ms Meta p e = is_place owner.Ms Meta p refl refl e
placed-is owner.Ms Utilization p e = cc
placed-is owner.Ms Operations p e = cc
placed-is owner.Ms Op p e = cc
