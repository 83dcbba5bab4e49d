-- A fault in the sections of a statement that isn't a missing word stays the same, whatever words stand behind that don't say whether an operation is
-- enabled.
use Rattle.std.proofs.Common.{◌≡◌, ℕ, Bool, true, false, not, ◌&&◌, cond, eqb, List, [], ◌∷◌, ◌++◌, length, Option, Some, None, Result, Ok, Err, refl, sym, ap, ◌∙◌, subst}
use Rattle.std.specs.Prelude.{codes}
use Rattle.std.specs.List.{AllByRecursion}
use Rattle.crm_lex.specs.Names.{is}
use Rattle.faults.specs.Reading.{◌>>=◌}
use Rattle.crm_parse.specs.declared.fault.ParseCause.{ParseCause}
use Rattle.crm_parse.specs.declared.fault.ParseCause.TheVariants.{ExtraWord, Unsupported}
use Rattle.crm_parse.specs.declared.owner.Owner.{Owner}
use Rattle.crm_parse.specs.declared.owner.SectionWord.{SectionWord}
use Rattle.crm_parse.specs.declared.owner.SectionWord.TheVariants.{Attributes, Params, Meta, Utilization, Operations, Op}
use Rattle.crm_parse.specs.declared.pair.Kv.{Kv}
use Rattle.crm_parse.specs.declared.pair.Operation.{Operation}
use Rattle.crm_parse.specs.declared.place.OpName.{OpName}
use Rattle.crm_parse.specs.declared.place.Place.{Place}
use Rattle.crm_parse.specs.declared.place.Place.TheVariants as place
use Rattle.crm_parse.specs.declared.section.Sections.{Sections}
use Rattle.crm_parse.specs.FirstFaults.{LacksEnabled}
use Rattle.crm_parse.specs.Keys.{is_monitor_name, stray}
use Rattle.crm_parse.specs.Operations.{is_off, new_name, op_name, op_pairs, operation_of, says_no, with_op_pair, with_op_pairs}
use Rattle.crm_parse.specs.Pairs.{with_pair, with_pairs, with_section}
use Rattle.crm_parse.specs.Reading.{Words}
use Rattle.crm_parse.specs.Sections.{Part, cut_into_sections, may_follow, no_sections, onto, place_of, section_of, sections_at, takes_name, with_cut, with_part, with_parts, with_words}
use Rattle.crm_parse.specs.Texts.{cut_at}
use Rattle.crm_parse.proofs.Binds.{is-true}
use Rattle.crm_parse.proofs.FaultsStay.{Stays, carry, err-stays, last-stays, missing-stays, same-fault, test-stays}
use Rattle.crm_parse.proofs.PairWords.{cut_at-some}

abbrev pub Fits : Words → Type 0
Fits words = AllByRecursion LacksEnabled words

-- words that don't say whether an operation is enabled don't switch it off
abbrev off_by : Option (List ℕ × List ℕ) → Bool → Bool
off_by found rest = elim found [
  | None ↦ false
  | Some pair ↦ cond (eqb (length pair.0) 0) false (cond (is pair.0 (codes "enabled")) (says_no pair.1) rest)
]

enabled-case : (word : List ℕ) (parts : List ℕ × List ℕ) (empty enabled rest : Bool) → cut_at 61 word ≡ Some parts → LacksEnabled word
    → is parts.0 (codes "enabled") ≡ enabled → rest ≡ false → cond empty false (cond enabled (says_no parts.1) rest) ≡ false
enabled-case word parts true enabled rest c l e r = refl
enabled-case word parts false true rest c l e r =
    let whole : word ≡ parts.0 ++ 61 ∷ parts.1 = (cut_at-some 61 word parts c).whole in
    let key : parts.0 ≡ codes "enabled" = is-true parts.0 (codes "enabled") e in
    absurd (l parts.1 (whole ∙ ap (λ k. k ++ 61 ∷ parts.1) key))
enabled-case word parts false false rest c l e r = r

off-case : (word : List ℕ) (found : Option (List ℕ × List ℕ)) (rest : Bool) → cut_at 61 word ≡ found → LacksEnabled word → rest ≡ false → off_by found rest ≡ false
off-case word None rest c l r = refl
off-case word (Some parts) rest c l r = enabled-case word parts (eqb (length parts.0) 0) (is parts.0 (codes "enabled")) rest c l refl r

off-none : (words : Words) → Fits words → is_off words ≡ false
off-none [] h = refl
off-none (word ∷ words) h = off-case word (cut_at 61 word) (is_off words) refl h.0 (off-none words h.1)

off-more : (words more : Words) → Fits more → is_off (words ++ more) ≡ is_off words
off-more [] more h = off-none more h
off-more (word ∷ words) more h = ap (off_by (cut_at 61 word)) (off-more words more h)

module _ (cause : ParseCause) where
  -- the pairs of a section
  pairs-stay : (place : Place) (pairs : List Kv) (words more : Words) → Stays cause (with_pairs place pairs words) (with_pairs place pairs (words ++ more))
  pairs-stay place pairs [] more = λ e. cc
  pairs-stay place pairs (word ∷ words) more = test-stays cause (with_pair place pairs word) _ _ (λ next h. pairs-stay place next words more)

  rule-case : (place : Place) (pairs : List Kv) (word : List ℕ) (words more : Words) (rule : Bool)
      → Stays cause (cond rule (Err Unsupported) (with_pairs place pairs (word ∷ words))) (cond rule (Err Unsupported) (with_pairs place pairs (word ∷ (words ++ more))))
  rule-case place pairs word words more true = err-stays cause Unsupported
  rule-case place pairs word words more false = pairs-stay place pairs (word ∷ words) more

  section-stays : (place : Place) (pairs : List Kv) (words more : Words) → Stays cause (with_section place pairs words) (with_section place pairs (words ++ more))
  section-stays place pairs [] more = missing-stays cause (with_section place pairs more)
  section-stays place pairs (word ∷ words) more = rule-case place pairs word words more (is word (codes "rule"))

  -- the pairs of an operation
  op_pairs-stay : (ops : List Operation) (recurring : Bool) (place : Place) (pairs : List Kv) (words more : Words)
      → Stays cause (with_op_pairs ops recurring place pairs words) (with_op_pairs ops recurring place pairs (words ++ more))
  op_pairs-stay ops recurring place pairs [] more = λ e. cc
  op_pairs-stay ops recurring place pairs (word ∷ words) more =
      test-stays cause (with_op_pair ops recurring place pairs word) _ _ (λ next h. op_pairs-stay ops recurring place next words more)

  all_op_pairs-stay : (ops : List Operation) (name : OpName) (words more : Words) → Fits more → Stays cause (op_pairs ops name words) (op_pairs ops name (words ++ more))
  all_op_pairs-stay ops name [] more h = missing-stays cause (op_pairs ops name more)
  all_op_pairs-stay ops name (word ∷ words) more h =
      subst (λ (off : Bool). Stays cause (op_pairs ops name (word ∷ words)) (with_op_pairs ops (is_monitor_name name && not off) (place.Operation name) [] (word ∷ (words ++ more))))
      (sym (off-more (word ∷ words) more h))
      (op_pairs-stay ops (is_monitor_name name && not (is_off (word ∷ words))) (place.Operation name) [] (word ∷ words) more)

  operation-stays : (ops : List Operation) (words more : Words) → Fits more → Stays cause (operation_of ops words) (operation_of ops (words ++ more))
  unfolding operation_of
  operation-stays ops [] more h = missing-stays cause (operation_of ops more)
  operation-stays ops (word ∷ words) more h = test-stays cause (new_name ops word) _ _ (λ name n.
      last-stays cause (op_pairs ops (op_name name) words) (op_pairs ops (op_name name) (words ++ more)) _ (all_op_pairs-stay ops (op_name name) words more h))

  -- the words of a section
  words-stay : (place : Place) (before : Sections) (section : SectionWord) (words more : Words) → Fits more
      → Stays cause (with_words place before section words) (with_words place before section (words ++ more))
  words-stay place before Attributes words more h = last-stays cause (with_section place before.attributes words) (with_section place before.attributes (words ++ more)) _ (section-stays place before.attributes words more)
  words-stay place before Params words more h = last-stays cause (with_section place before.params words) (with_section place before.params (words ++ more)) _ (section-stays place before.params words more)
  words-stay place before Meta words more h = last-stays cause (with_section place before.meta words) (with_section place before.meta (words ++ more)) _ (section-stays place before.meta words more)
  words-stay place before Utilization words more h = last-stays cause (with_section place before.utilization words) (with_section place before.utilization (words ++ more)) _ (section-stays place before.utilization words more)
  words-stay place before Operations words more h = last-stays cause (with_section place before.operations words) (with_section place before.operations (words ++ more)) _ (section-stays place before.operations words more)
  words-stay place before Op words more h = last-stays cause (operation_of before.ops words) (operation_of before.ops (words ++ more)) _ (operation-stays before.ops words more h)

  part-case : (owner : Owner) (before : Sections) (section : SectionWord) (words more : Words) (follows : Bool) → Fits more
      → Stays cause (cond follows (with_words (place_of owner section) before section words) (Err ExtraWord))
      (cond follows (with_words (place_of owner section) before section (words ++ more)) (Err ExtraWord))
  part-case owner before section words more true h = words-stay (place_of owner section) before section words more h
  part-case owner before section words more false h = err-stays cause ExtraWord

  part-stays : (owner : Owner) (before : Sections) (section : SectionWord) (words more : Words) → Fits more
      → Stays cause (with_part owner before (section, words)) (with_part owner before (section, words ++ more))
  unfolding with_part
  part-stays owner before section words more h = part-case owner before section words more (may_follow owner before section) h

-- sections where more words stand behind: the words of the last one go on
data MoreParts : List Part → List Part → Type 0 where
  last_grows : (section : SectionWord) (words more : Words) (others : List Part) → Fits more → MoreParts ((section, words) ∷ []) ((section, words ++ more) ∷ others)
  one_stays : (part : Part) (parts grown : List Part) → MoreParts parts grown → MoreParts (part ∷ parts) (part ∷ grown)

data MoreCut : Words × List Part → Words × List Part → Type 0 where
  own_grow : (words more : Words) (others : List Part) → Fits more → MoreCut (words, []) (words ++ more, others)
  parts_grow : (words : Words) (parts grown : List Part) → MoreParts parts grown → MoreCut (words, parts) (words, grown)

onto-more : (section : Option SectionWord) (word : List ℕ) (cut grown : Words × List Part) → MoreCut cut grown → MoreCut (onto section word cut) (onto section word grown)
onto-more None word c g (own_grow words more others f) = own_grow (word ∷ words) more others f
onto-more None word c g (parts_grow words parts grown m) = parts_grow (word ∷ words) parts grown m
onto-more (Some section) word c g (own_grow words more others f) = parts_grow [] _ _ (last_grows section words more others f)
onto-more (Some section) word c g (parts_grow words parts grown m) = parts_grow [] _ _ (one_stays (section, words) parts grown m)

own-case : (section : Option SectionWord) (word : List ℕ) (cut : Words × List Part) → LacksEnabled word → Fits cut.0 → Fits (onto section word cut).0
own-case None word cut l f = (l, f)
own-case (Some section) word cut l f = tt

own-fits : (owner : Owner) (is_name : Bool) (words : Words) → Fits words → Fits (cut_into_sections owner is_name words).0
own-fits owner is_name [] h = tt
own-fits owner true (word ∷ words) h = (h.0, own-fits owner false words h.1)
own-fits owner false (word ∷ words) h = own-case (section_of owner word) word _ h.0 (own-fits owner (takes_name (section_of owner word)) words h.1)

cut-more : (owner : Owner) (is_name : Bool) (words more : Words) → Fits more → MoreCut (cut_into_sections owner is_name words) (cut_into_sections owner is_name (words ++ more))
cut-more owner is_name [] more h =
    let cut = cut_into_sections owner is_name more in
    own_grow [] cut.0 cut.1 (own-fits owner is_name more h)
cut-more owner true (word ∷ words) more h = onto-more None word _ _ (cut-more owner false words more h)
cut-more owner false (word ∷ words) more h = onto-more (section_of owner word) word _ _ (cut-more owner (takes_name (section_of owner word)) words more h)

module _ (cause : ParseCause) (owner : Owner) where
  last-case : (read again : Result Sections ParseCause) (others : List Part) → Stays cause read again
      → Stays cause (read >>= (λ more. with_parts owner more [])) (again >>= (λ more. with_parts owner more others))
  last-case (Ok x) again others s e = cc
  last-case (Err why) again others s e = carry cause again (again >>= (λ more. with_parts owner more others)) (s (same-fault why cause e)) (λ h. rw h refl)

  parts-stay : (before : Sections) (parts grown : List Part) → MoreParts parts grown → Stays cause (with_parts owner before parts) (with_parts owner before grown)
  parts-stay before ps gs (last_grows section words more others f) =
      last-case (with_part owner before (section, words)) (with_part owner before (section, words ++ more)) others (part-stays cause owner before section words more f)
  parts-stay before ps gs (one_stays part parts grown m) = test-stays cause (with_part owner before part) _ _ (λ next h. parts-stay next parts grown m)

  cut-stays : (before : Sections) (cut grown : Words × List Part) → MoreCut cut grown → Stays cause (with_cut owner before cut) (with_cut owner before grown)
  cut-stays before c g (own_grow [] more others f) e = cc
  cut-stays before c g (own_grow (word ∷ words) more others f) e = err-stays cause (stray (place_of owner Params) word) e
  cut-stays before c g (parts_grow [] parts grown m) e = parts-stay before parts grown m e
  cut-stays before c g (parts_grow (word ∷ words) parts grown m) e = err-stays cause (stray (place_of owner Params) word) e

  pub sections-stay : (words more : Words) → Fits more → Stays cause (sections_at owner words) (sections_at owner (words ++ more))
  sections-stay words more h = cut-stays no_sections _ _ (cut-more owner false words more h)
