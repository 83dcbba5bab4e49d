-- Sections that the words say are read as those.
use Rattle.std.proofs.Common.{arith, ◌≡◌, ◌≢◌, ◌<◌, zero, suc, length, slice_index_or, ℕ, true, false, List, [], ◌∷◌, ◌++◌, map, Some, Ok, refl, sym, ap, ◌∙◌, subst, append_assoc, append-nil}
use Rattle.std.specs.Prelude.{codes}
use Rattle.std.specs.List.{AllByRecursion}
use Rattle.std.proofs.lemmas.Grind.{flat_map-append}
use Rattle.std.proofs.lemmas.List.{length-append}
use Rattle.crm_parse.specs.declared.owner.Owner.{Owner}
use Rattle.crm_parse.specs.declared.owner.SectionWord.{SectionWord}
use Rattle.crm_parse.specs.declared.owner.SectionWord.TheVariants.{Attributes, Params, Meta, Utilization, Operations, Op}
use Rattle.crm_parse.specs.declared.pair.Kv.{Kv}
use Rattle.crm_parse.specs.declared.pair.Operation.{Operation}
use Rattle.crm_parse.specs.declared.place.Place.{Place}
use Rattle.crm_parse.specs.declared.section.Sections.{Sections}
use Rattle.crm_parse.specs.Monitors.{MayStandTogether, recurring, recurring_in}
use Rattle.crm_parse.specs.Pairs.{with_section}
use Rattle.crm_parse.specs.Reading.{Words}
use Rattle.crm_parse.specs.Sections.{Part, allows_section, cut_into_sections, no_sections, place_of, sections_at, takes_name, with_part, with_parts, with_words}
use Rattle.crm_parse.proofs.OperationWords.{op_words}
use Rattle.crm_parse.proofs.PairLists.{pair_words}
use Rattle.crm_parse.proofs.Cuts.{cut-pairs}
use Rattle.crm_parse.proofs.SectionPairs.{pairs_of, put}
use Rattle.crm_parse.specs.Grammar.Phrases.{EachSays, PartsSay, no_part, one_part}
use Rattle.crm_parse.specs.Grammar.Parts.{EachTwo, MayBothBeWritten, MayFollow, MayStandBoth, PairSays, Section, SectionSays, SectionsSay, a_section, an_operation, operation, operation_if, operations_in, pairs_if, pairs_in, pairs_section, section_place, section_text}
use Rattle.crm_parse.proofs.Grammar.PairsRelated.{pairs-spelled, section-read, two-front, two-middle}
use Rattle.crm_parse.proofs.Grammar.SectionStates.{Stands, Stood, more-stands, next-pairs, stands-first, turn-read}
use Rattle.crm_parse.proofs.Grammar.SectionWords.{placed-is, section_of-text}
use Rattle.crm_parse.proofs.Grammar.SectionsAreSaid.{with_words-is}

-- the part that a section is cut into
abbrev pub part_of : Section → Part
part_of (pairs_section w kvs) = (w, pair_words kvs)
part_of (operation op) = (Op, op_words op)

put-same : (w : SectionWord) (kvs : List Kv) (s : Sections) → takes_name (Some w) ≡ false → pairs_of w (put w kvs s) ≡ kvs
put-same Attributes kvs s n = refl
put-same Params kvs s n = refl
put-same Meta kvs s n = refl
put-same Utilization kvs s n = refl
put-same Operations kvs s n = refl
put-same Op kvs s n = cc

above-front : (xs ys : List ℕ) → AllByRecursion (λ x. 0 < x) (xs ++ ys) → AllByRecursion (λ x. 0 < x) xs
above-front [] ys h = tt
above-front (x ∷ xs) ys h = (h.0, above-front xs ys h.1)

pub in-front : (xs ys : List ℕ) (i d : ℕ) → i < length xs → slice_index_or (xs ++ ys) i d ≡ slice_index_or xs i d
in-front [] ys i d l = absurd (let f : ⊥ = omega (arith, l) in f)
in-front (x ∷ xs) ys zero d l = refl
in-front (x ∷ xs) ys (suc i) d l = in-front xs ys i d (omega (arith, l))

-- the first of few are few
few-front : (xs ys : List ℕ) → MayStandTogether (xs ++ ys) → MayStandTogether xs
few-front xs ys h = record {
  few = omega (arith, length-append xs ys, h.few);
  above = above-front xs ys h.above;
  apart = λ i j d l within same. h.apart i j d l (omega (arith, length-append xs ys, within))
      (in-front xs ys i d (omega (arith, l, within)) ∙ (same ∙ sym (in-front xs ys j d within)));
}

module _ (statement : Owner) where
  cut-section : (part : Words) (s : Section) (words : Words) (parts : List Part) → SectionSays statement part s → cut_into_sections statement false words ≡ ([], parts)
      → cut_into_sections statement false (part ++ words) ≡ ([], part_of s ∷ parts)
  cut-section p s words parts (a_section w place ws kvs at each some) e =
      let is_at = placed-is statement w place at in
      rw (pairs-spelled place ws kvs each, section_of-text statement w is_at.allows, is_at.plain, cut-pairs statement kvs words parts e) refl
  cut-section p s words parts (an_operation name ws kvs prim named no_rule each some two) e =
      let allows : allows_section statement Op ≡ true = subst (λ o. allows_section o Op ≡ true) (sym prim) refl in
      rw (section_of-text statement Op allows, pairs-spelled _ ws kvs each, cut-pairs statement kvs words parts e) refl

  -- what the words say is cut so
  pub cut-read : (words : Words) (sections : List Section) → PartsSay (SectionSays statement) words sections
      → cut_into_sections statement false words ≡ ([], map part_of sections)
  cut-read ws ss no_part = refl
  cut-read ws ss (one_part part s words sections said more) = cut-section part s words (map part_of sections) said (cut-read words sections more)

  pub all-stand : (words : Words) (sections : List Section) → PartsSay (SectionSays statement) words sections → AllByRecursion (Stood statement) sections
  all-stand ws ss no_part = tt
  all-stand ws ss (one_part part s words sections said more) = (record { words = part; said = said }, all-stand words sections more)

  -- sections that may stand beside each other
  pub record Fits (sections : List Section) : Type 0 where
    pub in_turn : EachTwo (MayFollow statement) sections
    pub keys : (section : SectionWord) (place : Place) → section_place statement section ≡ Some place → EachTwo (MayStandBoth place) (pairs_in section sections)
    pub singles : EachTwo MayBothBeWritten (operations_in sections)
    pub monitors : MayStandTogether (recurring (operations_in sections))

  fits-front : (one more : List Section) → Fits (one ++ more) → Fits one
  fits-front one more h = record {
    in_turn = two-front (MayFollow statement) one more h.in_turn;
    keys = λ w place e. two-front (MayStandBoth place) (pairs_in w one) (pairs_in w more)
        (subst (EachTwo (MayStandBoth place)) (flat_map-append (pairs_if w) one more) (h.keys w place e));
    singles = two-front MayBothBeWritten (operations_in one) (operations_in more) (subst (EachTwo MayBothBeWritten) (flat_map-append operation_if one more) h.singles);
    monitors = few-front (recurring (operations_in one)) (recurring (operations_in more))
        (subst MayStandTogether (ap recurring (flat_map-append operation_if one more) ∙ flat_map-append recurring_in (operations_in one) (operations_in more)) h.monitors);
  }

  pub record PartIsRead (done : List Section) (before : Sections) (s : Section) : Type 0 where
    pub after : Sections
    pub read : with_part statement before (part_of s) ≡ Ok after
    pub stands : Stands statement (done ++ s ∷ []) after

  pairs-part : (done : List Section) (before : Sections) (w : SectionWord) (place : Place) (ws : Words) (kvs : List Kv) → Stands statement done before
      → section_place statement w ≡ Some place → EachSays (PairSays place) ws kvs → kvs ≢ [] → Stood statement (pairs_section w kvs)
      → Fits (done ++ pairs_section w kvs ∷ []) → PartIsRead done before (pairs_section w kvs)
  unfolding with_part
  pairs-part done before w place ws kvs h at each some stood fits =
      let is_at = placed-is statement w place at in
      let after = pairs_of w before ++ kvs in
      let turn = two-middle (MayFollow statement) done (pairs_section w kvs) [] fits.in_turn in
      let whole : after ≡ pairs_in w (done ++ pairs_section w kvs ∷ []) =
      sym (put-same w after before is_at.plain) ∙ next-pairs w w done before after kvs is_at.plain refl (h.pairs w place at) in
      let two : EachTwo (MayStandBoth place) after = subst (EachTwo (MayStandBoth place)) (sym whole) (fits.keys w place at) in
      let spelled : EachSays (PairSays place) (pair_words kvs) kvs = subst (λ v. EachSays (PairSays place) v kvs) (pairs-spelled place ws kvs each) each in
      let section : with_section (place_of statement w) (pairs_of w before) (pair_words kvs) ≡ Ok after =
      subst (λ p. with_section p (pairs_of w before) (pair_words kvs) ≡ Ok after) is_at.same (section-read place (pairs_of w before) (pair_words kvs) kvs spelled some two) in
      let words : with_words (place_of statement w) before w (pair_words kvs) ≡ Ok (put w after before) =
      with_words-is (place_of statement w) before w (pair_words kvs) is_at.plain ∙ rw section refl in
      record {
        after = put w after before;
        read = rw (turn-read statement done before w kvs h is_at.allows turn) words;
        stands = more-stands statement done before w after kvs h stood turn refl (subst (λ p. EachTwo (MayStandBoth p) after) is_at.same two);
      }

  -- what an operation that is said is read as
  abbrev pub OpsAreRead : Type 0
  OpsAreRead = (done : List Section) (before : Sections) (words : Words) (op : Operation) → Stands statement done before → SectionSays statement words (operation op)
      → Fits (done ++ operation op ∷ []) → PartIsRead done before (operation op)

  module _ (ops_read : OpsAreRead) where
    part-read : (done : List Section) (before : Sections) (words : Words) (s : Section) → Stands statement done before → SectionSays statement words s
        → Fits (done ++ s ∷ []) → PartIsRead done before s
    part-read done before p s h (a_section w place ws kvs at each some) fits =
        pairs-part done before w place ws kvs h at each some (record { words = section_text w ∷ ws; said = a_section w place ws kvs at each some }) fits
    part-read done before p s h (an_operation name ws kvs prim named no_rule each some two) fits =
        ops_read done before (codes "op" ∷ name ∷ ws) (record { name = name; pairs = kvs }) h (an_operation name ws kvs prim named no_rule each some two) fits

    pub record PartsAreRead (done : List Section) (before : Sections) (sections : List Section) : Type 0 where
      pub after : Sections
      pub read : with_parts statement before (map part_of sections) ≡ Ok after
      pub stands : Stands statement (done ++ sections) after

    parts-read : (done : List Section) (before : Sections) (sections : List Section) → Stands statement done before → AllByRecursion (Stood statement) sections
        → Fits (done ++ sections) → PartsAreRead done before sections
    parts-read done before [] h all fits = record { after = before; read = refl; stands = subst (λ ss. Stands statement ss before) (sym (append-nil done)) h }
    parts-read done before (s ∷ rest) h all fits =
        let split : (done ++ s ∷ []) ++ rest ≡ done ++ s ∷ rest = append_assoc done (s ∷ []) rest in
        let wide = subst Fits (sym split) fits in
        let one = part-read done before all.0.words s h all.0.said (fits-front (done ++ s ∷ []) rest wide) in
        let more = parts-read (done ++ s ∷ []) one.after rest one.stands all.1 wide in
        record {
          after = more.after;
          read = rw one.read more.read;
          stands = subst (λ ss. Stands statement ss more.after) split more.stands;
        }

    -- what the words say is read as the sections of a statement
    pub record SectionsAreRead (words : Words) (sections : List Section) : Type 0 where
      pub after : Sections
      pub read : sections_at statement words ≡ Ok after
      pub stands : Stands statement sections after

    pub sections-read : (words : Words) (sections : List Section) → SectionsSay statement words sections → SectionsAreRead words sections
    sections-read words sections h =
        let fits : Fits sections = record { in_turn = h.in_turn; keys = h.keys; singles = h.singles; monitors = h.monitors } in
        let got = parts-read [] no_sections sections (stands-first statement) (all-stand words sections h.written) fits in
        record { after = got.after; read = rw (cut-read words sections h.written) got.read; stands = got.stands }
