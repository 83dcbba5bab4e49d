-- Sections that are refused for a missing word lack a pair at their end, or before another section word.
use Rattle.std.proofs.Common.{◌≡◌, true, false, List, [], ◌∷◌, ◌++◌, Some, Result, Ok, Err, refl, sym, ap, ◌∙◌, subst, append_assoc}
use Rattle.std.specs.List.{AllByRecursion, flat_map}
use Rattle.std.proofs.lemmas.Grind.{flat_map-append}
use Rattle.std.proofs.lemmas.List.{append-nil}
use Rattle.faults.specs.Reading.{◌>>=◌}
use Rattle.crm_parse.specs.declared.fault.ParseCause.{ParseCause}
use Rattle.crm_parse.specs.declared.fault.ParseCause.TheVariants.{MissingWord}
use Rattle.crm_parse.specs.declared.owner.Owner.{Owner}
use Rattle.crm_parse.specs.declared.owner.Owner.TheVariants as owner
use Rattle.crm_parse.specs.declared.owner.SectionWord.{SectionWord}
use Rattle.crm_parse.specs.declared.owner.SectionWord.TheVariants.{Attributes, Params, Meta, Utilization, Operations, Op}
use Rattle.crm_parse.specs.declared.section.Sections.{Sections}
use Rattle.crm_parse.specs.FirstFaults.{EndsInBareSection, LacksEnabled, MayHave, bare_operation, bare_section, may_have_operations, may_have_pairs}
use Rattle.crm_parse.specs.Grammar.Parts.{section_text}
use Rattle.crm_parse.specs.Reading.{Words}
use Rattle.crm_parse.specs.Sections.{Part, allows_section, cut_into_sections, no_sections, place_of, sections_at, takes_name, with_cut, with_part, with_parts}
use Rattle.crm_parse.proofs.CausesKept.{none-stray}
use Rattle.crm_parse.proofs.CutFurther.{awaits, awaits-name, cut-joined, grown, grown-last, split-at}
use Rattle.crm_parse.proofs.FaultsStay.{same-fault}
use Rattle.crm_parse.proofs.Grammar.SectionWords.{begins, cut-words, part_words, placed, whole_words}
use Rattle.crm_parse.proofs.SectionsGoFurther.{BareWords, Filled, no_operation, no_pair, no_pair_of_it, part-filled, then-ok}

-- a section that is allowed is one that the statement may have
may-have-op : (statement : Owner) → allows_section statement Op ≡ true → statement ≡ owner.Primitive
may-have-op owner.Node a = absurd (cc)
may-have-op owner.Primitive a = refl
may-have-op owner.Group a = absurd (cc)
may-have-op owner.Clone a = absurd (cc)
may-have-op owner.Ms a = absurd (cc)

may-have : (statement : Owner) (section : SectionWord) → allows_section statement section ≡ true → MayHave statement section
may-have statement Attributes a = may_have_pairs Attributes (place_of statement Attributes) (placed statement Attributes a refl)
may-have statement Params a = may_have_pairs Params (place_of statement Params) (placed statement Params a refl)
may-have statement Meta a = may_have_pairs Meta (place_of statement Meta) (placed statement Meta a refl)
may-have statement Utilization a = may_have_pairs Utilization (place_of statement Utilization) (placed statement Utilization a refl)
may-have statement Operations a = may_have_pairs Operations (place_of statement Operations) (placed statement Operations a refl)
may-have statement Op a = may_have_operations (may-have-op statement a)

module _ (statement : Owner) where
  -- the first part without a pair
  record BarePart (before : Sections) (parts : List Part) : Type 0 where
    front : List Part
    section : SectionWord
    words : Words
    rest : List Part
    state : Sections
    parts_are : parts ≡ front ++ (section, words) ∷ rest
    done : with_parts statement before front ≡ Ok state
    missing : with_part statement state (section, words) ≡ Err MissingWord

  part-case : (before : Sections) (section : SectionWord) (words : Words) (parts : List Part) (read : Result Sections ParseCause) → with_part statement before (section, words) ≡ read
      → (read >>= (λ more. with_parts statement more parts)) ≡ Err MissingWord
      → ((more : Sections) → with_parts statement more parts ≡ Err MissingWord → BarePart more parts) → BarePart before ((section, words) ∷ parts)
  part-case before section words parts (Ok more) r e k =
      let b = k more e in
      record {
        front = (section, words) ∷ b.front;
        section = b.section;
        words = b.words;
        rest = b.rest;
        state = b.state;
        parts_are = ap (λ (ps : List Part). (section, words) ∷ ps) b.parts_are;
        done = then-ok (with_part statement before (section, words)) _ more r ∙ b.done;
        missing = b.missing;
      }
  part-case before section words parts (Err why) r e k = record {
    front = [];
    section = section;
    words = words;
    rest = parts;
    state = before;
    parts_are = refl;
    done = refl;
    missing = r ∙ same-fault why MissingWord e;
  }

  parts-missing : (before : Sections) (parts : List Part) → with_parts statement before parts ≡ Err MissingWord → BarePart before parts
  parts-missing before [] e = absurd (cc)
  parts-missing before ((section, words) ∷ parts) e =
      part-case before section words parts (with_part statement before (section, words)) refl e (λ more h. parts-missing more parts h)

  parts-joined : (before state : Sections) (parts more : List Part) → with_parts statement before parts ≡ Ok state
      → with_parts statement before (parts ++ more) ≡ with_parts statement state more
  parts-joined before state [] more e = let same : before ≡ state = cc in ap (λ s. with_parts statement s more) same
  parts-joined before state (part ∷ parts) more e = join-case (with_part statement before part) refl e (λ next h. parts-joined next state parts more h)
    where
      join-case : (read : Result Sections ParseCause) → with_part statement before part ≡ read → (read >>= (λ next. with_parts statement next parts)) ≡ Ok state
          → ((next : Sections) → with_parts statement next parts ≡ Ok state → with_parts statement next (parts ++ more) ≡ with_parts statement state more)
          → (with_part statement before part >>= (λ next. with_parts statement next (parts ++ more))) ≡ with_parts statement state more
      join-case (Ok next) r h k = then-ok (with_part statement before part) _ next r ∙ k next h
      join-case (Err why) r h k = absurd (cc)

  -- words that are cut so that a part without a pair stands last
  record EndsBare (front : Words) (section : SectionWord) (words : Words) (state : Sections) : Type 0 where
    parts : List Part
    cut : cut_into_sections statement false front ≡ ([], parts ++ (section, words) ∷ [])
    done : with_parts statement no_sections parts ≡ Ok state

  -- with its pair they are read
  filled-read : (front : Words) (section : SectionWord) (words : Words) (state : Sections) → EndsBare front section words state
      → (f : Filled statement section words (λ ws. with_part statement state (section, ws))) → sections_at statement (front ++ f.fill) ≡ Ok f.made
  filled-read front section words state b f =
      let fill = f.plain (awaits statement false front) in
      let joined = cut-joined statement false front f.fill in
      let whole = joined ∙ (ap (λ (c : Words × List Part). grown (cut_into_sections statement false front).0 (cut_into_sections statement false front).1 c) fill
      ∙ (ap (λ (c : Words × List Part). grown c.0 c.1 (f.fill, [])) b.cut ∙ grown-last [] b.parts section words (f.fill, []))) in
      ap (with_cut statement no_sections) whole ∙ (parts-joined no_sections state b.parts ((section, words ++ f.fill) ∷ []) b.done
      ∙ then-ok (with_part statement state (section, words ++ f.fill)) _ f.made f.gives)

  -- and with another section word they stay refused
  closed-read : (front : Words) (section : SectionWord) (words : Words) (state : Sections) (next : SectionWord) (behind : Words) → EndsBare front section words state
      → with_part statement state (section, words) ≡ Err MissingWord → (own : Words) (rest : List Part)
      → cut_into_sections statement (awaits statement false front) (section_text next ∷ behind) ≡ ([], (next, own) ∷ rest)
      → sections_at statement (front ++ section_text next ∷ behind) ≡ Err MissingWord
  closed-read front section words state next behind b m own rest c =
      let joined = cut-joined statement false front (section_text next ∷ behind) in
      let whole = joined ∙ (ap (λ (d : Words × List Part). grown (cut_into_sections statement false front).0 (cut_into_sections statement false front).1 d) c
      ∙ (ap (λ (d : Words × List Part). grown d.0 d.1 ([], (next, own) ∷ rest)) b.cut ∙ grown-last [] b.parts section words ([], (next, own) ∷ rest))) in
      let plain : words ++ [] ≡ words = append-nil words in
      ap (with_cut statement no_sections) whole ∙ (parts-joined no_sections state b.parts ((section, words ++ []) ∷ (next, own) ∷ rest) b.done
      ∙ subst (λ ws. (with_part statement state (section, ws) >>= (λ more. with_parts statement more ((next, own) ∷ rest))) ≡ Err MissingWord) (sym plain) (rw m refl))

  bare-case : (front before : Words) (section : SectionWord) (words : Words) → BareWords section words → front ≡ before ++ section_text section ∷ words
      → (section ≡ Op → words ≡ [] → ⊥) → EndsInBareSection front
  bare-case front before s ws (no_pair section other) e n = subst EndsInBareSection (sym e) (bare_section before section other)
  bare-case front before s ws no_operation e n = absurd (n refl refl)
  bare-case front before s ws (no_pair_of_it name) e n = subst EndsInBareSection (sym e) (bare_operation before name)

  ends-bare : (front : Words) (section : SectionWord) (words : Words) (state : Sections) → EndsBare front section words state → BareWords section words
      → awaits statement false front ≡ false → EndsInBareSection front
  ends-bare front section words state b w a =
      let whole = cut-words statement false front in
      let cut = ap whole_words b.cut in
      let parts = flat_map-append part_words b.parts ((section, words) ∷ []) in
      let last : flat_map part_words ((section, words) ∷ []) ≡ section_text section ∷ words = append-nil (section_text section ∷ words) in
      bare-case front (flat_map part_words b.parts) section words w (whole ∙ (cut ∙ (parts ∙ ap (λ ws. flat_map part_words b.parts ++ ws) last)))
      (λ s n. let is_op : (cut_into_sections statement false front).1 ≡ b.parts ++ (Op, []) ∷ [] =
      ap (λ (c : Words × List Part). c.1) b.cut ∙ (ap (λ x. b.parts ++ (x, words) ∷ []) s ∙ ap (λ ws. b.parts ++ (Op, ws) ∷ []) n) in
      let awaited = awaits-name statement false front b.parts is_op in
      let no : false ≡ true = sym a ∙ awaited in cc)

  -- sections that lack a pair
  pub data LackPair : Words → Type 0 where
    lack_at_end : (words more : Words) (made : Sections) → AllByRecursion LacksEnabled more → sections_at statement (words ++ more) ≡ Ok made → LackPair words
    lack_within : (front : Words) (next : SectionWord) (behind more : Words) (made : Sections) → AllByRecursion LacksEnabled more → MayHave statement next → EndsInBareSection front → sections_at statement (front ++ more) ≡ Ok made
        → ((more : Words) → sections_at statement (front ++ section_text next ∷ more) ≡ Err MissingWord) → LackPair (front ++ section_text next ∷ behind)

  rest-case : (words : Words) (parts front : List Part) (section : SectionWord) (own : Words) (rest : List Part) (state : Sections) → cut_into_sections statement false words ≡ ([], parts)
      → parts ≡ front ++ (section, own) ∷ rest → with_parts statement no_sections front ≡ Ok state → with_part statement state (section, own) ≡ Err MissingWord → LackPair words
  rest-case words parts front section own [] state c p d m =
      let f = part-filled statement state section own m in
      let b : EndsBare words section own state = record { parts = front; cut = c ∙ ap (λ (ps : List Part). ([], ps)) p; done = d } in
      lack_at_end words f.fill f.made f.other (filled-read words section own state b f)
  rest-case words parts front section own ((next, mine) ∷ rest) state c p d m =
      let f = part-filled statement state section own m in
      let longer : (cut_into_sections statement false words).1 ≡ (front ++ (section, own) ∷ []) ++ (next, mine) ∷ rest =
      ap (λ (cut : Words × List Part). cut.1) c ∙ (p ∙ sym (append_assoc front ((section, own) ∷ []) ((next, mine) ∷ rest))) in
      let s = split-at statement false words (front ++ (section, own) ∷ []) next mine rest longer in
      let none : (cut_into_sections statement false s.front).0 ≡ [] = s.own ∙ ap (λ (cut : Words × List Part). cut.0) c in
      let cut : cut_into_sections statement false s.front ≡ ([], front ++ (section, own) ∷ []) =
      ap (λ ws. (ws, (cut_into_sections statement false s.front).1)) none ∙ ap (λ ps. ([], ps)) s.parts_are in
      let b : EndsBare s.front section own state = record { parts = front; cut = cut; done = d } in
      subst LackPair (sym s.words_are) (lack_within s.front next s.behind f.fill f.made f.other (may-have statement next (begins statement (section_text next) next s.begins_it).allows) (ends-bare s.front section own state b f.bare s.plain) (filled-read s.front section own state b f)
      (λ more. let behind = cut_into_sections statement (takes_name (Some next)) more in
      closed-read s.front section own state next more b m behind.0 behind.1 (rw (s.plain, s.begins_it) refl)))

  cut-case : (words : Words) (cut : Words × List Part) → cut_into_sections statement false words ≡ cut → with_cut statement no_sections cut ≡ Err MissingWord → LackPair words
  cut-case words ([], parts) c e =
      let b = parts-missing no_sections parts e in
      rest-case words parts b.front b.section b.words b.rest b.state c b.parts_are b.done b.missing
  cut-case words (word ∷ own, parts) c e = absurd (none-stray (place_of statement Params) word e)

  pub sections-lack : (words : Words) → sections_at statement words ≡ Err MissingWord → LackPair words
  sections-lack words e = cut-case words (cut_into_sections statement false words) refl e
