-- Sections that are read are those that the words say.
use Rattle.std.proofs.Common.{◌≡◌, true, false, List, [], ◌∷◌, ◌++◌, Some, Ok, Err, refl, sym, ◌∙◌, subst, append_assoc, append-nil}
use Rattle.std.specs.Prelude.{codes}
use Rattle.std.specs.List.{AllByRecursion, flat_map}
use Rattle.crm_parse.specs.declared.fault.ParseCause.TheVariants.{ExtraWord}
use Rattle.crm_parse.specs.declared.owner.Owner.{Owner}
use Rattle.crm_parse.specs.declared.owner.SectionWord.{SectionWord}
use Rattle.crm_parse.specs.declared.owner.SectionWord.TheVariants.{Attributes, Params, Meta, Utilization, Operations, Op}
use Rattle.crm_parse.specs.declared.pair.Operation.{Operation}
use Rattle.crm_parse.specs.declared.place.Place.{Place}
use Rattle.crm_parse.specs.declared.section.Sections.{Sections}
use Rattle.crm_parse.specs.Keys.{stray}
use Rattle.crm_parse.specs.Operations.{operation_of}
use Rattle.crm_parse.specs.Pairs.{with_section}
use Rattle.crm_parse.specs.Reading.{Words}
use Rattle.crm_parse.specs.Sections.{Part, allows_section, cut_into_sections, may_follow, no_sections, place_of, sections_at, takes_name, with_cut, with_part, with_parts, with_words}
use Rattle.faults.specs.Reading.{◌>>=◌}
use Rattle.faults.proofs.Steps.{bind-ok}
use Rattle.crm_parse.proofs.Binds.{if-ok}
use Rattle.crm_parse.proofs.SectionPairs.{pairs_of, put}
use Rattle.crm_parse.specs.Grammar.Phrases.{PartsSay, no_part, one_part}
use Rattle.crm_parse.specs.Grammar.Parts.{EachTwo, MayStandBoth, Section, SectionSays, SectionsSay, a_section, pairs_section}
use Rattle.crm_parse.proofs.Grammar.PairsRelated.{section-said}
use Rattle.crm_parse.proofs.Grammar.SectionStates.{Stands, more-stands, stands-first, turn-said}
use Rattle.crm_parse.proofs.Grammar.SectionWords.{Allowed, cut-allowed, cut-words, part_words, placed}

-- one more section
pub record PartIsSaid (statement : Owner) (done : List Section) (words : Words) (read : Sections) : Type 0 where
  pub section : Section
  pub said : SectionSays statement words section
  pub stands : Stands statement (done ++ section ∷ []) read

-- the words of a section of pairs
pub with_words-is : (place : Place) (before : Sections) (w : SectionWord) (words : Words) → takes_name (Some w) ≡ false
    → with_words place before w words ≡ (with_section place (pairs_of w before) words >>= (λ pairs. Ok (put w pairs before)))
with_words-is place before Attributes words n = refl
with_words-is place before Params words n = refl
with_words-is place before Meta words n = refl
with_words-is place before Utilization words n = refl
with_words-is place before Operations words n = refl
with_words-is place before Op words n = cc

keys-before : (statement : Owner) (done : List Section) (before : Sections) (w : SectionWord) → Stands statement done before → allows_section statement w ≡ true
    → takes_name (Some w) ≡ false → EachTwo (MayStandBoth (place_of statement w)) (pairs_of w before)
keys-before statement done before w h a n =
    let at = placed statement w a n in
    subst (EachTwo (MayStandBoth (place_of statement w))) (sym (h.pairs w (place_of statement w) at)) (h.keys w (place_of statement w) at)

pairs-part : (statement : Owner) (done : List Section) (before : Sections) (w : SectionWord) (words : Words) (read : Sections) → Stands statement done before
    → allows_section statement w ≡ true → takes_name (Some w) ≡ false → may_follow statement before w ≡ true
    → with_words (place_of statement w) before w words ≡ Ok read → PartIsSaid statement done (part_words (w, words)) read
pairs-part statement done before w words read h a n m e =
    let p = place_of statement w in
    let (after, is_read, last) = bind-ok (with_section p (pairs_of w before) words) (λ pairs. Ok (put w pairs before)) read (sym (with_words-is p before w words n) ∙ e) in
    let got = section-said p (pairs_of w before) words after (keys-before statement done before w h a n) is_read in
    let kvs = got.are.pairs in
    let said : SectionSays statement (part_words (w, words)) (pairs_section w kvs) = a_section w p words kvs (placed statement w a n) got.are.said got.some in
    let same : put w after before ≡ read = cc in
    subst (PartIsSaid statement done (part_words (w, words))) same (record {
      section = pairs_section w kvs;
      said = said;
      stands = more-stands statement done before w after kvs h (record { words = part_words (w, words); said = said }) (turn-said statement done before w kvs h a m)
          got.are.added got.are.two;
    })

-- what an operation is read as
abbrev pub OpsAreSaid : Owner → Type 0
OpsAreSaid statement = (done : List Section) (before : Sections) (words : Words) (op : Operation) → Stands statement done before → allows_section statement Op ≡ true
    → operation_of before.ops words ≡ Ok op → PartIsSaid statement done (codes "op" ∷ words) (record before { ops = before.ops ++ op ∷ [] })

module _ (statement : Owner) (ops_said : OpsAreSaid statement) where
  op-part : (done : List Section) (before : Sections) (place : Place) (words : Words) (read : Sections) → Stands statement done before → allows_section statement Op ≡ true
      → with_words place before Op words ≡ Ok read → PartIsSaid statement done (codes "op" ∷ words) read
  op-part done before place words read h a e =
      let (op, is_op, last) = bind-ok (operation_of before.ops words) _ read e in
      let same : record before { ops = before.ops ++ op ∷ [] } ≡ read = cc in
      subst (PartIsSaid statement done (codes "op" ∷ words)) same (ops_said done before words op h a is_op)

  word-part : (done : List Section) (before : Sections) (w : SectionWord) (words : Words) (read : Sections) → Stands statement done before
      → allows_section statement w ≡ true → may_follow statement before w ≡ true → with_words (place_of statement w) before w words ≡ Ok read
      → PartIsSaid statement done (part_words (w, words)) read
  word-part done before Attributes words read h a m e = pairs-part statement done before Attributes words read h a refl m e
  word-part done before Params words read h a m e = pairs-part statement done before Params words read h a refl m e
  word-part done before Meta words read h a m e = pairs-part statement done before Meta words read h a refl m e
  word-part done before Utilization words read h a m e = pairs-part statement done before Utilization words read h a refl m e
  word-part done before Operations words read h a m e = pairs-part statement done before Operations words read h a refl m e
  word-part done before Op words read h a m e = op-part done before (place_of statement Op) words read h a e

  part-said : (done : List Section) (before : Sections) (part : Part) (read : Sections) → Stands statement done before → Allowed statement part
      → with_part statement before part ≡ Ok read → PartIsSaid statement done (part_words part) read
  unfolding with_part
  part-said done before part read h a e =
      let (read_words, turn) = if-ok (may_follow statement before part.0) (with_words (place_of statement part.0) before part.0 part.1) read ExtraWord e in
      word-part done before part.0 part.1 read h a turn read_words

  -- some more sections
  pub record PartsAreSaid (done : List Section) (words : Words) (read : Sections) : Type 0 where
    pub sections : List Section
    pub said : PartsSay (SectionSays statement) words sections
    pub stands : Stands statement (done ++ sections) read

  no_more : (done : List Section) (read : Sections) → Stands statement done read → PartsAreSaid done [] read
  no_more done read h = record { sections = []; said = no_part; stands = subst (λ ss. Stands statement ss read) (sym (append-nil done)) h }

  one_more : (done : List Section) (part words : Words) (between read : Sections) (one : PartIsSaid statement done part between)
      → PartsAreSaid (done ++ one.section ∷ []) words read → PartsAreSaid done (part ++ words) read
  one_more done part words between read one more = record {
    sections = one.section ∷ more.sections;
    said = one_part part one.section words more.sections one.said more.said;
    stands = subst (λ ss. Stands statement ss read) (append_assoc done (one.section ∷ []) more.sections) more.stands;
  }

  parts-said : (done : List Section) (before : Sections) (parts : List Part) (read : Sections) → Stands statement done before → AllByRecursion (Allowed statement) parts
      → with_parts statement before parts ≡ Ok read → PartsAreSaid done (flat_map part_words parts) read
  parts-said done before [] read h a e =
      let same : before ≡ read = cc in
      no_more done read (subst (Stands statement done) same h)
  parts-said done before (part ∷ parts) read h a e =
      let (between, one, rest) = bind-ok (with_part statement before part) _ read e in
      let got = part-said done before part between h a.0 one in
      one_more done (part_words part) (flat_map part_words parts) between read got (parts-said (done ++ got.section ∷ []) between parts read got.stands a.1 rest)

  cut-said : (front : Words) (parts : List Part) (read : Sections) → AllByRecursion (Allowed statement) parts → with_cut statement no_sections (front, parts) ≡ Ok read
      → PartsAreSaid [] (front ++ flat_map part_words parts) read
  cut-said [] parts read a e = parts-said [] no_sections parts read (stands-first statement) a e
  cut-said (word ∷ words) parts read a e = let f : Err (stray (place_of statement Params) word) ≡ Ok read = e in cc

  -- what is read as the sections of a statement
  pub record SectionsAreSaid (words : Words) (read : Sections) : Type 0 where
    pub sections : List Section
    pub say : SectionsSay statement words sections
    pub stands : Stands statement sections read

  pub sections-said : (words : Words) (read : Sections) → sections_at statement words ≡ Ok read → SectionsAreSaid words read
  sections-said words read e =
      let cut = cut_into_sections statement false words in
      let got = cut-said cut.0 cut.1 read (cut-allowed statement false words) e in
      record {
        sections = got.sections;
        say = record {
          written = subst (λ ws. PartsSay (SectionSays statement) ws got.sections) (sym (cut-words statement false words)) got.said;
          in_turn = got.stands.in_turn;
          keys = got.stands.keys;
          singles = got.stands.singles;
          monitors = got.stands.monitors;
        };
        stands = got.stands;
      }
