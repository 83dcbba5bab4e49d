-- Words are cut into sections from the left: more words behind them go to the last section, and then begin others.
use Rattle.std.proofs.Common.{◌≡◌, ℕ, Bool, true, false, List, [], ◌∷◌, ◌++◌, Option, Some, None, refl, ap, ◌∙◌, subst}
use Rattle.crm_parse.specs.declared.owner.Owner.{Owner}
use Rattle.crm_parse.specs.declared.owner.SectionWord.{SectionWord}
use Rattle.crm_parse.specs.declared.owner.SectionWord.TheVariants.{Op}
use Rattle.crm_parse.specs.Grammar.Parts.{section_text}
use Rattle.crm_parse.specs.Reading.{Words}
use Rattle.crm_parse.specs.Sections.{Part, cut_into_sections, onto, section_of, takes_name}
use Rattle.crm_parse.proofs.Grammar.SectionWords.{begins}

-- some words and parts, with the words and parts of more behind them
abbrev pub grown : Words → List Part → Words × List Part → Words × List Part
grown words [] behind = (words ++ behind.0, behind.1)
grown words (part ∷ parts) behind =
    let rest = grown part.1 parts behind in
    (words, (part.0, rest.0) ∷ rest.1)

grown-word : (word : List ℕ) (words : Words) (parts : List Part) (behind : Words × List Part) → onto None word (grown words parts behind) ≡ grown (word ∷ words) parts behind
grown-word word words [] behind = refl
grown-word word words (part ∷ parts) behind = refl

pub grown-last : (own : Words) (parts : List Part) (section : SectionWord) (words : Words) (behind : Words × List Part)
    → grown own (parts ++ (section, words) ∷ []) behind ≡ (own, parts ++ (section, words ++ behind.0) ∷ behind.1)
grown-last own [] section words behind = refl
grown-last own (part ∷ parts) section words behind =
    let rest = grown-last part.1 parts section words behind in
    ap (λ (cut : Words × List Part). (own, (part.0, cut.0) ∷ cut.1)) rest

module _ (statement : Owner) where
  -- whether the word behind some words is a name
  abbrev pub awaits : Bool → Words → Bool
  awaits is_name [] = is_name
  awaits true (word ∷ words) = awaits false words
  awaits false (word ∷ words) = awaits (takes_name (section_of statement word)) words

  join-case : (word : List ℕ) (found : Option SectionWord) (cut behind whole : Words × List Part) → whole ≡ grown cut.0 cut.1 behind
      → onto found word whole ≡ grown (onto found word cut).0 (onto found word cut).1 behind
  join-case word None cut behind whole e = ap (onto None word) e ∙ grown-word word cut.0 cut.1 behind
  join-case word (Some section) cut behind whole e = ap (onto (Some section) word) e

  pub cut-joined : (is_name : Bool) (words more : Words) → cut_into_sections statement is_name (words ++ more)
      ≡ grown (cut_into_sections statement is_name words).0 (cut_into_sections statement is_name words).1 (cut_into_sections statement (awaits is_name words) more)
  cut-joined is_name [] more = refl
  cut-joined true (word ∷ words) more =
      join-case word None (cut_into_sections statement false words) (cut_into_sections statement (awaits false words) more) _ (cut-joined false words more)
  cut-joined false (word ∷ words) more =
      let next = takes_name (section_of statement word) in
      join-case word (section_of statement word) (cut_into_sections statement next words) (cut_into_sections statement (awaits next words) more) _ (cut-joined next words more)

  -- the words before a section
  pub record SplitAt (is_name : Bool) (words : Words) (parts : List Part) (next : SectionWord) : Type 0 where
    pub front : Words
    pub behind : Words
    pub words_are : words ≡ front ++ section_text next ∷ behind
    pub own : (cut_into_sections statement is_name front).0 ≡ (cut_into_sections statement is_name words).0
    pub parts_are : (cut_into_sections statement is_name front).1 ≡ parts
    pub plain : awaits is_name front ≡ false
    pub begins_it : section_of statement (section_text next) ≡ Some next

  none-there : {C : Type 0} (parts : List Part) (part : Part) (rest : List Part) → (let none : List Part = [] in none) ≡ parts ++ part ∷ rest → C
  none-there [] part rest e = absurd (cc)
  none-there (p ∷ parts) part rest e = absurd (cc)

  split-case : (word : List ℕ) (words : Words) (found : Option SectionWord) → section_of statement word ≡ found → (parts : List Part) (next : SectionWord) (own : Words) (rest : List Part)
      → (onto found word (cut_into_sections statement (takes_name found) words)).1 ≡ parts ++ (next, own) ∷ rest
      → ((some : List Part) → (cut_into_sections statement (takes_name found) words).1 ≡ some ++ (next, own) ∷ rest → SplitAt (takes_name found) words some next)
      → SplitAt false (word ∷ words) parts next
  split-case word words None f parts next own rest e k =
      let s = k parts e in
      record {
        front = word ∷ s.front;
        behind = s.behind;
        words_are = ap (λ (ws : Words). word ∷ ws) s.words_are;
        own = rw f (ap (λ (ws : Words). word ∷ ws) s.own);
        parts_are = rw f s.parts_are;
        plain = rw f s.plain;
        begins_it = s.begins_it;
      }
  split-case word words (Some section) f [] next own rest e k =
      let head : (section, (cut_into_sections statement (takes_name (Some section)) words).0) ≡ (next, own) = cc in
      let same : section ≡ next = ap (λ (p : Part). p.0) head in
      let text : word ≡ section_text next = (begins statement word section f).text ∙ ap section_text same in
      record {
        front = [];
        behind = words;
        words_are = ap (λ w. w ∷ words) text;
        own = rw f refl;
        parts_are = refl;
        plain = refl;
        begins_it = subst (λ w. section_of statement w ≡ Some next) text (f ∙ ap Some same);
      }
  split-case word words (Some section) f (part ∷ parts) next own rest e k =
      let cut = cut_into_sections statement (takes_name (Some section)) words in
      let behind : cut.1 ≡ parts ++ (next, own) ∷ rest = cc in
      let head : (section, cut.0) ≡ part = cc in
      let s = k parts behind in
      record {
        front = word ∷ s.front;
        behind = s.behind;
        words_are = ap (λ (ws : Words). word ∷ ws) s.words_are;
        own = rw f refl;
        parts_are = rw f (ap (λ (ws : Words). (section, ws) ∷ (cut_into_sections statement (takes_name (Some section)) s.front).1) s.own
            ∙ (ap (λ (p : Part). p ∷ (cut_into_sections statement (takes_name (Some section)) s.front).1) head ∙ ap (λ (ps : List Part). part ∷ ps) s.parts_are));
        plain = rw f s.plain;
        begins_it = s.begins_it;
      }

  pub split-at : (is_name : Bool) (words : Words) (parts : List Part) (next : SectionWord) (own : Words) (rest : List Part)
      → (cut_into_sections statement is_name words).1 ≡ parts ++ (next, own) ∷ rest → SplitAt is_name words parts next
  split-at is_name [] parts next own rest e = none-there parts (next, own) rest e
  split-at true (word ∷ words) parts next own rest e =
      let s = split-at false words parts next own rest e in
      record {
        front = word ∷ s.front;
        behind = s.behind;
        words_are = ap (λ (ws : Words). word ∷ ws) s.words_are;
        own = ap (λ (ws : Words). word ∷ ws) s.own;
        parts_are = s.parts_are;
        plain = s.plain;
        begins_it = s.begins_it;
      }
  split-at false (word ∷ words) parts next own rest e =
      split-case word words (section_of statement word) refl parts next own rest e (λ some h. split-at (takes_name (section_of statement word)) words some next own rest h)

  -- behind an operation without its name a name is awaited
  name-first : (words : Words) (parts : List Part) → cut_into_sections statement true words ≡ ([], parts) → awaits true words ≡ true
  name-first [] parts e = refl
  name-first (word ∷ words) parts e =
      let own : word ∷ (cut_into_sections statement false words).0 ≡ [] = ap (λ (cut : Words × List Part). cut.0) e in
      absurd (cc)

  await-case : (word : List ℕ) (words : Words) (found : Option SectionWord) (parts : List Part)
      → (onto found word (cut_into_sections statement (takes_name found) words)).1 ≡ parts ++ (Op, []) ∷ []
      → ((some : List Part) → (cut_into_sections statement (takes_name found) words).1 ≡ some ++ (Op, []) ∷ [] → awaits (takes_name found) words ≡ true)
      → awaits (takes_name found) words ≡ true
  await-case word words None parts e k = k parts e
  await-case word words (Some section) [] e k =
      let cut = cut_into_sections statement (takes_name (Some section)) words in
      let head : (section, cut.0) ≡ (Op, []) = cc in
      let same : section ≡ Op = ap (λ (p : Part). p.0) head in
      let own : cut.0 ≡ [] = ap (λ (p : Part). p.1) head in
      op-case section same own
    where
      op-case : (sec : SectionWord) → sec ≡ Op → (cut_into_sections statement (takes_name (Some sec)) words).0 ≡ []
          → awaits (takes_name (Some sec)) words ≡ true
      op-case Op s o = name-first words (cut_into_sections statement true words).1 (ap (λ (ws : Words). (ws, (cut_into_sections statement true words).1)) o)
      op-case sec s o = absurd (cc)
  await-case word words (Some section) (part ∷ parts) e k =
      let behind : (cut_into_sections statement (takes_name (Some section)) words).1 ≡ parts ++ (Op, []) ∷ [] = cc in
      k parts behind

  pub awaits-name : (is_name : Bool) (words : Words) (parts : List Part) → (cut_into_sections statement is_name words).1 ≡ parts ++ (Op, []) ∷ [] → awaits is_name words ≡ true
  awaits-name is_name [] parts e = none-there parts (Op, []) [] e
  awaits-name true (word ∷ words) parts e = awaits-name false words parts e
  awaits-name false (word ∷ words) parts e =
      await-case word words (section_of statement word) parts e (λ some h. awaits-name (takes_name (section_of statement word)) words some h)
