-- How a form with sections is read that is refused for a missing word: it ends too early, or its sections lack a pair.
use Rattle.std.proofs.Common.{◌≡◌, ◌⊎◌, inl, inr, ℕ, List, [], ◌∷◌, ◌++◌, Option, Some, None, Result, Ok, Err, refl, sym, ap, ◌∙◌, subst, append_assoc}
use Rattle.std.specs.Prelude.{codes}
use Rattle.std.specs.List.{AllByRecursion}
use Rattle.faults.specs.Reading.{◌>>=◌}
use Rattle.crm_parse.specs.declared.fault.ParseCause.{ParseCause}
use Rattle.crm_parse.specs.declared.fault.ParseCause.TheVariants.{MissingWord}
use Rattle.crm_parse.specs.declared.owner.Owner.{Owner}
use Rattle.crm_parse.specs.declared.owner.SectionWord.{SectionWord}
use Rattle.crm_parse.specs.declared.section.Sections.{Sections}
use Rattle.crm_parse.specs.FirstFaults.{EndsInBareSection, LacksEnabled, MayHave, bare_operation, bare_section}
use Rattle.crm_parse.specs.Grammar.Parts.{section_text}
use Rattle.crm_parse.specs.Reading.{Words, name_at, prefixed_at}
use Rattle.crm_parse.specs.Sections.{sections_at}
use Rattle.crm_parse.specs.Texts.{after}
use Rattle.crm_parse.proofs.Binds.{name_at-again, name_at-ok}
use Rattle.crm_parse.proofs.FaultsStay.{same-fault}
use Rattle.crm_parse.proofs.GoesFurther.{GoesFurther, LacksNone, Whatever, name-missing}
use Rattle.crm_parse.proofs.SectionsGoFurther.{then-ok}
use Rattle.crm_parse.proofs.SectionsLack.{LackPair, lack_at_end, lack_within, sections-lack}

-- sections stand behind some words, and decide what a form reads
pub record ReadsSections {B : Type 0} (statement : Owner) (read : Words → Result B ParseCause) (words : Words) : Type 0 where
  pub head : Words
  pub first : List ℕ
  pub rest : Words
  pub words_are : words ≡ head ++ first ∷ rest
  pub make : Sections → B
  pub again : (behind : Words) → read (head ++ first ∷ behind) ≡ sections_at statement (first ∷ behind) >>= (λ sections. Ok (make sections))
  pub missing : sections_at statement (first ∷ rest) ≡ Err MissingWord

-- where a word is missing, the form ends too early or lacks a pair in its sections
abbrev pub Ends : {B : Type 0} → Owner → (Words → Result B ParseCause) → Words → Type 0
Ends statement read words = read words ≡ Err MissingWord → GoesFurther Whatever (λ more. read (words ++ more)) ⊎ ReadsSections statement read words

-- the same of what is read of a form
module _ {B : Type 0} (statement : Owner) where
  -- the sections stand last
  pub sections-end : (make : Sections → B) (words : Words) → Ends statement (λ ws. sections_at statement ws >>= (λ sections. Ok (make sections))) words
  sections-end make [] e = absurd (cc)
  sections-end make (word ∷ words) e = inr (record {
    head = [];
    first = word;
    rest = words;
    words_are = refl;
    make = make;
    again = λ behind. refl;
    missing = is-missing (sections_at statement (word ∷ words)) e;
  })
    where
      is-missing : (read : Result Sections ParseCause) → (read >>= (λ sections. Ok (make sections))) ≡ Err MissingWord → read ≡ Err MissingWord
      is-missing (Ok sections) e = cc
      is-missing (Err why) e = same-fault why MissingWord e

  -- a reader of some words before others: it reads the same where other words stand behind
  pub end-behind : {A : Type 0} (first : Words → Result (A × Words) ParseCause) (next : A → Words → Result B ParseCause) (head : Words) (x : A) (words : Words)
      → ((behind : Words) → first (head ++ behind) ≡ Ok (x, behind)) → Ends statement (next x) words
      → Ends statement (λ ws. first ws >>= (λ got. next got.0 got.1)) (head ++ words)
  end-behind first next head x words r k e = found (k (sym (then-ok (first (head ++ words)) (λ got. next got.0 got.1) (x, words) (r words)) ∙ e))
    where
      found : GoesFurther Whatever (λ more. next x (words ++ more)) ⊎ ReadsSections statement (next x) words
          → GoesFurther Whatever (λ more. first ((head ++ words) ++ more) >>= (λ got. next got.0 got.1)) ⊎ ReadsSections statement (λ ws. first ws >>= (λ got. next got.0 got.1)) (head ++ words)
      found (inl g) = inl (record {
        more = g.more;
        plain = g.plain;
        made = g.made;
        gives = ap (λ ws. first ws >>= (λ got. next got.0 got.1)) (append_assoc head words g.more)
            ∙ (then-ok (first (head ++ (words ++ g.more))) (λ got. next got.0 got.1) (x, words ++ g.more) (r (words ++ g.more)) ∙ g.gives);
        ends = tt;
      })
      found (inr s) = inr (record {
        head = head ++ s.head;
        first = s.first;
        rest = s.rest;
        words_are = ap (λ ws. head ++ ws) s.words_are ∙ sym (append_assoc head s.head (s.first ∷ s.rest));
        make = s.make;
        again = λ behind. ap (λ ws. first ws >>= (λ got. next got.0 got.1)) (append_assoc head s.head (s.first ∷ behind))
            ∙ (then-ok (first (head ++ (s.head ++ s.first ∷ behind))) (λ got. next got.0 got.1) (x, s.head ++ s.first ∷ behind) (r (s.head ++ s.first ∷ behind)) ∙ s.again behind);
        missing = s.missing;
      })

  -- the same where the word behind them is looked at
  pub end-before : {A : Type 0} (first : Words → Result (A × Words) ParseCause) (next : A → Words → Result B ParseCause) (head : Words) (x : A) (word : List ℕ) (words : Words)
      → ((behind : Words) → first (head ++ word ∷ behind) ≡ Ok (x, word ∷ behind)) → Ends statement (next x) (word ∷ words)
      → Ends statement (λ ws. first ws >>= (λ got. next got.0 got.1)) (head ++ word ∷ words)
  end-before first next head x word words r k e = found (k (sym (then-ok (first (head ++ word ∷ words)) (λ got. next got.0 got.1) (x, word ∷ words) (r words)) ∙ e))
    where
      same-case : (s_head : Words) (s_first : List ℕ) (rest behind : Words) → word ∷ words ≡ s_head ++ s_first ∷ rest
          → first (head ++ (s_head ++ s_first ∷ behind)) ≡ Ok (x, s_head ++ s_first ∷ behind)
      same-case [] s_first rest behind w =
          let same : word ≡ s_first = cc in
          subst (λ v. first (head ++ v ∷ behind) ≡ Ok (x, v ∷ behind)) same (r behind)
      same-case (v ∷ s_head) s_first rest behind w =
          let same : word ≡ v = cc in
          subst (λ v. first (head ++ v ∷ (s_head ++ s_first ∷ behind)) ≡ Ok (x, v ∷ (s_head ++ s_first ∷ behind))) same (r (s_head ++ s_first ∷ behind))

      found : GoesFurther Whatever (λ more. next x (word ∷ (words ++ more))) ⊎ ReadsSections statement (next x) (word ∷ words)
          → GoesFurther Whatever (λ more. first ((head ++ word ∷ words) ++ more) >>= (λ got. next got.0 got.1))
          ⊎ ReadsSections statement (λ ws. first ws >>= (λ got. next got.0 got.1)) (head ++ word ∷ words)
      found (inl g) = inl (record {
        more = g.more;
        plain = g.plain;
        made = g.made;
        gives = ap (λ ws. first ws >>= (λ got. next got.0 got.1)) (append_assoc head (word ∷ words) g.more)
            ∙ (then-ok (first (head ++ (word ∷ (words ++ g.more)))) (λ got. next got.0 got.1) (x, word ∷ (words ++ g.more)) (r (words ++ g.more)) ∙ g.gives);
        ends = tt;
      })
      found (inr s) = inr (record {
        head = head ++ s.head;
        first = s.first;
        rest = s.rest;
        words_are = ap (λ ws. head ++ ws) s.words_are ∙ sym (append_assoc head s.head (s.first ∷ s.rest));
        make = s.make;
        again = λ behind. ap (λ ws. first ws >>= (λ got. next got.0 got.1)) (append_assoc head s.head (s.first ∷ behind))
            ∙ (then-ok (first (head ++ (s.head ++ s.first ∷ behind))) (λ got. next got.0 got.1) (x, s.head ++ s.first ∷ behind) (same-case s.head s.first s.rest behind s.words_are) ∙ s.again behind);
        missing = s.missing;
      })

  -- a name, and what follows it
  pub end-name : (next : List ℕ → Words → Result B ParseCause) (words : Words) → GoesFurther Whatever (λ more. name_at more >>= (λ got. next got.0 got.1))
      → ((name : List ℕ) (rest : Words) → Ends statement (next name) rest) → Ends statement (λ ws. name_at ws >>= (λ got. next got.0 got.1)) words
  end-name next words o k e = name-case (name_at words) refl e
    where
      name-case : (read : Result (List ℕ × Words) ParseCause) → name_at words ≡ read → (read >>= (λ got. next got.0 got.1)) ≡ Err MissingWord
          → GoesFurther Whatever (λ more. name_at (words ++ more) >>= (λ got. next got.0 got.1)) ⊎ ReadsSections statement (λ ws. name_at ws >>= (λ got. next got.0 got.1)) words
      name-case (Ok (name, rest)) r e =
          let (whole, good) = name_at-ok words (name, rest) r in
          subst (λ ws. GoesFurther Whatever (λ more. name_at (ws ++ more) >>= (λ got. next got.0 got.1)) ⊎ ReadsSections statement (λ ws. name_at ws >>= (λ got. next got.0 got.1)) ws) (sym whole)
          (end-behind name_at next (name ∷ []) name rest (λ behind. name_at-again name behind good) (k name rest)
          (then-ok (name_at (name ∷ rest)) (λ got. next got.0 got.1) (name, rest) (name_at-again name rest good) ∙ e))
      name-case (Err why) r e =
          inl (subst (λ ws. GoesFurther Whatever (λ more. name_at (ws ++ more) >>= (λ got. next got.0 got.1))) (sym (name-missing words (r ∙ same-fault why MissingWord e))) o)

  -- a test that reads no word
  pub end-test : {A : Type 0} (t : Result A ParseCause) (next : A → Words → Result B ParseCause) (words : Words) → LacksNone t → ((x : A) → Ends statement (next x) words)
      → Ends statement (λ ws. t >>= (λ x. next x ws)) words
  end-test (Ok x) next words n k e = k x e
  end-test (Err why) next words n k e = absurd (n (same-fault why MissingWord e))

  -- a description, and the sections
  abbrev pub described : (Option (List ℕ) → Sections → B) → Words → Result B ParseCause
  described make words = sections_at statement (prefixed_at (codes "description=") words).1 >>= (λ sections. Ok (make (prefixed_at (codes "description=") words).0 sections))

  described-case : (make : Option (List ℕ) → Sections → B) (word : List ℕ) (words : Words) (found : Option (List ℕ)) → after (codes "description=") word ≡ found
      → Ends statement (described make) (word ∷ words)
  described-case make word words None f e =
      let plain : (behind : Words) → prefixed_at (codes "description=") (word ∷ behind) ≡ (None, word ∷ behind) = λ behind. rw f refl in
      end-before (λ ws. Ok (prefixed_at (codes "description=") ws)) (λ d ws. sections_at statement ws >>= (λ sections. Ok (make d sections))) [] None word words
      (λ behind. ap (λ (p : Option (List ℕ) × Words). Ok p) (plain behind)) (sections-end (make None) (word ∷ words)) e
  described-case make word words (Some text) f e =
      let taken : (behind : Words) → prefixed_at (codes "description=") (word ∷ behind) ≡ (Some text, behind) = λ behind. rw f refl in
      end-behind (λ ws. Ok (prefixed_at (codes "description=") ws)) (λ d ws. sections_at statement ws >>= (λ sections. Ok (make d sections))) (word ∷ []) (Some text) words
      (λ behind. ap (λ (p : Option (List ℕ) × Words). Ok p) (taken behind)) (sections-end (make (Some text)) words) e

  pub described-end : (make : Option (List ℕ) → Sections → B) (words : Words) → Ends statement (described make) words
  described-end make [] e = absurd (cc)
  described-end make (word ∷ words) e = described-case make word words (after (codes "description=") word) refl e

-- the words of a form: they end too early, or their sections lack a pair
pub data FormLacks {B : Type 0} (May : SectionWord → Type 0) (read : Words → Result B ParseCause) : Words → Type 0 where
  form_ends : (words more : Words) (made : B) → AllByRecursion LacksEnabled more → read (words ++ more) ≡ Ok made → FormLacks May read words
  form_lacks : (front : Words) (next : SectionWord) (behind more : Words) (made : B) → AllByRecursion LacksEnabled more → May next → EndsInBareSection front → read (front ++ more) ≡ Ok made
      → ((more : Words) → read (front ++ section_text next ∷ more) ≡ Err MissingWord) → FormLacks May read (front ++ section_text next ∷ behind)

-- one more word stands before
pub bare-behind : (word : List ℕ) (words : Words) → EndsInBareSection words → EndsInBareSection (word ∷ words)
bare-behind word ws (bare_section words section n) = bare_section (word ∷ words) section n
bare-behind word ws (bare_operation words name) = bare_operation (word ∷ words) name

bare-all : (head words : Words) → EndsInBareSection words → EndsInBareSection (head ++ words)
bare-all [] words b = b
bare-all (word ∷ head) words b = bare-behind word (head ++ words) (bare-all head words b)

bare-some : (words : Words) → EndsInBareSection words → words ≡ [] → ⊥
bare-some ws (bare_section [] section n) e = cc
bare-some ws (bare_section (word ∷ words) section n) e = cc
bare-some ws (bare_operation [] name) e = cc
bare-some ws (bare_operation (word ∷ words) name) e = cc

module _ {B : Type 0} (statement : Owner) (read : Words → Result B ParseCause) where
  -- what is read behind the head of a form
  abbrev ReadBehind : Words → List ℕ → (Sections → B) → Type 0
  ReadBehind head first make = (behind : Words) → read (head ++ first ∷ behind) ≡ sections_at statement (first ∷ behind) >>= (λ sections. Ok (make sections))

  read-behind : (head : Words) (first : List ℕ) (make : Sections → B) (words : Words) (made : Sections) → ReadBehind head first make
      → sections_at statement (first ∷ words) ≡ Ok made → read (head ++ first ∷ words) ≡ Ok (make made)
  read-behind head first make words made a e = a words ∙ then-ok (sections_at statement (first ∷ words)) _ made e

  within-case : (head : Words) (first : List ℕ) (make : Sections → B) (rest front : Words) (next : SectionWord) (behind more : Words) (made : Sections) → AllByRecursion LacksEnabled more → ReadBehind head first make
      → front ++ section_text next ∷ behind ≡ first ∷ rest → MayHave statement next → EndsInBareSection front → sections_at statement (front ++ more) ≡ Ok made
      → ((more : Words) → sections_at statement (front ++ section_text next ∷ more) ≡ Err MissingWord) → FormLacks (MayHave statement) read (head ++ (front ++ section_text next ∷ behind))
  within-case head first make rest [] next behind more made l a w may bare e closed = absurd (bare-some [] bare refl)
  within-case head first make rest (v ∷ front) next behind more made l a w may bare e closed =
      let same : v ≡ first = cc in
      let at : ReadBehind head v make = subst (λ u. ReadBehind head u make) (sym same) a in
      subst (FormLacks (MayHave statement) read) (append_assoc head (v ∷ front) (section_text next ∷ behind))
      (form_lacks (head ++ v ∷ front) next behind more (make made) l may (bare-all head (v ∷ front) bare)
      (ap read (append_assoc head (v ∷ front) more) ∙ read-behind head v make (front ++ more) made at e)
      (λ more. ap read (append_assoc head (v ∷ front) (section_text next ∷ more)) ∙ (at (front ++ section_text next ∷ more) ∙ rw (closed more) refl)))

  lack-case : (head : Words) (first : List ℕ) (make : Sections → B) (whole rest : Words) → ReadBehind head first make → whole ≡ first ∷ rest → LackPair statement whole
      → FormLacks (MayHave statement) read (head ++ whole)
  lack-case head first make whole rest a w (lack_at_end words more made l e) =
      form_ends (head ++ words) more (make made) l (ap read (append_assoc head words more)
      ∙ (ap (λ (ws : Words). read (head ++ (ws ++ more))) w ∙ read-behind head first make (rest ++ more) made a (subst (λ ws. sections_at statement (ws ++ more) ≡ Ok made) w e)))
  lack-case head first make whole rest a w (lack_within front next behind more made l may bare e closed) =
      within-case head first make rest front next behind more made l a w may bare e closed

  form-case : (words : Words) → GoesFurther Whatever (λ more. read (words ++ more)) ⊎ ReadsSections statement read words → FormLacks (MayHave statement) read words
  form-case words (inl g) = form_ends words g.more g.made g.plain g.gives
  form-case words (inr s) = subst (FormLacks (MayHave statement) read) (sym s.words_are) (lack-case s.head s.first s.make (s.first ∷ s.rest) s.rest s.again refl (sections-lack statement (s.first ∷ s.rest) s.missing))

  pub form-lacks : (words : Words) → Ends statement read words → read words ≡ Err MissingWord → FormLacks (MayHave statement) read words
  form-lacks words k e = form-case words (k e)
