-- A line that is refused for another cause than a missing word has a first faulty word.
use Rattle.std.proofs.Common.{◌≡◌, ◌≢◌, ◌⊎◌, inl, inr, ℕ, List, [], ◌∷◌, ◌++◌, Result, Ok, Err, refl, sym, ap, ◌∙◌, subst, append_assoc}
use Rattle.std.specs.List.{AllByRecursion}
use Rattle.crm_parse.specs.declared.draft.Draft.{Draft}
use Rattle.crm_parse.specs.declared.draft.DraftStatement.{DraftStatement}
use Rattle.crm_parse.specs.declared.fault.ParseCause.{ParseCause}
use Rattle.crm_parse.specs.declared.fault.ParseCause.TheVariants.{UnknownStatement, Unsupported, BadScore, BadTime, BadValue, MissingWord, ExtraWord, RepeatedKey}
use Rattle.crm_parse.specs.FirstFaults.{BeginsLine, FirstFault, LacksEnabled}
use Rattle.crm_parse.specs.Reading.{Words}
use Rattle.crm_parse.specs.Statements.{draft_of}
use Rattle.crm_parse.specs.Grammar.Lines.{LineSays}
use Rattle.crm_parse.proofs.Grammar.LineRelated.{no-statement, none-said}
use Rattle.crm_parse.proofs.LinesStay.{line-stays}
use Rattle.crm_parse.proofs.LinesLack.{begins-itself, begins-unless, nothing-begins}

either-missing : (cause : ParseCause) → (cause ≡ MissingWord) ⊎ (cause ≢ MissingWord)
either-missing UnknownStatement = inr (λ e. cc)
either-missing Unsupported = inr (λ e. cc)
either-missing BadScore = inr (λ e. cc)
either-missing BadTime = inr (λ e. cc)
either-missing BadValue = inr (λ e. cc)
either-missing MissingWord = inl refl
either-missing ExtraWord = inr (λ e. cc)
either-missing RepeatedKey = inr (λ e. cc)

not-missing : {A : Type 0} (cause : ParseCause) → cause ≢ MissingWord → (cause ≡ MissingWord) ⊎ A → A
not-missing cause n (inl m) = absurd (n m)
not-missing cause n (inr a) = a

module _ (before : List DraftStatement) where
  pub stays-refused : (words more : Words) (cause : ParseCause) → words ≢ [] → cause ≢ MissingWord → AllByRecursion LacksEnabled more → draft_of before words ≡ Err cause
      → draft_of before (words ++ more) ≡ Err cause
  stays-refused [] more cause some n h e = absurd (some refl)
  stays-refused (word ∷ words) more cause some n h e = not-missing cause n (line-stays cause more before word words h e)

  -- one word more isn't none
  pushed : (front : Words) (word : List ℕ) → front ++ word ∷ [] ≢ []
  pushed [] word e = cc
  pushed (v ∷ front) word e = cc

  moved : (front : Words) (word : List ℕ) (behind : Words) (cause : ParseCause) → draft_of before (front ++ word ∷ behind) ≡ Err cause
      → draft_of before ((front ++ word ∷ []) ++ behind) ≡ Err cause
  moved front word behind cause e = ap (draft_of before) (append_assoc front (word ∷ []) behind) ∙ e

  found-case : (front : Words) (word : List ℕ) (behind : Words) (cause : ParseCause) (read : Result Draft ParseCause) → draft_of before (front ++ word ∷ []) ≡ read
      → cause ≢ MissingWord → AllByRecursion LacksEnabled behind → BeginsLine before front → draft_of before ((front ++ word ∷ []) ++ behind) ≡ Err cause
      → (BeginsLine before (front ++ word ∷ []) → FirstFault before ((front ++ word ∷ []) ++ behind) cause) → FirstFault before (front ++ word ∷ behind) cause
  found-case front word behind cause (Ok d) r n l b e k =
      subst (λ ws. FirstFault before ws cause) (append_assoc front (word ∷ []) behind) (k (begins-itself before (front ++ word ∷ []) d r))
  found-case front word behind cause (Err why) r n l b e k = why-case (either-missing why)
    where
      why-case : (why ≡ MissingWord) ⊎ (why ≢ MissingWord) → FirstFault before (front ++ word ∷ behind) cause
      why-case (inl m) =
          subst (λ ws. FirstFault before ws cause) (append_assoc front (word ∷ []) behind) (k (begins-unless before (front ++ word ∷ []) behind cause (r ∙ ap (λ (c : ParseCause). Err c) m) n e))
      why-case (inr other) =
          let all = stays-refused (front ++ word ∷ []) behind why (pushed front word) other l r in
          let both = sym all ∙ e in
          let same : why ≡ cause = cc in
          record {
            front = front;
            word = word;
            behind = behind;
            words_are = refl;
            begins = b;
            faulty = λ more h. stays-refused (front ++ word ∷ []) more cause (pushed front word) n h (r ∙ ap (λ (c : ParseCause). Err c) same);
          }

  found : (front : Words) (word : List ℕ) (behind : Words) (cause : ParseCause) → cause ≢ MissingWord → AllByRecursion LacksEnabled behind → BeginsLine before front
      → draft_of before (front ++ word ∷ behind) ≡ Err cause → FirstFault before (front ++ word ∷ behind) cause
  found front word [] cause n l b e = record {
    front = front;
    word = word;
    behind = [];
    words_are = refl;
    begins = b;
    faulty = λ more h. stays-refused (front ++ word ∷ []) more cause (pushed front word) n h e;
  }
  found front word (next ∷ behind) cause n l b e =
      found-case front word (next ∷ behind) cause (draft_of before (front ++ word ∷ [])) refl n l b (moved front word (next ∷ behind) cause e)
      (λ c. found (front ++ word ∷ []) next behind cause n l.1 c (moved front word (next ∷ behind) cause e))

  pub first-fault : (words : Words) (cause : ParseCause) → words ≢ [] → cause ≢ MissingWord → AllByRecursion LacksEnabled words → draft_of before words ≡ Err cause
      → FirstFault before words cause
  first-fault [] cause some n l e = absurd (some refl)
  first-fault (word ∷ words) cause some n l e = found [] word words cause n l.1 (nothing-begins before) e

  missing-case : (words behind : Words) (cause : ParseCause) (statement : Draft) → words ≢ [] → AllByRecursion LacksEnabled behind → draft_of before words ≡ Err cause
      → LineSays before (words ++ behind) statement → (cause ≡ MissingWord) ⊎ (cause ≢ MissingWord) → draft_of before words ≡ Err MissingWord
  missing-case words behind cause statement some l e s (inl m) = e ∙ ap (λ (c : ParseCause). Err c) m
  missing-case words behind cause statement some l e s (inr n) = absurd (none-said before (words ++ behind) cause statement (stays-refused words behind cause some n l e) s)

  -- a line that says nothing and begins one that does lacks a word
  pub ends-too-early : (words : Words) → words ≢ [] → ((statement : Draft) → LineSays before words statement → ⊥) → BeginsLine before words → draft_of before words ≡ Err MissingWord
  ends-too-early words some silent b =
      let (cause, e) = no-statement before words silent in
      missing-case words b.behind cause b.statement some b.plain e b.says (either-missing cause)
