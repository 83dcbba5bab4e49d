-- The lines of statements are read again from the words of what they say.
use Rattle.std.proofs.Common.{◌≡◌, ℕ, List, [], ◌∷◌, ◌++◌, Ok, refl, sym, ap, ◌∙◌, subst, append_assoc, append-nil}
use Rattle.std.specs.Prelude.{map, ◌||◌}
use Rattle.std.specs.List.{list_any}
use Rattle.crm_lex.specs.declared.line.Line.{Line}
use Rattle.crm_parse.specs.declared.draft.Draft.{Draft}
use Rattle.crm_parse.specs.declared.draft.Draft.TheVariants as draft
use Rattle.crm_parse.specs.declared.draft.DraftStatement.{DraftStatement}
use Rattle.crm_parse.specs.declared.statement.Crm.{Crm}
use Rattle.crm_parse.specs.declared.statement.Statement.{Statement}
use Rattle.crm_parse.specs.declared.words.SettingsWord.{SettingsWord}
use Rattle.crm_parse.specs.Reading.{Words}
use Rattle.crm_parse.specs.Settings.{sets}
use Rattle.crm_parse.specs.Statements.{crm_of, draft_of, finished, promotable_by, read_of, statement_of, statements_of, with_line, with_lines}
use Rattle.crm_print.proofs.OrderAgain.{order-finished}
use Rattle.crm_print.proofs.SettingsAgain.{SameKeys}
use Rattle.crm_print.proofs.StatementsAgain.{DraftAgain, draft-again, written_draft}
use Rattle.crm_print.proofs.Written.{written}
use Rattle.crm_parse.proofs.LinesRead.{Says, read_of-ok, said}

module _ (promotable : Words) where
  -- some statements are those that others say
  abbrev Rewrites : List DraftStatement → List DraftStatement → Type 0
  Rewrites [] [] = Unit {0}
  Rewrites [] (t ∷ ts) = ⊥
  Rewrites (s ∷ ss) [] = ⊥
  Rewrites (s ∷ ss) (t ∷ ts) = (t.draft ≡ written_draft promotable s.draft) × Rewrites ss ts

  rewrites-append : (ss ts : List DraftStatement) (s t : DraftStatement) → Rewrites ss ts → t.draft ≡ written_draft promotable s.draft → Rewrites (ss ++ s ∷ []) (ts ++ t ∷ [])
  rewrites-append [] [] s t h e = (e, tt)
  rewrites-append [] (u ∷ us) s t h e = absurd h
  rewrites-append (r ∷ rs) [] s t h e = absurd h
  rewrites-append (r ∷ rs) (u ∷ us) s t h e = (h.0, rewrites-append rs us s t h.1 e)

  sets_draft : (what : SettingsWord) (key : List ℕ) (s t : DraftStatement) (d : Draft) → s.draft ≡ d → t.draft ≡ written_draft promotable d
      → sets what key s ≡ sets what key t
  sets_draft what key s t (draft.Whole f) d e = rw (sets, d, e) refl
  sets_draft what key s t (draft.Order order) d e = rw (sets, d, e) refl

  -- they give the same keys
  same_keys : (ss ts : List DraftStatement) → Rewrites ss ts → SameKeys ss ts
  same_keys [] [] h what key = refl
  same_keys [] (t ∷ ts) h what key = absurd h
  same_keys (s ∷ ss) [] h what key = absurd h
  same_keys (s ∷ ss) (t ∷ ts) h what key =
      let one : sets what key s ≡ sets what key t = sets_draft what key s t s.draft refl h.0 in
      let rest : list_any (sets what key) ss ≡ list_any (sets what key) ts = same_keys ss ts h.1 what key in
      ap (λ b. b || list_any (sets what key) ss) one ∙ ap (λ b. sets what key t || b) rest

  -- the words of what a statement says
  abbrev words_of : DraftStatement → Words
  words_of s = written (finished promotable s.draft)

  -- the lines of those words say the same
  record Again (ss before : List DraftStatement) (lines : List Line) : Type 0 where
    all : List DraftStatement
    read : with_lines before lines ≡ Ok (before ++ all)
    rewritten : Rewrites ss all

  again-none : (before : List DraftStatement) → Again [] before []
  again-none before = record { all = []; read = ap Ok (sym (append-nil before)); rewritten = tt }

  again-more : (s t : DraftStatement) (ss before : List DraftStatement) (line : Line) (lines : List Line) → t.line ≡ line.line → t.draft ≡ written_draft promotable s.draft
      → draft_of before line.words ≡ Ok t.draft → Again ss (before ++ t ∷ []) lines → Again (s ∷ ss) before (line ∷ lines)
  unfolding with_line
  again-more s t ss before line lines n w d h = record {
    all = t ∷ h.all;
    read = rw (d, with_lines, ← n) (h.read ∙ ap Ok (append_assoc before (t ∷ []) h.all));
    rewritten = (w, h.rewritten);
  }

  -- lines with those words say the same
  lines-again : (before after : List DraftStatement) (lines others : List Line) (more : List DraftStatement) → Rewrites before after → Says before lines more
      → map (λ (l : Line). l.words) others ≡ map words_of more → Again more after others
  lines-again before after [] [] [] r h e = again-none after
  lines-again before after [] (other ∷ others) [] r h e = absurd (cc)
  lines-again before after [] others (s ∷ more) r h e = absurd h
  lines-again before after (line ∷ lines) others [] r h e = absurd h
  lines-again before after (line ∷ lines) [] (s ∷ more) r h e = absurd (cc)
  lines-again before after (line ∷ lines) (other ∷ others) (s ∷ more) r h e =
      let t : DraftStatement = record { line = other.line; draft = written_draft promotable s.draft } in
      let here : other.words ≡ words_of s = cc in
      let rest : map (λ (l : Line). l.words) others ≡ map words_of more = cc in
      let d : DraftAgain promotable after s.draft = draft-again promotable before after (same_keys before after r) line.words s.draft h.0 in
      again-more s t more after other others refl refl (ap (draft_of after) here ∙ d)
      (lines-again (before ++ s ∷ []) (after ++ t ∷ []) lines others more (rewrites-append before after s t r refl) h.1 rest)

  finished-again : (other : Words) (d : Draft) → finished other (written_draft promotable d) ≡ finished promotable d
  finished-again other (draft.Whole f) = refl
  finished-again other (draft.Order order) = order-finished promotable other order

  -- and their forms are those that were said
  forms-again : (other : Words) (ss ts : List DraftStatement) → Rewrites ss ts
      → map (λ (s : Statement). s.form) (map (statement_of other) ts) ≡ map (λ (s : Statement). s.form) (map (statement_of promotable) ss)
  forms-again other [] [] h = refl
  forms-again other [] (t ∷ ts) h = absurd h
  forms-again other (s ∷ ss) [] h = absurd h
  forms-again other (s ∷ ss) (t ∷ ts) h =
      let one : finished other t.draft ≡ finished promotable s.draft = ap (finished other) h.0 ∙ finished-again other s.draft in
      let rest = forms-again other ss ts h.1 in
      cc

  words-mapped : (ss : List DraftStatement) → map words_of ss ≡ map (λ (s : Statement). written s.form) (map (statement_of promotable) ss)
  words-mapped [] = refl
  words-mapped (s ∷ ss) = ap (λ wss. words_of s ∷ wss) (words-mapped ss)

-- the words of a statement
abbrev pub statement_words : Statement → Words
statement_words s = written s.form

-- some statements with the forms of others
abbrev pub SameForms : Crm → Crm → Type 0
SameForms one other = map (λ (s : Statement). s.form) one.statements ≡ map (λ (s : Statement). s.form) other.statements

-- lines with the words of the statements of others
abbrev pub Reread : List Line → Crm → Type 0
Reread others crm = map (λ (l : Line). l.words) others ≡ map statement_words crm.statements → (read : Crm) × (statements_of others ≡ Ok read) × SameForms read crm

reread : (lines others : List Line) (drafts : List DraftStatement) → Says [] lines drafts → Reread others (crm_of drafts)
reread lines others drafts h w =
    let promotable = promotable_by drafts in
    let a = lines-again promotable [] [] lines others drafts tt h (w ∙ sym (words-mapped promotable drafts)) in
    (crm_of a.all, ap read_of a.read, forms-again promotable (promotable_by a.all) drafts a.all a.rewritten)

-- lines with the words of the statements that some lines say, say the same
pub statements-again : (lines others : List Line) (crm : Crm) → statements_of lines ≡ Ok crm → Reread others crm
statements-again lines others crm e =
    let (drafts, read, same) = read_of-ok (with_lines [] lines) crm e in
    let h = said [] lines drafts read in
    subst (Reread others) same (reread lines others drafts (subst (Says [] lines) (sym h.added) h.says))
