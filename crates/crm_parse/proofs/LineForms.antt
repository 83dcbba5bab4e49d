-- What holds of each form that a line says holds of each statement of some lines.
use Rattle.std.proofs.Common.{◌≡◌, List, [], ◌∷◌, ◌++◌, Ok, sym, subst}
use Rattle.std.specs.Prelude.{map}
use Rattle.std.specs.List.{AllByRecursion}
use Rattle.crm_lex.specs.declared.line.Line.{Line}
use Rattle.crm_parse.specs.declared.draft.Draft.{Draft}
use Rattle.crm_parse.specs.declared.draft.DraftStatement.{DraftStatement}
use Rattle.crm_parse.specs.declared.form.Form.{Form}
use Rattle.crm_parse.specs.declared.statement.Crm.{Crm}
use Rattle.crm_parse.specs.declared.statement.Statement.{Statement}
use Rattle.crm_parse.specs.Reading.{Words}
use Rattle.crm_parse.specs.Statements.{draft_of, finished, promotable_by, statement_of, statements_of, with_lines}
use Rattle.crm_parse.proofs.LinesRead.{Says, read_of-ok, said}

module _ (P : Form → Type 0) where
  -- what a statement says has it, whichever resources have a promoted role
  abbrev pub DraftHas : Draft → Type 0
  DraftHas d = (promotable : Words) → P (finished promotable d)

  -- each line says what has it
  abbrev pub LinesHave : Type 0
  LinesHave = (before : List DraftStatement) (line : Words) (d : Draft) → draft_of before line ≡ Ok d → DraftHas d

  lines-have : LinesHave → (before : List DraftStatement) (lines : List Line) (more : List DraftStatement) → Says before lines more
      → AllByRecursion (λ (s : DraftStatement). DraftHas s.draft) more
  lines-have all before [] [] h = tt
  lines-have all before [] (s ∷ more) h = absurd h
  lines-have all before (line ∷ lines) [] h = tt
  lines-have all before (line ∷ lines) (s ∷ more) h = (all before line.words s.draft h.0, lines-have all (before ++ s ∷ []) lines more h.1)

  drafts-have : (promotable : Words) (ss : List DraftStatement) → AllByRecursion (λ (s : DraftStatement). DraftHas s.draft) ss
      → AllByRecursion (λ (s : Statement). P s.form) (map (statement_of promotable) ss)
  drafts-have promotable [] h = tt
  drafts-have promotable (s ∷ ss) h = (h.0 promotable, drafts-have promotable ss h.1)

  -- so does each statement that was read
  pub statements-have : LinesHave → (lines : List Line) (crm : Crm) → statements_of lines ≡ Ok crm → AllByRecursion (λ (s : Statement). P s.form) crm.statements
  statements-have all lines crm e =
      let (drafts, read, same) = read_of-ok (with_lines [] lines) crm e in
      let h = said [] lines drafts read in
      let have : AllByRecursion (λ (s : DraftStatement). DraftHas s.draft) drafts =
      lines-have all [] lines drafts (subst (Says [] lines) (sym h.added) h.says) in
      subst (λ (c : Crm). AllByRecursion (λ (s : Statement). P s.form) c.statements) same (drafts-have (promotable_by drafts) drafts have)
