-- Where the words of all lines are clean, so are those that the statements are written with.
use Rattle.std.proofs.Common.{◌≡◌, List, [], ◌∷◌, ◌++◌, Ok, sym, subst}
use Rattle.std.specs.Prelude.{map}
use Rattle.std.specs.List.{AllByRecursion}
use Rattle.crm_lex.specs.declared.line.Line.{Line}
use Rattle.crm_parse.specs.declared.draft.DraftStatement.{DraftStatement}
use Rattle.crm_parse.specs.declared.statement.Crm.{Crm}
use Rattle.crm_parse.specs.declared.statement.Statement.{Statement}
use Rattle.crm_parse.specs.Reading.{Words}
use Rattle.crm_parse.specs.Statements.{promotable_by, statement_of, statements_of, with_lines}
use Rattle.crm_print.proofs.Clean.{AllClean}
use Rattle.crm_print.proofs.CleanStatements.{DraftClean, draft-clean}
use Rattle.crm_parse.proofs.LinesRead.{Says, read_of-ok, said}
use Rattle.crm_print.proofs.Written.{written}

-- the words of a line are clean
abbrev pub CleanLine : Line → Type 0
CleanLine line = AllClean line.words

abbrev pub CleanStatement : Statement → Type 0
CleanStatement s = AllClean (written s.form)

module _ (promotable : Words) where
  abbrev CleanDraft : DraftStatement → Type 0
  CleanDraft s = DraftClean promotable s.draft

  lines-clean : (before : List DraftStatement) (lines : List Line) (more : List DraftStatement) → Says before lines more → AllByRecursion CleanLine lines → AllByRecursion CleanDraft more
  lines-clean before [] [] h w = tt
  lines-clean before [] (s ∷ more) h w = absurd h
  lines-clean before (line ∷ lines) [] h w = tt
  lines-clean before (line ∷ lines) (s ∷ more) h w =
      (draft-clean promotable before line.words s.draft w.0 h.0, lines-clean (before ++ s ∷ []) lines more h.1 w.1)

  drafts-clean : (ss : List DraftStatement) → AllByRecursion CleanDraft ss → AllByRecursion CleanStatement (map (statement_of promotable) ss)
  drafts-clean [] h = tt
  drafts-clean (s ∷ ss) h = (h.0, drafts-clean ss h.1)

-- statements that were read from clean lines are written with clean words
pub statements-clean : (lines : List Line) (crm : Crm) → AllByRecursion CleanLine lines → statements_of lines ≡ Ok crm → AllByRecursion CleanStatement crm.statements
statements-clean lines crm w e =
    let (drafts, read, same) = read_of-ok (with_lines [] lines) crm e in
    let h = said [] lines drafts read in
    let promotable = promotable_by drafts in
    let clean : AllByRecursion (λ (s : DraftStatement). DraftClean promotable s.draft) drafts =
    lines-clean promotable [] lines drafts (subst (Says [] lines) (sym h.added) h.says) w in
    subst (λ (c : Crm). AllByRecursion CleanStatement c.statements) same (drafts-clean promotable drafts clean)
