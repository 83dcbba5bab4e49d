-- The statements that some lines say, one line after another.
use Rattle.std.proofs.Common.{◌≡◌, List, [], ◌∷◌, ◌++◌, Result, Ok, Err, refl, sym, ◌∙◌, append_assoc, append-nil}
use Rattle.crm_lex.specs.declared.line.Line.{Line}
use Rattle.crm_parse.specs.declared.draft.Draft.{Draft}
use Rattle.crm_parse.specs.declared.draft.DraftStatement.{DraftStatement}
use Rattle.crm_parse.specs.declared.fault.ParseCause.{ParseCause}
use Rattle.faults.specs.declared.fault.Fault.{Fault}
use Rattle.faults.specs.declared.fault.Fault.TheVariants.{At}
use Rattle.crm_parse.specs.declared.statement.Crm.{Crm}
use Rattle.crm_parse.specs.Statements.{crm_of, draft_of, read_of, with_line, with_lines}

-- the statements that some lines say, after some statements
abbrev pub Says : List DraftStatement → List Line → List DraftStatement → Type 0
Says before [] [] = Unit {0}
Says before [] (s ∷ ss) = ⊥
Says before (line ∷ lines) [] = ⊥
Says before (line ∷ lines) (s ∷ ss) = (draft_of before line.words ≡ Ok s.draft) × Says (before ++ s ∷ []) lines ss

pub record Said (before : List DraftStatement) (lines : List Line) (all : List DraftStatement) : Type 0 where
  pub more : List DraftStatement
  pub added : all ≡ before ++ more
  pub says : Says before lines more

said-none : (before all : List DraftStatement) → before ≡ all → Said before [] all
said-none before all e = record { more = []; added = sym e ∙ sym (append-nil before); says = tt }

said-more : (before all : List DraftStatement) (line : Line) (lines : List Line) (s : DraftStatement) → draft_of before line.words ≡ Ok s.draft
    → Said (before ++ s ∷ []) lines all → Said before (line ∷ lines) all
said-more before all line lines s d h = record { more = s ∷ h.more; added = h.added ∙ append_assoc before (s ∷ []) h.more; says = (d, h.says) }

line-case : (before all : List DraftStatement) (line : Line) (lines : List Line) (read : Result Draft ParseCause) → draft_of before line.words ≡ read
    → ((s : DraftStatement) → with_lines (before ++ s ∷ []) lines ≡ Ok all → Said (before ++ s ∷ []) lines all)
    → with_lines before (line ∷ lines) ≡ Ok all → Said before (line ∷ lines) all
unfolding with_line
line-case before all line lines (Ok d) r h e =
    let s : DraftStatement = record { line = line.line; draft = d } in
    let k : with_lines (before ++ s ∷ []) lines ≡ Ok all = rw (r, with_lines) at e in
    said-more before all line lines s r (h s k)
line-case before all line lines (Err cause) r h e =
    let k : Err (At line.line cause) ≡ Ok all = rw (r, with_lines) at e in
    cc

pub said : (before : List DraftStatement) (lines : List Line) (all : List DraftStatement) → with_lines before lines ≡ Ok all → Said before lines all
said before [] all e = said-none before all (cc)
said before (line ∷ lines) all e = line-case before all line lines (draft_of before line.words) refl (λ s k. said (before ++ s ∷ []) lines all k) e

pub read_of-ok : (read : Result (List DraftStatement) (Fault ParseCause)) (crm : Crm) → read_of read ≡ Ok crm → (drafts : List DraftStatement) × (read ≡ Ok drafts) × (crm_of drafts ≡ crm)
read_of-ok (Ok drafts) crm e = (drafts, refl, cc)
read_of-ok (Err fault) crm e = cc
