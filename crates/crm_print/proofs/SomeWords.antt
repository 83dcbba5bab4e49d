-- Lines that are read as statements have words.
use Rattle.std.proofs.Common.{◌≡◌, List, [], ◌∷◌, ◌++◌, Bool, true, false, Ok, refl}
use Rattle.std.specs.List.{AllByRecursion}
use Rattle.crm_lex.specs.declared.line.Line.{Line}
use Rattle.crm_parse.specs.declared.draft.Draft.{Draft}
use Rattle.crm_parse.specs.declared.draft.DraftStatement.{DraftStatement}
use Rattle.crm_parse.specs.declared.statement.Crm.{Crm}
use Rattle.crm_parse.specs.Reading.{Words}
use Rattle.crm_parse.specs.Statements.{draft_of, statements_of, with_lines}
use Rattle.crm_parse.proofs.LinesRead.{Says, read_of-ok, said}

abbrev pub has_words : Words → Bool
has_words [] = false
has_words (word ∷ words) = true

abbrev pub HasWords : Line → Type 0
HasWords line = has_words line.words ≡ true

draft-words : (before : List DraftStatement) (words : Words) (draft : Draft) → draft_of before words ≡ Ok draft → has_words words ≡ true
unfolding draft_of
draft-words before [] draft e = cc
draft-words before (word ∷ words) draft e = refl

says-words : (before : List DraftStatement) (lines : List Line) (more : List DraftStatement) → Says before lines more → AllByRecursion HasWords lines
says-words before [] more h = tt
says-words before (line ∷ lines) [] h = absurd h
says-words before (line ∷ lines) (s ∷ more) h = (draft-words before line.words s.draft h.0, says-words (before ++ s ∷ []) lines more h.1)

pub statements-words : (lines : List Line) (crm : Crm) → statements_of lines ≡ Ok crm → AllByRecursion HasWords lines
statements-words lines crm e =
    let (drafts, read, same) = read_of-ok (with_lines [] lines) crm e in
    let h = said [] lines drafts read in
    says-words [] lines h.more h.says
