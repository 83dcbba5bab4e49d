-- Lines that are read as statements have no section among them.
use Rattle.std.proofs.Common.{arith, ◌≡◌, ℕ, ◌+◌, ◌==◌, min, Bool, true, false, None, List, [], ◌∷◌, ◌++◌, length, codes, Ok, Err, refl, sym, subst}
use Rattle.std.specs.List.{AllByRecursion, position_or_len}
use Rattle.crm_lex.specs.Names.{is}
use Rattle.crm_lex.specs.declared.line.Line.{Line}
use Rattle.crm_parse.specs.declared.draft.Draft.{Draft}
use Rattle.crm_parse.specs.declared.draft.DraftStatement.{DraftStatement}
use Rattle.crm_parse.specs.declared.fault.ParseCause.TheVariants.{UnknownStatement}
use Rattle.crm_parse.specs.declared.marks.SectionMarks.{SectionMarks}
use Rattle.crm_parse.specs.declared.statement.Crm.{Crm}
use Rattle.crm_parse.specs.Marks.{begins_with, first_word, has_percent, is_mark, misplaced, sections_of}
use Rattle.crm_parse.specs.Reading.{Words}
use Rattle.crm_parse.specs.Statements.{draft_of, keyword_of, statements_of, with_lines}
use Rattle.crm_parse.proofs.LinesRead.{Says, read_of-ok, said}

abbrev IsPlain : Line → Type 0
IsPlain line = is_mark line ≡ false

-- no statement begins with a percent sign
no_keyword : (bs : List ℕ) → keyword_of (37 ∷ bs) ≡ Err UnknownStatement
unfolding keyword_of
no_keyword bs = refl

draft-plain : (before : List DraftStatement) (words : Words) (draft : Draft) → draft_of before words ≡ Ok draft → has_percent (first_word words) ≡ false
unfolding draft_of
draft-plain before [] draft e = refl
draft-plain before ([] ∷ words) draft e = refl
draft-plain before ((b ∷ bs) ∷ words) draft e = by (b == 37) refl
  where
    by : (t : Bool) → (b == 37) ≡ t → t ≡ false
    by false at = refl
    by true at =
        let same : b ≡ 37 = grind arith in
        let none = subst (λ x. keyword_of (x ∷ bs) ≡ Err UnknownStatement) (sym same) (no_keyword bs) in
        cc

says-plain : (before : List DraftStatement) (lines : List Line) (more : List DraftStatement) → Says before lines more → AllByRecursion IsPlain lines
says-plain before [] more h = tt
says-plain before (line ∷ lines) [] h = absurd h
says-plain before (line ∷ lines) (s ∷ more) h = (draft-plain before line.words s.draft h.0, says-plain (before ++ s ∷ []) lines more h.1)

statements-plain : (lines : List Line) (crm : Crm) → statements_of lines ≡ Ok crm → AllByRecursion IsPlain lines
statements-plain lines crm e =
    let (drafts, read, same) = read_of-ok (with_lines [] lines) crm e in
    let h = said [] lines drafts read in
    says-plain [] lines h.more h.says

none_misplaced : (last : List ℕ) (before lines : List Line) → AllByRecursion IsPlain lines → misplaced last before lines ≡ None
none_misplaced last before [] h = refl
none_misplaced last before (line ∷ lines) h =
    let plain = h.0 in
    let rest = none_misplaced last (before ++ line ∷ []) lines h.1 in
    rw (plain, rest) refl

not_named : (word name : List ℕ) → has_percent word ≡ false → is word (37 ∷ name) ≡ false
not_named [] name h = refl
not_named (b ∷ bs) name h = rw h refl

at_end : (name : List ℕ) (lines : List Line) → AllByRecursion IsPlain lines → position_or_len (begins_with (37 ∷ name)) lines ≡ length lines
at_end name [] h = refl
at_end name (line ∷ lines) h =
    let other = not_named (first_word line.words) name h.0 in
    let rest = at_end name lines h.1 in
    let long : 1 + length lines ≡ length (line ∷ lines) = omega arith in
    rw (other, rest) long

-- the lines of statements are the whole text
abbrev pub whole_text : List Line → SectionMarks
whole_text lines = record { status_at = length lines; results_at = length lines; end = length lines }

pub statements-alone : (lines : List Line) (crm : Crm) → statements_of lines ≡ Ok crm → sections_of lines ≡ Ok (whole_text lines)
statements-alone lines crm e =
    let plain = statements-plain lines crm e in
    let placed = none_misplaced (codes "%results") [] lines plain in
    let status = at_end (codes "status") lines plain in
    let results = at_end (codes "results") lines plain in
    let both : min (length lines) (length lines) ≡ length lines = omega arith in
    rw (placed, status, results, both) refl
