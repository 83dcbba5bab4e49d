-- The lines of a text are read as statements just when they say these, and refused at the first that says none.
use Rattle.std.proofs.Common.{◌≡◌, ℕ, List, [], ◌∷◌, ◌++◌, Result, Ok, Err, refl, sym, ap, ◌∙◌, subst, append_assoc, append-nil}
use Rattle.faults.specs.declared.fault.Fault.{Fault}
use Rattle.faults.specs.declared.fault.Fault.TheVariants.{At, NoMemory}
use Rattle.faults.specs.Reading.{Gives, IsAsSaid}
use Rattle.crm_lex.specs.declared.line.Line.{Line}
use Rattle.crm_parse.specs.declared.draft.Draft.{Draft}
use Rattle.crm_parse.specs.declared.draft.DraftStatement.{DraftStatement}
use Rattle.crm_parse.specs.declared.fault.ParseCause.{ParseCause}
use Rattle.crm_parse.specs.declared.statement.Crm.{Crm}
use Rattle.crm_parse.specs.Statements.{draft_of, read_of, statements_of, with_line, with_lines}
use Rattle.crm_parse.proofs.LinesRead.{read_of-ok}
use Rattle.crm_parse.proofs.Grammar.ActionsSaid.{crm-are, crm-is}
use Rattle.crm_parse.specs.Grammar.Configurations.{ConfigurationSays, FirstSilentLine, GivesWhatLinesSay, RefusesFirstSilentLine, SaysStatements, no_line, one_more_line}
use Rattle.crm_parse.proofs.Grammar.LineRelated.{line-is_read, line-is_said, no-statement, none-said}

abbrev Drafts : Type 0
Drafts = Result (List DraftStatement) (Fault ParseCause)

-- what some lines say, and then what those after them say
abbrev then_lines : Drafts → List Line → Drafts
then_lines read lines = elim read [ Err fault ↦ Err fault | Ok more ↦ with_lines more lines ]

append-case : (one : Drafts) (front back : List Line) (between : List DraftStatement) → then_lines one front ≡ Ok between
    → ((more : List DraftStatement) → with_lines more front ≡ Ok between → with_lines more (front ++ back) ≡ with_lines between back)
    → then_lines one (front ++ back) ≡ with_lines between back
append-case (Ok more) front back between e h = h more e
append-case (Err fault) front back between e h = cc

lines-append : (before : List DraftStatement) (front back : List Line) (between : List DraftStatement) → with_lines before front ≡ Ok between
    → with_lines before (front ++ back) ≡ with_lines between back
lines-append before [] back between e = let same : before ≡ between = cc in ap (λ b. with_lines b back) same
lines-append before (line ∷ front) back between e = append-case (with_line before line) front back between e (λ more k. lines-append more front back between k)

-- one line
line-read : (before : List DraftStatement) (line : Line) (lines : List Line) (said : Draft) → draft_of before line.words ≡ Ok said
    → with_lines before (line ∷ lines) ≡ with_lines (before ++ record { line = line.line; draft = said } ∷ []) lines
unfolding with_line
line-read before line lines said e = rw (with_lines, e) refl

line-refused : (before : List DraftStatement) (line : Line) (lines : List Line) (cause : ParseCause) → draft_of before line.words ≡ Err cause
    → with_lines before (line ∷ lines) ≡ Err (At line.line cause)
unfolding with_line
line-refused before line lines cause e = rw (with_lines, e) refl

-- what the lines say is read
configuration-read : (lines : List Line) (statements : List DraftStatement) → ConfigurationSays lines statements → with_lines [] lines ≡ Ok statements
configuration-read ls ss no_line = refl
configuration-read ls ss (one_more_line lines statements line said c s) =
    lines-append [] lines (line ∷ []) statements (configuration-read lines statements c) ∙ line-read statements line [] said (line-is_read statements line.words said s)

-- what is read the lines say
said-case : (front : List Line) (before : List DraftStatement) (line : Line) (lines : List Line) (after : List DraftStatement) (read : Result Draft ParseCause)
    → draft_of before line.words ≡ read → ConfigurationSays front before
    → ((said : Draft) → ConfigurationSays (front ++ line ∷ []) (before ++ record { line = line.line; draft = said } ∷ [])
    → with_lines (before ++ record { line = line.line; draft = said } ∷ []) lines ≡ Ok after → ConfigurationSays ((front ++ line ∷ []) ++ lines) after)
    → with_lines before (line ∷ lines) ≡ Ok after → ConfigurationSays (front ++ line ∷ lines) after
said-case front before line lines after (Ok said) r c h e =
    subst (λ ls. ConfigurationSays ls after) (append_assoc front (line ∷ []) lines)
    (h said (one_more_line front before line said c (line-is_said before line.words said r)) (sym (line-read before line lines said r) ∙ e))
said-case front before line lines after (Err cause) r c h e = let f = sym (line-refused before line lines cause r) ∙ e in cc

configuration-said : (front : List Line) (before : List DraftStatement) (lines : List Line) (after : List DraftStatement) → ConfigurationSays front before
    → with_lines before lines ≡ Ok after → ConfigurationSays (front ++ lines) after
configuration-said front before [] after c e =
    let same : before ≡ after = cc in
    subst (λ ls. ConfigurationSays ls after) (sym (append-nil front)) (subst (ConfigurationSays front) same c)
configuration-said front before (line ∷ lines) after c e =
    said-case front before line lines after (draft_of before line.words) refl c
    (λ said d k. configuration-said (front ++ line ∷ []) (before ++ record { line = line.line; draft = said } ∷ []) lines after d k) e

-- a line that is refused is the first that says nothing
refused-case : (front : List Line) (before : List DraftStatement) (line : Line) (lines : List Line) (number : ℕ) (cause : ParseCause) (read : Result Draft ParseCause)
    → draft_of before line.words ≡ read → ConfigurationSays front before
    → ((said : Draft) → ConfigurationSays (front ++ line ∷ []) (before ++ record { line = line.line; draft = said } ∷ [])
    → with_lines (before ++ record { line = line.line; draft = said } ∷ []) lines ≡ Err (At number cause) → FirstSilentLine ((front ++ line ∷ []) ++ lines) number)
    → with_lines before (line ∷ lines) ≡ Err (At number cause) → FirstSilentLine (front ++ line ∷ lines) number
refused-case front before line lines number cause (Ok said) r c h e =
    subst (λ ls. FirstSilentLine ls number) (append_assoc front (line ∷ []) lines)
    (h said (one_more_line front before line said c (line-is_said before line.words said r)) (sym (line-read before line lines said r) ∙ e))
refused-case front before line lines number cause (Err why) r c h e =
    let f = sym (line-refused before line lines why r) ∙ e in
    record {
      before = front;
      line = line;
      behind = lines;
      lines_are = refl;
      numbered = cc;
      statements = before;
      said = c;
      silent = λ statement s. none-said before line.words why statement r s;
    }

first-silent : (front : List Line) (before : List DraftStatement) (lines : List Line) (number : ℕ) (cause : ParseCause) → ConfigurationSays front before
    → with_lines before lines ≡ Err (At number cause) → FirstSilentLine (front ++ lines) number
first-silent front before [] number cause c e = cc
first-silent front before (line ∷ lines) number cause c e =
    refused-case front before line lines number cause (draft_of before line.words) refl c
    (λ said d k. first-silent (front ++ line ∷ []) (before ++ record { line = line.line; draft = said } ∷ []) lines number cause d k) e

-- and the first that says nothing is refused
silent-refused : (lines : List Line) (number : ℕ) → FirstSilentLine lines number → (cause : ParseCause) × (with_lines [] lines ≡ Err (At number cause))
silent-refused lines number h =
    let (cause, e) = no-statement h.statements h.line.words h.silent in
    let all : with_lines [] (h.before ++ h.line ∷ h.behind) ≡ Err (At h.line.line cause) =
    lines-append [] h.before (h.line ∷ h.behind) h.statements (configuration-read h.before h.statements h.said) ∙ line-refused h.statements h.line h.behind cause e in
    (cause, ap (with_lines []) h.lines_are ∙ (all ∙ ap (λ (n : ℕ). Err (At n cause)) h.numbered))

-- with the actions that orders leave out
read_of-err : (read : Drafts) (fault : Fault ParseCause) → read_of read ≡ Err fault → read ≡ Err fault
read_of-err (Ok drafts) fault e = cc
read_of-err (Err found) fault e = let same : found ≡ fault = cc in ap (λ (f : Fault ParseCause). Err f) same

text-said : (lines : List Line) (crm : Crm) → statements_of lines ≡ Ok crm → SaysStatements lines crm
text-said lines crm e =
    let (drafts, read, same) = read_of-ok (with_lines [] lines) crm e in
    record { said = drafts; lines_say = configuration-said [] [] lines drafts no_line read; statements_are = crm-are drafts crm (sym same) }

text-read : (lines : List Line) (crm : Crm) → SaysStatements lines crm → statements_of lines ≡ Ok crm
text-read lines crm h = ap read_of (configuration-read lines h.said h.lines_say) ∙ ap (λ (c : Crm). Ok c) (sym (crm-is h.said crm h.statements_are))

pub text-says : (lines : List Line) → GivesWhatLinesSay lines (statements_of lines)
text-says lines crm = (text-said lines crm, text-read lines crm)

pub text-refuses : (lines : List Line) → RefusesFirstSilentLine lines (statements_of lines)
text-refuses lines number = (
  λ found. first-silent [] [] lines number found.0 no_line (read_of-err (with_lines [] lines) (At number found.0) found.1),
  λ h. let (cause, e) = silent-refused lines number h in (cause, ap read_of e),
)

-- what a reader of the lines answers is so
pub answer-is : (P : Result Crm (Fault ParseCause) → Type 0) (answer read : Result Crm (Fault ParseCause)) → Gives (λ crm. crm) answer read → P read → IsAsSaid P answer
answer-is P (Ok crm) read g p = subst P g p
answer-is P (Err (At line cause)) read g p = subst P g p
answer-is P (Err NoMemory) read g p = tt

-- the lines of a text say one configuration
pub one-configuration : (lines : List Line) (one other : List DraftStatement) → ConfigurationSays lines one → ConfigurationSays lines other → one ≡ other
one-configuration lines one other c d =
    let e = sym (configuration-read lines one c) ∙ configuration-read lines other d in
    cc
