-- What is printed reads again as the same statements.
use Rattle.std.proofs.Common.{◌≡◌, ℕ, ◌+◌, nat_le, true, List, [], ◌∷◌, ◌++◌, length, map, Ok, refl, sym, ap, subst, ◌∙◌, append-nil}
use Rattle.std.specs.List.{flat_map, list_all, AllByRecursion}
use Rattle.std.proofs.lemmas.Bool.{and_parts}
use Rattle.lemmas.proofs.Members.{all_first}
use Rattle.crm_lex.specs.declared.line.Line.{Line}
use Rattle.crm_lex.specs.Reading.{reads}
use Rattle.crm_parse.specs.declared.form.Form.{Form}
use Rattle.crm_parse.specs.declared.statement.Crm.{Crm}
use Rattle.crm_parse.specs.declared.statement.Statement.{Statement}
use Rattle.crm_parse.specs.Statements.{statements_of}
use Rattle.crm_print.proofs.Clean.{Clean}
use Rattle.crm_print.proofs.CleanLines.{CleanLine, CleanStatement, statements-clean}
use Rattle.crm_print.proofs.LinesAgain.{statement_words, statements-again}
use Rattle.crm_print.proofs.SomeWords.{HasWords, has_words, statements-words}
use Rattle.crm_print.specs.PrintedAgain.{IsComment, ReadsAs, forms_of, has_short_lines}
use Rattle.crm_print.specs.Items.{items_of}
use Rattle.crm_print.specs.Quoting.{Item, items_line}
use Rattle.crm_print.specs.Inner.Quoting.{item_word}
use Rattle.crm_print.specs.Text.{canonical_line, canonical_text, ended_line}
use Rattle.crm_print.proofs.CleanItems.{items-clean}
use Rattle.crm_print.proofs.CleanReading.{clean-reads}
use Rattle.crm_print.proofs.FilledItems.{filled-items}
use Rattle.crm_print.proofs.Lines.{is_filled}
use Rattle.crm_print.proofs.TextReads.{Readable, ended_lines, numbered, text-reads, text-reads-before-comment}
use Rattle.crm_print.proofs.WrittenWords.{canonical_words-written}

-- the items of some statements
abbrev all_items : List Statement → List (List Item)
all_items statements = map (λ (s : Statement). items_of s.form) statements

-- the lines that are read of them have the words that the statements are written with
numbered-words : (n : ℕ) (statements : List Statement) → map (λ (l : Line). l.words) (numbered n (all_items statements)) ≡ map statement_words statements
numbered-words n [] = refl
numbered-words n (s ∷ statements) =
    let one = canonical_words-written s.form in
    let rest = numbered-words (n + 1) statements in
    cc

some_items : (items : List Item) → has_words (map item_word items) ≡ true → list_all is_filled items ≡ true → (first : Item) × (others : List Item) × (items ≡ first ∷ others)
some_items [] w f = cc
some_items (item ∷ items) w f = (item, items, refl)

readable-one : (f : Form) → CleanStatement (record { line = 0; form = f }) → has_words (map item_word (items_of f)) ≡ true
    → nat_le (length (canonical_line f)) 1048576 ≡ true → Readable (items_of f)
readable-one f c w s =
    let (first, others, are) = some_items (items_of f) w (filled-items f) in
    record {
      first = first;
      others = others;
      are = are;
      filled = subst (λ items. list_all is_filled items ≡ true) are (filled-items f);
      clean = subst (AllByRecursion (λ item. AllByRecursion Clean item)) are (items-clean f c);
      short = subst (λ items. nat_le (length (items_line items)) 1048576 ≡ true) are s;
    }

readable : (n : ℕ) (statements : List Statement) → AllByRecursion CleanStatement statements → AllByRecursion HasWords (numbered n (all_items statements))
    → list_all (λ (s : Statement). nat_le (length (canonical_line s.form)) 1048576) statements ≡ true → AllByRecursion Readable (all_items statements)
readable n [] c w s = tt
readable n (one ∷ statements) c w s =
    let short = and_parts (nat_le (length (canonical_line one.form)) 1048576) (list_all (λ (s : Statement). nat_le (length (canonical_line s.form)) 1048576) statements) s in
    (readable-one one.form c.0 w.0 short.0, readable (n + 1) statements c.1 w.1 short.1)

text-is : (statements : List Statement) → flat_map ended_line statements ≡ ended_lines (all_items statements)
text-is [] = refl
text-is (s ∷ statements) = ap (λ text. ended_line s ++ text) (text-is statements)

-- what is printed, with some text behind it, reads again where its lines are read of the whole
reads-so : (text behind : List ℕ) (lines rest : List Line) (crm : Crm) → reads text ≡ Ok (lines ++ rest) → statements_of lines ≡ Ok crm
    → has_short_lines crm ≡ true
    → ((all : List (List Item)) → AllByRecursion Readable all → reads (ended_lines all ++ behind) ≡ Ok (numbered 1 all))
    → ReadsAs (canonical_text crm ++ behind) crm
reads-so text behind lines rest crm e p s so =
    let all = all_items crm.statements in
    let clean = statements-clean lines crm (all_first CleanLine lines rest (clean-reads text (lines ++ rest) e)) p in
    let (again, read, same) = statements-again lines (numbered 1 all) crm p (numbered-words 1 crm.statements) in
    let words = statements-words (numbered 1 all) again read in
    record {
      lines = numbered 1 all;
      again = again;
      are_lines = ap (λ canonical. reads (canonical ++ behind)) (text-is crm.statements) ∙ so all (readable 1 crm.statements clean words s);
      are_statements = read;
      same = same;
    }

pub reads-again : (text : List ℕ) (lines rest : List Line) (crm : Crm) → reads text ≡ Ok (lines ++ rest) → statements_of lines ≡ Ok crm
    → has_short_lines crm ≡ true → ReadsAs (canonical_text crm) crm
reads-again text lines rest crm e p s =
    subst (λ written. ReadsAs written crm) (append-nil (canonical_text crm))
    (reads-so text [] lines rest crm e p s (λ all h. ap reads (append-nil (ended_lines all)) ∙ text-reads all h))

pub reads-again-commented : (text comment : List ℕ) (lines rest : List Line) (crm : Crm) → reads text ≡ Ok (lines ++ rest) → statements_of lines ≡ Ok crm
    → has_short_lines crm ≡ true → IsComment comment → ReadsAs (canonical_text crm ++ (comment ++ 10 ∷ [])) crm
reads-again-commented text comment lines rest crm e p s c =
    reads-so text (comment ++ 10 ∷ []) lines rest crm e p s (λ all h. text-reads-before-comment all comment h c)

form-text : (statements : List Statement) → flat_map ended_line statements ≡ flat_map (λ f. canonical_line f ++ 10 ∷ []) (map (λ (s : Statement). s.form) statements)
form-text [] = refl
form-text (s ∷ statements) = ap (λ text. ended_line s ++ text) (form-text statements)

pub canonical-again : (one other : Crm) → forms_of one ≡ forms_of other → canonical_text one ≡ canonical_text other
canonical-again one other e =
    form-text one.statements ∙ (ap (flat_map (λ f. canonical_line f ++ 10 ∷ [])) e ∙ sym (form-text other.statements))
