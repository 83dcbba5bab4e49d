-- The words that are read of a text are clean.
use Rattle.std.proofs.Common.{◌≡◌, ◌⊎◌, inl, inr, ℕ, ◌+◌, nat_lt, ◌<◌, Bool, true, false, not, ◌==◌, if◌then◌else◌, Ok, List, [], ◌∷◌, ◌++◌, length, refl, sym, ap, subst, arith}
use Rattle.std.proofs.lemmas.Str.{IsUtf8-from_is_utf8}
use Rattle.std.specs.List.{list_any, AllByRecursion}
use Rattle.std.specs.Str.{is_utf8}
use Rattle.std.proofs.lemmas.Bool.{not-false}
use Rattle.lemmas.proofs.Members.{all_append}
use Rattle.crm_lex.specs.RawLines.{begins_comment, content, raw_lines}
use Rattle.crm_lex.specs.LogicalLines.{all_byte_faults, byte_faults, content_length, fault_if, faults, is_control, joined_text, joint, line_text, with_joint}
use Rattle.crm_lex.specs.Reading.{faults_from, first_lex_fault, reads, row, rows_from}
use Rattle.faults.specs.Reading.{unless}
use Rattle.crm_lex.specs.Words.{is_open, words_of}
use Rattle.crm_lex.specs.declared.fault.LexCause.{LexCause}
use Rattle.crm_lex.specs.declared.fault.LexCause.TheVariants.{LineTooLong, NotUtf8, ControlByte, OpenQuote}
use Rattle.faults.specs.declared.fault.Fault.{Fault}
use Rattle.crm_lex.specs.declared.line.Line.{Line}
use Rattle.crm_print.proofs.Clean.{AllClean, Clean, clean-append, clean-ascii, clean-before, clean-nil}
use Rattle.crm_print.proofs.CleanLines.{CleanLine}
use Rattle.crm_print.proofs.CleanWords.{clean-words}

nothing-front : (xs ys : List (Fault LexCause)) → xs ++ ys ≡ [] → xs ≡ []
nothing-front [] ys e = refl
nothing-front (x ∷ xs) ys e = cc

nothing-back : (xs ys : List (Fault LexCause)) → xs ++ ys ≡ [] → ys ≡ []
nothing-back [] ys e = e
nothing-back (x ∷ xs) ys e = cc

no_fault : (t : Bool) (n : ℕ) (cause : LexCause) → fault_if t n cause ≡ [] → t ≡ false
no_fault true n cause e = cc
no_fault false n cause e = refl

-- a physical line without a fault of its bytes
clean_content : (n : ℕ) (line : List ℕ) → byte_faults n line ≡ [] → Clean (content line)
clean_content n line e =
    let utf8 = fault_if (not (is_utf8 (content line))) n NotUtf8 in
    let control = fault_if (list_any is_control (content line)) n ControlByte in
    record {
      utf8 = IsUtf8-from_is_utf8 (content line) (not-false (is_utf8 (content line)) (no_fault (not (is_utf8 (content line))) n NotUtf8 (nothing-front utf8 control e)));
      allowed = no_fault (list_any is_control (content line)) n ControlByte (nothing-back utf8 control e);
    }

clean_contents : (n : ℕ) (lines : List (List ℕ)) → all_byte_faults n lines ≡ [] → AllByRecursion (λ line. Clean (content line)) lines
clean_contents n [] e = tt
clean_contents n (line ∷ lines) e = (
  clean_content n line (nothing-front (byte_faults n line) (all_byte_faults (n + 1) lines) e),
  clean_contents (n + 1) lines (nothing-back (byte_faults n line) (all_byte_faults (n + 1) lines) e),
)

-- and the physical lines of a logical line without faults
clean_lines : (n : ℕ) (lines : List (List ℕ)) → faults n lines ≡ [] → AllByRecursion (λ line. Clean (content line)) lines
clean_lines n [] e = tt
clean_lines n (line ∷ lines) e =
    let long = fault_if (nat_lt 1048576 (content_length (line ∷ lines))) n LineTooLong in
    let unclosed = fault_if (is_open (line_text (line ∷ lines))) n OpenQuote in
    let bytes = nothing-back long (byte_faults n line ++ (unclosed ++ all_byte_faults (n + 1) lines)) e in
    let others = nothing-back (byte_faults n line) (unclosed ++ all_byte_faults (n + 1) lines) bytes in (
      clean_content n line (nothing-front (byte_faults n line) (unclosed ++ all_byte_faults (n + 1) lines) bytes),
      clean_contents (n + 1) lines (nothing-back unclosed (all_byte_faults (n + 1) lines) others),
    )

-- a content with something in place of a backslash at its end
record Cut (text : List ℕ) : Type 0 where
  front : List ℕ
  last : ℕ
  ascii : last < 128
  whole : text ≡ front ++ last ∷ []
  joint_is : (bytes : List ℕ) → with_joint bytes text ≡ front ++ bytes

jointed : (text : List ℕ) → Cut text ⊎ ((bytes : List ℕ) → with_joint bytes text ≡ text)
jointed [] = inr (λ bytes. refl)
jointed (b ∷ []) = split (b == 92) refl
  where
    split : (t : Bool) → (b == 92) ≡ t → Cut (b ∷ []) ⊎ ((bytes : List ℕ) → with_joint bytes (b ∷ []) ≡ b ∷ [])
    split true e = inl (record { front = []; last = b; ascii = grind arith; whole = refl; joint_is = λ bytes. rw e refl })
    split false e = inr (λ bytes. rw e refl)
jointed (b ∷ d ∷ ds) = elim (jointed (d ∷ ds)) [
  | inl c ↦ inl (record { front = b ∷ c.front; last = c.last; ascii = c.ascii; whole = ap (λ xs. b ∷ xs) c.whole; joint_is = λ bytes. ap (λ xs. b ∷ xs) (c.joint_is bytes) })
  | inr same ↦ inr (λ bytes. ap (λ xs. b ∷ xs) (same bytes))
]

clean_joint : (bytes text : List ℕ) → Clean bytes → Clean text → Clean (with_joint bytes text)
clean_joint bytes text b c = elim (jointed text) [
  | inl k ↦ subst Clean (sym (k.joint_is bytes)) (clean-append k.front bytes (clean-before k.front k.last [] k.ascii (subst Clean k.whole c)) b)
  | inr same ↦ subst Clean (sym (same bytes)) c
]

joint_clean : (lines : List (List ℕ)) → Clean (joint lines)
joint_clean [] = clean-nil
joint_clean (line ∷ lines) = clean-ascii (32 ∷ []) refl

clean_joined : (lines : List (List ℕ)) → AllByRecursion (λ line. Clean (content line)) lines → Clean (joined_text lines)
clean_joined [] h = clean-nil
clean_joined (line ∷ lines) h = clean-append (with_joint (joint lines) (content line)) (joined_text lines) (clean_joint (joint lines) (content line) (joint_clean lines) h.0) (clean_joined lines h.1)

clean_text : (lines : List (List ℕ)) → AllByRecursion (λ line. Clean (content line)) lines → Clean (line_text lines)
clean_text [] h = clean-nil
clean_text (line ∷ lines) h = split (begins_comment (content line)) (clean_joined (line ∷ lines) h)
  where
    split : (t : Bool) → Clean (joined_text (line ∷ lines)) → Clean (if t then [] else joined_text (line ∷ lines))
    split true c = clean-nil
    split false c = c

clean_row : (n : ℕ) (words : List (List ℕ)) → AllClean words → AllByRecursion CleanLine (row n words)
clean_row n [] h = tt
clean_row n (word ∷ words) h = (h, tt)

clean_rows : (n : ℕ) (groups : List (List (List ℕ))) → faults_from n groups ≡ [] → AllByRecursion CleanLine (rows_from n groups)
clean_rows n [] e = tt
clean_rows n (lines ∷ more) e =
    all_append CleanLine (row n (words_of (line_text lines))) (rows_from (n + length lines) more)
    (clean_row n (words_of (line_text lines)) (clean-words (line_text lines) (clean_text lines (clean_lines n lines (nothing-front (faults n lines) (faults_from (n + length lines) more) e)))))
    (clean_rows (n + length lines) more (nothing-back (faults n lines) (faults_from (n + length lines) more) e))

-- what is read of a text has clean words
pub clean-reads : (text : List ℕ) (lines : List Line) → reads text ≡ Ok lines → AllByRecursion CleanLine lines
clean-reads text lines e = split (faults_from 1 (raw_lines text)) refl e
  where
    split : (faults : List (Fault LexCause)) → faults_from 1 (raw_lines text) ≡ faults → unless (first_lex_fault faults) (rows_from 1 (raw_lines text)) ≡ Ok lines
        → AllByRecursion CleanLine lines
    split [] none e = let same : rows_from 1 (raw_lines text) ≡ lines = cc in subst (AllByRecursion CleanLine) same (clean_rows 1 (raw_lines text) none)
    split (fault ∷ faults) none e = cc
