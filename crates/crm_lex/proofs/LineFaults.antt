-- No fault of a line says that memory ran out.
use Rattle.std.proofs.Common.{◌≡◌, ℕ, ◌+◌, nat_lt, not, Bool, true, false, Some, List, [], ◌∷◌, ◌++◌, refl, sym, ap, ◌∙◌}
use Rattle.std.specs.List.{list_all, list_any}
use Rattle.std.specs.Str.{is_utf8}
use Rattle.crm_lex.specs.RawLines.{content}
use Rattle.crm_lex.specs.Words.{is_open}
use Rattle.crm_lex.specs.LogicalLines.{fault_if, content_length, line_text, is_control, byte_faults, all_byte_faults, faults}
use Rattle.crm_lex.specs.Reading.{first_lex_fault}
use Rattle.crm_lex.specs.declared.fault.LexCause.{LexCause}
use Rattle.crm_lex.specs.declared.fault.LexCause.TheVariants.{NotUtf8, ControlByte, OpenQuote, LineTooLong}
use Rattle.faults.specs.declared.fault.Fault.{Fault}
use Rattle.faults.specs.declared.fault.Fault.TheVariants.{At, NoMemory}

abbrev stands : Fault LexCause → Bool
stands (At n cause) = true
stands NoMemory = false

abbrev All : List (Fault LexCause) → Type 0
All found = list_all stands found ≡ true

stands-if : (t : Bool) (n : ℕ) (cause : LexCause) → All (fault_if t n cause)
stands-if true n cause = refl
stands-if false n cause = refl

stands-append : (found more : List (Fault LexCause)) → All found → All more → All (found ++ more)
stands-append [] more f m = m
stands-append (At n cause ∷ found) more f m = stands-append found more f m
stands-append (NoMemory ∷ found) more f m = cc

stands-bytes : (n : ℕ) (line : List ℕ) → All (byte_faults n line)
stands-bytes n line =
    stands-append (fault_if (not (is_utf8 (content line))) n NotUtf8) _ (stands-if (not (is_utf8 (content line))) n NotUtf8) (stands-if (list_any is_control (content line)) n ControlByte)

stands-all : (n : ℕ) (lines : List (List ℕ)) → All (all_byte_faults n lines)
stands-all n [] = refl
stands-all n (line ∷ lines) = stands-append (byte_faults n line) (all_byte_faults (n + 1) lines) (stands-bytes n line) (stands-all (n + 1) lines)

stands-faults : (n : ℕ) (lines : List (List ℕ)) → All (faults n lines)
stands-faults n [] = refl
stands-faults n (line ∷ lines) =
    let all = line ∷ lines in
    let open_fault = fault_if (is_open (line_text all)) n OpenQuote in
    let later = all_byte_faults (n + 1) lines in
    stands-append (fault_if (nat_lt 1048576 (content_length all)) n LineTooLong) (byte_faults n line ++ (open_fault ++ later)) (stands-if (nat_lt 1048576 (content_length all)) n LineTooLong)
    (stands-append (byte_faults n line) (open_fault ++ later) (stands-bytes n line)
    (stands-append open_fault later (stands-if (is_open (line_text all)) n OpenQuote) (stands-all (n + 1) lines)))

first-stands : (found : List (Fault LexCause)) → All found → Some NoMemory ≡ first_lex_fault found → ⊥
first-stands [] f e = cc
first-stands (At n cause ∷ found) f e = cc
first-stands (NoMemory ∷ found) f e = cc

pub never_memory : (n : ℕ) (lines : List (List ℕ)) (fault : Fault LexCause) → Some fault ≡ first_lex_fault (faults n lines) → fault ≡ NoMemory → ⊥
never_memory n lines fault e is = first-stands (faults n lines) (stands-faults n lines) (ap Some (sym is) ∙ e)
