-- The first of some faults.
use Rattle.std.proofs.Common.{◌≡◌, ℕ, ◌+◌, ◌≤◌, nat_lt, false, Some, None, List, [], ◌∷◌, ◌++◌, refl, sym, ap, ◌∙◌, arith}
use Rattle.std.proofs.lemmas.Bool.Decides.{nat_tests}
use Rattle.crm_lex.specs.Words.{is_open}
use Rattle.crm_lex.specs.LogicalLines.{content_length, line_text, byte_faults, all_byte_faults, faults}
use Rattle.crm_lex.specs.Reading.{first_lex_fault}
use Rattle.faults.specs.declared.fault.Fault.{Fault}
use Rattle.crm_lex.specs.declared.fault.LexCause.{LexCause}

-- a fault comes before all behind it
pub first_fault-some : (faults more : List (Fault LexCause)) (fault : Fault LexCause) → Some fault ≡ first_lex_fault faults → first_lex_fault (faults ++ more) ≡ Some fault
first_fault-some [] more fault e = cc
first_fault-some (first ∷ faults) more fault e = sym e

-- no faults are nothing
pub first_fault-none : (faults more : List (Fault LexCause)) → None ≡ first_lex_fault faults → first_lex_fault (faults ++ more) ≡ first_lex_fault more
first_fault-none [] more e = refl
first_fault-none (first ∷ faults) more e = cc

-- a logical line that isn't too long, has a first physical line without fault and no open quote: its first fault is that of its later physical lines
pub first_fault-later : (n : ℕ) (lines more : List (List ℕ)) (line : List ℕ) → lines ≡ line ∷ more → content_length lines ≤ 1048576
    → None ≡ first_lex_fault (byte_faults n line) → is_open (line_text lines) ≡ false → first_lex_fault (faults n lines) ≡ first_lex_fault (all_byte_faults (n + 1) more)
first_fault-later n lines more line e short clean closed =
    let is_short : nat_lt 1048576 (content_length (line ∷ more)) ≡ false = let size = ap content_length e in grind (arith, nat_tests) in
    let is_closed : is_open (line_text (line ∷ more)) ≡ false = ap (λ ls. is_open (line_text ls)) (sym e) ∙ closed in
    rw (e, is_short, is_closed) (first_fault-none (byte_faults n line) (all_byte_faults (n + 1) more) clean)
