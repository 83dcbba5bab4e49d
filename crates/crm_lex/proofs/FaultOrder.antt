-- The faults of a text stand in their order.
use Rattle.std.proofs.Common.{◌≡◌, ℕ, ◌+◌, ◌*◌, ◌≤◌, nat_lt, not, Bool, true, false, Err, List, [], ◌∷◌, ◌++◌, length, ap, arith}
use Rattle.std.specs.List.{list_any, AllByRecursion}
use Rattle.std.specs.Str.{is_utf8}
use Rattle.faults.specs.Reading.{unless}
use Rattle.crm_lex.specs.RawLines.{content, raw_lines}
use Rattle.crm_lex.specs.Words.{is_open}
use Rattle.crm_lex.specs.LogicalLines.{fault_if, content_length, line_text, is_control, byte_faults, all_byte_faults, faults}
use Rattle.crm_lex.specs.Reading.{faults_from, first_lex_fault, rows_from, reads}
use Rattle.crm_lex.specs.FaultOrder.{fault_rank, NotAfter}
use Rattle.crm_lex.specs.declared.line.Line.{Line}
use Rattle.crm_lex.specs.declared.fault.LexCause.{LexCause}
use Rattle.crm_lex.specs.declared.fault.LexCause.TheVariants.{NotUtf8, ControlByte, OpenQuote, LineTooLong}
use Rattle.faults.specs.declared.fault.Fault.{Fault}
use Rattle.faults.specs.declared.fault.Fault.TheVariants.{At, NoMemory}

-- one number for a line and a cause
abbrev pub place : ℕ → LexCause → ℕ
place n cause = 4 * n + fault_rank cause

-- faults at rising places, from the first number up to the second
abbrev pub Rising : ℕ → ℕ → List (Fault LexCause) → Type 0
Rising low high [] = low ≤ high
Rising low high (At n cause ∷ found) = (low ≤ place n cause) × Rising (place n cause + 1) high found
Rising low high (NoMemory ∷ found) = ⊥

Rising-lower : (low lower high : ℕ) (found : List (Fault LexCause)) → lower ≤ low → Rising low high found → Rising lower high found
Rising-lower low lower high [] le r = omega arith
Rising-lower low lower high (At n cause ∷ found) le r = (omega (arith, r.0), r.1)
Rising-lower low lower high (NoMemory ∷ found) le r = r

Rising-append : (low middle next high : ℕ) (found more : List (Fault LexCause)) → Rising low middle found → middle ≤ next → Rising next high more → Rising low high (found ++ more)
Rising-append low middle next high [] more f le m = Rising-lower next low high more (omega arith) m
Rising-append low middle next high (At n cause ∷ found) more f le m = (f.0, Rising-append (place n cause + 1) middle next high found more f.1 le m)
Rising-append low middle next high (NoMemory ∷ found) more f le m = absurd f

rising-if : (t : Bool) (n : ℕ) (cause : LexCause) → Rising (place n cause) (place n cause + 1) (fault_if t n cause)
rising-if true n cause = (omega arith, omega arith)
rising-if false n cause = omega arith

rising-bytes : (n : ℕ) (line : List ℕ) → Rising (place n NotUtf8) (place n ControlByte + 1) (byte_faults n line)
rising-bytes n line =
    Rising-append (place n NotUtf8) (place n NotUtf8 + 1) (place n ControlByte) (place n ControlByte + 1) (fault_if (not (is_utf8 (content line))) n NotUtf8)
    (fault_if (list_any is_control (content line)) n ControlByte)
    (rising-if (not (is_utf8 (content line))) n NotUtf8) (omega arith) (rising-if (list_any is_control (content line)) n ControlByte)

rising-lines : (n : ℕ) (lines : List (List ℕ)) → Rising (4 * n) (4 * (n + length lines)) (all_byte_faults n lines)
rising-lines n [] = omega arith
rising-lines n (line ∷ lines) =
    let high : 4 * (n + 1 + length lines) ≡ 4 * (n + length (line ∷ lines)) = omega arith in
    Rising-append (4 * n) (place n ControlByte + 1) (4 * (n + 1)) (4 * (n + length (line ∷ lines))) (byte_faults n line) (all_byte_faults (n + 1) lines)
    (Rising-lower (place n NotUtf8) (4 * n) (place n ControlByte + 1) (byte_faults n line) (omega arith) (rising-bytes n line)) (omega arith)
    (rw (← high) (rising-lines (n + 1) lines))

rising-faults : (n : ℕ) (lines : List (List ℕ)) → Rising (4 * n) (4 * (n + length lines)) (faults n lines)
rising-faults n [] = omega arith
rising-faults n (line ∷ lines) =
    let all = line ∷ lines in
    let top = 4 * (n + length all) in
    let high : 4 * (n + 1 + length lines) ≡ top = omega arith in
    let long = fault_if (nat_lt 1048576 (content_length all)) n LineTooLong in
    let open_fault = fault_if (is_open (line_text all)) n OpenQuote in
    let later = all_byte_faults (n + 1) lines in
    let last : Rising (4 * (n + 1)) top later = rw (← high) (rising-lines (n + 1) lines) in
    let third : Rising (place n OpenQuote) top (open_fault ++ later) =
    Rising-append (place n OpenQuote) (place n OpenQuote + 1) (4 * (n + 1)) top open_fault later (rising-if (is_open (line_text all)) n OpenQuote) (omega arith) last in
    let second : Rising (place n NotUtf8) top (byte_faults n line ++ (open_fault ++ later)) =
    Rising-append (place n NotUtf8) (place n ControlByte + 1) (place n OpenQuote) top (byte_faults n line) (open_fault ++ later) (rising-bytes n line) (omega arith) third in
    Rising-append (4 * n) (place n LineTooLong + 1) (place n NotUtf8) top long (byte_faults n line ++ (open_fault ++ later))
    (Rising-lower (place n LineTooLong) (4 * n) (place n LineTooLong + 1) long (omega arith) (rising-if (nat_lt 1048576 (content_length all)) n LineTooLong)) (omega arith) second

-- how many physical lines some groups of them have
abbrev pub count_lines : List (List (List ℕ)) → ℕ
count_lines [] = 0
count_lines (group ∷ groups) = length group + count_lines groups

rising-text : (n : ℕ) (groups : List (List (List ℕ))) → Rising (4 * n) (4 * (n + count_lines groups)) (faults_from n groups)
rising-text n [] = omega arith
rising-text n (group ∷ groups) =
    let high : 4 * (n + length group + count_lines groups) ≡ 4 * (n + count_lines (group ∷ groups)) = omega arith in
    Rising-append (4 * n) (4 * (n + length group)) (4 * (n + length group)) (4 * (n + count_lines (group ∷ groups))) (faults n group) (faults_from (n + length group) groups)
    (rising-faults n group) (omega arith) (rw (← high) (rising-text (n + length group) groups))

rank_bound : (cause : LexCause) → fault_rank cause ≤ 3
rank_bound LineTooLong = omega arith
rank_bound NotUtf8 = omega arith
rank_bound ControlByte = omega arith
rank_bound OpenQuote = omega arith

not_after : (n m : ℕ) (cause other : LexCause) → place n cause ≤ place m other → NotAfter n cause (At m other)
not_after n m cause other le = let a = rank_bound cause in let b = rank_bound other in grind arith

rest_not_after : (n : ℕ) (cause : LexCause) (low high : ℕ) (found : List (Fault LexCause)) → place n cause ≤ low → Rising low high found → AllByRecursion (NotAfter n cause) found
rest_not_after n cause low high [] le r = tt
rest_not_after n cause low high (At m other ∷ found) le r =
    (not_after n m cause other (omega (arith, r.0)), rest_not_after n cause (place m other + 1) high found (omega (arith, r.0)) r.1)
rest_not_after n cause low high (NoMemory ∷ found) le r = absurd r

first_not_after : (n : ℕ) (cause : LexCause) (low high : ℕ) (found : List (Fault LexCause)) (rows : List Line) → Rising low high found
    → unless (first_lex_fault found) rows ≡ Err (At n cause) → AllByRecursion (NotAfter n cause) found
first_not_after n cause low high [] rows r e = cc
first_not_after n cause low high (At m other ∷ found) rows r e =
    let line : m ≡ n = cc in
    let same : other ≡ cause = cc in
    let ranks = ap fault_rank same in
    (not_after n m cause other (omega arith), rest_not_after n cause (place m other + 1) high found (omega arith) r.1)
first_not_after n cause low high (NoMemory ∷ found) rows r e = absurd r

pub lowest : (text : List ℕ) (n : ℕ) (cause : LexCause) → reads text ≡ Err (At n cause) → AllByRecursion (NotAfter n cause) (faults_from 1 (raw_lines text))
lowest text n cause e =
    first_not_after n cause (4 * 1) (4 * (1 + count_lines (raw_lines text))) (faults_from 1 (raw_lines text)) (rows_from 1 (raw_lines text)) (rising-text 1 (raw_lines text)) e
