-- A head that no line ends is the same where a line that begins results stands behind it.
use Rattle.std.proofs.Common.{◌≡◌, ◌+◌, ℕ, true, false, List, [], ◌∷◌, ◌++◌, codes, Ok, refl, sym, ap, subst, ◌∙◌}
use Rattle.std.specs.Prelude.{None}
use Rattle.std.specs.List.{list_any}
use Rattle.std.specs.Str.{is_utf8}
use Rattle.std.proofs.lemmas.Str.{is_utf8-from_IsUtf8}
use Rattle.crm_lex.specs.declared.line.Line.{Line}
use Rattle.crm_lex.specs.LogicalLines.{faults}
use Rattle.crm_lex.specs.RawLines.{content, raw_lines}
use Rattle.crm_lex.specs.Reading.{faults_from, reads, rows_from}
use Rattle.crm_lex.proofs.FaultOrder.{count_lines}
use Rattle.crm_parse.specs.Marks.{misplaced, sections_of}
use Rattle.crm_parse.proofs.PairWords.{place-behind}
use Rattle.crm_print.proofs.Clean.{clean-ascii}
use Rattle.input_reading.specs.declared.input.reading.Head.{Head}
use Rattle.input_reading.specs.Reading.{lone_head_of, nothing_yet}
use Rattle.live_run.proofs.LinesJoined.{AreRead, are_read, faults_joined, none_first, reads_as, rows_joined}
use Rattle.sim_core.specs.TraceSection.{AreWholeLines}
use Rattle.sim_core.proofs.InputAgain.{in_place}
use Rattle.sim_core.proofs.InputSteps.{HasSections, configuration_in, has_sections, status_in, steps_on, with_last, without_last}
use Rattle.sim_core.proofs.TraceRead.{results_mark}
use Rattle.sim_core.proofs.TraceSections.{first_nowhere, misplaced_joined, results_line}

-- no line of a text begins results
abbrev pub HasNoResults : List ℕ → Type 0
HasNoResults front = list_any results_line (rows_from 1 (raw_lines front)) ≡ false

-- the plain line that begins results has no fault
abbrev pub results_begin : List ℕ
results_begin = codes "%results\n"

results_utf8 : is_utf8 (content results_begin) ≡ true
results_utf8 = is_utf8-from_IsUtf8 (codes "%results") (clean-ascii (codes "%results") refl).utf8

results_clean : (n : ℕ) → faults n (results_begin ∷ []) ≡ []
results_clean n = rw results_utf8 refl

module _ (front : List ℕ) (none : HasNoResults front) where
  abbrev rows : List Line
  rows = rows_from 1 (raw_lines front)

  module _ (head : Head) (whole : AreWholeLines front) (says : lone_head_of front ≡ Ok head) where
    abbrev n : ℕ
    n = 1 + count_lines (raw_lines front)

    found : HasSections sections_of front
    unfolding lone_head_of
    found = has_sections sections_of (λ all. nothing_yet) front head says

    read : AreRead (raw_lines front) found.lines
    read = are_read front found.lines found.are

    rows_read : reads front ≡ Ok rows
    rows_read = found.are ∙ ap Ok (sym read.rows_are)

    placed : misplaced (codes "%results") [] rows ≡ None
    placed = in_place rows found.marks (subst (λ (ls : List Line). sections_of ls ≡ Ok found.marks) (sym read.rows_are) found.placed)

    alone : lone_head_of front ≡ steps_on (configuration_in rows) (status_in rows) (λ head. Ok head)
    unfolding lone_head_of
    alone = without_last sections_of (λ all. nothing_yet) front (codes "%results") rows rows_read (rw placed refl) (first_nowhere results_line rows none)

    marked : reads (front ++ results_begin) ≡ Ok (rows ++ results_mark n ∷ [])
    marked =
        reads_as (front ++ results_begin) (raw_lines front ++ (results_begin ∷ []) ∷ []) (whole results_begin)
        (faults_joined 1 (raw_lines front) ((results_begin ∷ []) ∷ [])
        ∙ none_first (faults_from 1 (raw_lines front)) (faults_from n ((results_begin ∷ []) ∷ [])) read.clean (none_first (faults n (results_begin ∷ [])) [] (results_clean n) refl))
        ∙ ap Ok (rows_joined 1 (raw_lines front) ((results_begin ∷ []) ∷ []))

    mark_placed : misplaced (codes "%results") [] (rows ++ results_mark n ∷ []) ≡ None
    mark_placed = misplaced_joined (codes "%results") [] rows (results_mark n ∷ []) placed (rw none refl)

    at_mark : lone_head_of (front ++ results_begin) ≡ steps_on (configuration_in rows) (status_in rows) (λ head. Ok head)
    unfolding lone_head_of
    at_mark =
        with_last sections_of (λ all. nothing_yet) (front ++ results_begin) (codes "%results") rows (results_mark n) [] marked (rw mark_placed refl)
        (place-behind results_line rows (results_mark n) [] none refl)

    pub same_with_mark : lone_head_of (front ++ results_begin) ≡ Ok head
    same_with_mark = at_mark ∙ (sym alone ∙ says)
