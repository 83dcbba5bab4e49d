-- A text has no more words than bytes.
use Rattle.std.proofs.Common.{◌≡◌, ℕ, ◌+◌, ◌≤◌, Bool, true, false, ◌==◌, if◌then◌else◌, Option, Some, None}
use Rattle.std.proofs.Common.{List, [], ◌∷◌, length, map, filter, cond, Ok, refl, subst, ap, arith}
use Rattle.std.proofs.lemmas.List.{length-append, length-map}
use Rattle.std.proofs.lemmas.List.Sums.{sum_by-append}
use Rattle.std.specs.List.{concat, slice_split, onto_first}
use Rattle.crm_lex.specs.LogicalLines.{is_comment, joint, joined_text, line_text, with_joint}
use Rattle.crm_lex.specs.RawLines.{content, is_line_end, raw_lines}
use Rattle.crm_lex.specs.Reading.{faults_from, first_lex_fault, reads, row, rows_from}
use Rattle.crm_lex.specs.Words.{first_byte, has_pieces, is_gap, letters, pieces, place_after, words_of}
use Rattle.faults.proofs.Steps.{unless-ok}
use Rattle.crm_lex.specs.declared.line.Line.{Line}
use Rattle.crm_lex.specs.declared.quoting.Piece.{Piece}
use Rattle.crm_lex.specs.declared.quoting.Place.{Place}
use Rattle.crm_lex.specs.declared.quoting.Place.TheVariants.{Outside}
use Rattle.crm_lex.proofs.Ends.{length-content}
use Rattle.crm_lex.proofs.Pieces.{whole_by_pieces}
use Rattle.lex_bench.specs.Counting.{words_in}

-- pieces make no more words than there are pieces
few_parts : (ps : List Piece) → length (filter has_pieces (slice_split is_gap ps)) ≤ length ps
few_parts [] = omega arith
few_parts (p ∷ ps) = split (is_gap p) (slice_split is_gap ps) (few_parts ps)
  where
    onto : (parts : List (List Piece)) → length (filter has_pieces parts) ≤ length ps
        → length (filter has_pieces (onto_first p parts)) ≤ length (p ∷ ps)
    onto [] h = omega arith
    onto ([] ∷ parts) h = omega (arith, h)
    onto ((q ∷ part) ∷ parts) h = omega (arith, h)

    split : (t : Bool) (parts : List (List Piece)) → length (filter has_pieces parts) ≤ length ps
        → length (filter has_pieces (cond t ([] ∷ parts) (onto_first p parts))) ≤ length (p ∷ ps)
    split true parts h = omega (arith, h)
    split false parts h = onto parts h

length-pieces : (place : Place) (text : List ℕ) → length (pieces place text) ≡ length text
length-pieces place [] = refl
length-pieces place (b ∷ bs) = let more = length-pieces (place_after place b (first_byte bs)) bs in omega (arith, more)

few_words : (text : List ℕ) → length (words_of text) ≤ length text
few_words text =
    let parts = filter has_pieces (slice_split is_gap (pieces Outside text)) in
    omega (arith, few_parts (pieces Outside text), length-map parts letters, length-pieces Outside text)

-- the text of a logical line is no longer than its physical lines
short_joint : (lines : List (List ℕ)) → length (joint lines) ≤ 1
short_joint [] = omega arith
short_joint (line ∷ lines) = omega arith

short_with : (bytes text : List ℕ) → length bytes ≤ 1 → length (with_joint bytes text) ≤ length text
short_with bytes [] h = omega arith
short_with bytes (b ∷ []) h = split (b == 92)
  where
    split : (t : Bool) → length (if t then bytes else b ∷ []) ≤ 1
    split true = h
    split false = omega arith
short_with bytes (b ∷ c ∷ cs) h = omega (arith, short_with bytes (c ∷ cs) h)

short_joined : (lines : List (List ℕ)) → length (joined_text lines) ≤ length (concat lines)
short_joined [] = omega arith
short_joined (line ∷ lines) =
    let front = short_with (joint lines) (content line) (short_joint lines) in
    let joint_size = length-append (with_joint (joint lines) (content line)) (joined_text lines) in
    omega (arith, front, length-content line, joint_size, length-append line (concat lines), short_joined lines)

short_text : (lines : List (List ℕ)) → length (line_text lines) ≤ length (concat lines)
short_text lines = split (is_comment lines)
  where
    split : (t : Bool) → length (if t then [] else joined_text lines) ≤ length (concat lines)
    split true = omega arith
    split false = short_joined lines

words_in-row : (n : ℕ) (words : List (List ℕ)) → words_in (row n words) ≡ length words
words_in-row n [] = refl
words_in-row n (word ∷ words) = omega arith

few_in_rows : (n : ℕ) (groups : List (List (List ℕ))) → words_in (rows_from n groups) ≤ length (concat (map concat groups))
few_in_rows n [] = omega arith
few_in_rows n (group ∷ groups) =
    let words = words_of (line_text group) in
    let more = rows_from (n + length group) groups in
    let sums = sum_by-append (λ (line : Line). length line.words) (row n words) more in
    let sizes = length-append (concat group) (concat (map concat groups)) in
    omega (arith, sums, sizes, words_in-row n words, few_words (line_text group), short_text group, few_in_rows (n + length group) groups)

pub few_words_read : (text : List ℕ) (lines : List Line) → reads text ≡ Ok lines → words_in lines ≤ length text
few_words_read text lines e =
    let rows = (unless-ok (first_lex_fault (faults_from 1 (raw_lines text))) (rows_from 1 (raw_lines text)) lines e).1 in
    let bytes = ap length (whole_by_pieces text) in
    subst (λ (found : List Line). words_in found ≤ length text) rows (omega (arith, few_in_rows 1 (raw_lines text), bytes))
