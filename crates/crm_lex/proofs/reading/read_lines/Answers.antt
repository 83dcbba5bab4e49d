use Rattle.std.proofs.Common.{rules, ◌≡◌, ◌++◌, Err, Global, length, refl, sym, ap, ◌∙◌, append_assoc, arith}
use Rattle.std.proofs.lemmas.List.{length-append}
use Rattle.crm_lex.specs.RawLines.{physical_lines}
use Rattle.crm_lex.specs.Words.{words_of}
use Rattle.crm_lex.specs.LogicalLines.{line_text}
use Rattle.crm_lex.specs.Reading.{row}
use Rattle.crm_lex.proofs.Answered.{fault_later, rows_later, gives_line_fault, line_words}
use Rattle.crm_lex.proofs.reading.read_lines.Goals as goal

pub loop-rest-preserved : goal.loop-rest-preserved
loop-rest-preserved c =
    let l = c.loop-rest in
    let raw = physical_lines c.first_logical_line.result.0.now in
    let size = ap length c.first_logical_line.ensures.whole in
    let read = line_words l.number c.first_logical_line.result.0.now c.in_ok-words.words c.in_ok-words.ensures.words in
    let front : c.add_row.new.lines.items ≡ l.lines.items ++ row l.number (words_of (line_text raw)) =
    c.in_ok-add_row.ensures ∙ ap (λ ws. l.lines.items ++ row l.number ws) read.1 in
    record {
      few = omega (arith, l.invariant.few, size, length-append c.first_logical_line.result.0.now c.first_logical_line.result.1.now, c.line_count.ensures.count, c.first_logical_line.ensures.few);
      fault = l.invariant.fault ∙ (fault_later l.number _ _ _ c.first_logical_line.ensures.lines read.0 ∙ rw c.line_count.ensures.count refl);
      rows = l.invariant.rows ∙ (ap (λ xs. l.lines.items ++ xs) (rows_later l.number _ _ _ c.first_logical_line.ensures.lines) ∙ rw (front, c.line_count.ensures.count) (sym (append_assoc l.lines.items _ _)));
      text_room = omega (arith, l.invariant.text_room, c.read_line.ensures.text_room);
      word_room = omega (arith, l.invariant.word_room, c.read_line.ensures.word_room);
    }

pub returns-in_err-words : goal.returns-in_err-words
returns-in_err-words c =
    let l = c.loop-rest in
    let raw = c.first_logical_line.result.0.now in
    let fault : c.from_residual.result ≡ Err c.in_err-words.field-0.0 = search rules in
    rw fault (gives_line_fault Global c.args.bytes.now raw l.number _ _ c.first_logical_line.ensures.lines l.invariant.fault c.in_err-words.field-0.0 c.in_err-words.ensures.words)
