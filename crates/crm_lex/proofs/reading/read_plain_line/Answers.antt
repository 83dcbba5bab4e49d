use Rattle.std.proofs.Common.{◌≡◌, true, false, length, sym, ap, ◌∙◌, arith}
use Rattle.crm_lex.specs.RawLines.{begins_comment, content}
use Rattle.crm_lex.proofs.PlainLines.{short-plain, plain_fault, plain_comment, plain_words}
use Rattle.crm_lex.proofs.reading.read_plain_line.Goals as goal

pub returns-in-Some-clause-words : goal.returns-in-Some-clause-words
returns-in-Some-clause-words c = plain_fault c.args.number c.args.raw.now c.requires.plain c.in-Some.fault c.in-Some.ensures

pub returns-then-begins_comment-clause-words : goal.returns-then-begins_comment-clause-words
returns-then-begins_comment-clause-words c =
    let comment : begins_comment (content c.args.raw.now) ≡ true = ap begins_comment (sym c.content-content.ensures.content) ∙ sym c.if-begins_comment.ensures in
    rw c.new.ensures (plain_comment c.args.number c.args.raw.now c.requires.plain c.in_default.ensures comment)

pub read_words-requires : goal.read_words-requires
read_words-requires c =
    let same = ap length c.content-content.ensures.content in
    omega (arith, same, short-plain c.args.raw.now c.requires.plain, c.requires.room)

pub returns-clause-words : goal.returns-clause-words
returns-clause-words c =
    let comment : begins_comment (content c.args.raw.now) ≡ false = ap begins_comment (sym c.content-content.ensures.content) ∙ sym c.if-begins_comment.ensures in
    plain_words c.args.number c.args.raw.now c.requires.plain c.read_words.result c.in_default.ensures comment (rw (← c.content-content.ensures.content) c.read_words.ensures.words) c.read_words.ensures.memory
