use Rattle.std.proofs.Common.{◌-◌, sym, length, take}
use Rattle.crm_lex.proofs.Ends.{front_and_last, content-none, content_at_feed, content_at_return}
use Rattle.crm_lex.proofs.physical.content.Goals as goal

pub returns-then-not-ends_in-clause-content : goal.returns-then-not-ends_in-clause-content
returns-then-not-ends_in-clause-content c = sym (content-none c.args.line.now (sym c.if-not-ends_in.ensures))

pub returns-then-ends_in-clause-content : goal.returns-then-ends_in-clause-content
returns-then-ends_in-clause-content c =
    let line = c.args.line.now in
    content_at_return line (take (length line - 1) line) (front_and_last 10 line (sym c.if-not-ends_in.ensures)) (sym c.if-ends_in.ensures)

pub returns-else-ends_in-clause-content : goal.returns-else-ends_in-clause-content
returns-else-ends_in-clause-content c =
    let line = c.args.line.now in
    content_at_feed line (take (length line - 1) line) (front_and_last 10 line (sym c.if-not-ends_in.ensures)) (sym c.if-ends_in.ensures)
