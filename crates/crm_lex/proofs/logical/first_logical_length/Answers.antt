use Rattle.std.proofs.Common.{sym, arith}
use Rattle.std.proofs.lemmas.List.{take_rest}
use Rattle.crm_lex.proofs.Groups.{front_more, front_ends, front_all}
use Rattle.crm_lex.proofs.logical.first_logical_length.Goals as goal

pub returns-then-not-goes_on-clause-lines : goal.returns-then-not-goes_on-clause-lines
returns-then-not-goes_on-clause-lines c =
    let l = c.loop-at in
    let whole = rw take_rest at c.first_line.ensures.whole in
    let lines = rw take_rest at c.first_line.ensures.lines in
    front_ends c.args.text.now l.at l.continues _ _ l.invariant whole lines (sym c.if-not-goes_on.ensures)

pub loop-at-preserved : goal.loop-at-preserved
loop-at-preserved c =
    let l = c.loop-at in
    let whole = rw take_rest at c.first_line.ensures.whole in
    let lines = rw take_rest at c.first_line.ensures.lines in
    front_more c.args.text.now l.at l.continues _ _ l.invariant whole lines (sym c.if-not-goes_on.ensures)

pub returns-clause-lines : goal.returns-clause-lines
returns-clause-lines c =
    let l = c.loop-at in
    front_all c.args.text.now l.continues l.at c.requires (omega (arith, l.invariant.within)) l.invariant
