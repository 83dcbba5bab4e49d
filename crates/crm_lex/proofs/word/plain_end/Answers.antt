use Rattle.std.proofs.Common.{◌≡◌, length, sym, subst, arith}
use Rattle.crm_lex.specs.Inner.Parts.{PlainBetween}
use Rattle.crm_lex.proofs.Words.{plain_here, plain_more}
use Rattle.crm_lex.proofs.word.plain_end.Goals as goal

pub loop-at-init : goal.loop-at-init
loop-at-init c = plain_here c.args.text.now c.args.from

pub loop-at-preserved : goal.loop-at-preserved
loop-at-preserved c =
    let l = c.loop-at in
    plain_more c.args.text.now c.args.from l.at l.auto.at c.loop-at-test.true (sym c.if-ends_plain.ensures) l.invariant

pub returns-clause-plain : goal.returns-clause-plain
returns-clause-plain c =
    let l = c.loop-at in
    let all : l.at ≡ length c.args.text.now = omega (arith, l.auto.at-end c.requires, c.loop-at-test.false) in
    subst (λ n. PlainBetween c.args.text.now c.args.from n) all l.invariant
