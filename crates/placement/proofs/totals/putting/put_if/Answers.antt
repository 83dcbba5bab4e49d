use Rattle.std.proofs.Common.{rules, ◌<◌, arith}
use Rattle.score.specs.Total.{IsScore}
use Rattle.placement.proofs.TermRows.{put-row}
use Rattle.placement.proofs.totals.putting.put_if.Goals as goal

pub returns-then-wanted-clause-terms : goal.returns-then-wanted-clause-terms
returns-then-wanted-clause-terms c = λ nodes terms size is.
    let within : IsScore c.args.term = search rules in
    let low : c.args.node < nodes = omega (arith, size, c.requires.node) in
    rw c.if-wanted.true
    (put-row nodes c.args.node c.args.term terms c.args.row.now c.put.new.self low within c.put.ensures.terms c.put.ensures.finite c.put.ensures.others is)
