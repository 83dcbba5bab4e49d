use Rattle.std.proofs.Common.{rules}
use Rattle.score.proofs.SmallRows.{small_put}
use Rattle.base_cases.proofs.rows.put_next.Goals as goal

pub returns-clause-small : goal.returns-clause-small
returns-clause-small c =
    small_put c.args.row.now c.put.new.self c.args.calls c.args.node c.args.points c.requires.points
    c.requires.small (search (rules, c.put.ensures.finite)) c.put.ensures.others
