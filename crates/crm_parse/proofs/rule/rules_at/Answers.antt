use Rattle.std.proofs.Common.{◌≡◌, ◌<◌, length, Err, arith, rules}
use Rattle.std.proofs.lemmas.Bool.Decides.{nat_tests}
use Rattle.crm_parse.proofs.Bounds.{rules-fault}
use Rattle.crm_parse.proofs.rule.rules_at.Goals as goal

pub returns-in_err-rest : goal.returns-in_err-rest
returns-in_err-rest c =
    let fault : c.from_residual.result ≡ Err c.in_err-rest.field-0.0 = search rules in
    let some : 0 < length c.loop-rest.rest.now = grind (arith, nat_tests) in
    let inv = c.loop-rest.invariant in
    rw (fault, inv.2) (rules-fault c.in_err-rest.field-0.0 inv.0 c.loop-rest.rules c.loop-rest.rest.now some inv.1 c.in_err-rest.ensures.read)
