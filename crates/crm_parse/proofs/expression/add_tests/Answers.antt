use Rattle.std.proofs.Common.{◌≡◌, Err, rules}
use Rattle.crm_parse.proofs.Bounds.{tests-fault}
use Rattle.crm_parse.proofs.expression.add_tests.Goals as goal

pub returns-in_err-rest-clause-read : goal.returns-in_err-rest-clause-read
returns-in_err-rest-clause-read c =
    let fault : c.from_residual.result ≡ Err c.in_err-rest.field-0.0 = search rules in
    let inv = c.loop-all.invariant.1 in
    rw (fault, inv.2) (tests-fault c.in_err-rest.field-0.0 inv.0 c.loop-all.expression c.in-Some.all c.loop-all.rest.now (cc) inv.1 c.in_err-rest.ensures.read)
