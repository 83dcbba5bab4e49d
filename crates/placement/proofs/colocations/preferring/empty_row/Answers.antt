use Rattle.placement.proofs.Given.{zero-row}
use Rattle.placement.proofs.colocations.preferring.empty_row.Goals as goal

pub returns : goal.returns
returns c = zero-row c.args.nodes c.in_ok-row.row c.in_ok-row.ensures.terms c.in_ok-row.ensures.finite
