use Rattle.placement.proofs.RowSums.{add-rows}
use Rattle.placement.proofs.totals.adding.add_terms.Goals as goal

pub returns-clause-terms : goal.returns-clause-terms
returns-clause-terms c = λ nodes f g one two.
    add-rows nodes f g c.args.into.now c.args.other.now c.add_row.new.into c.add_row.ensures.terms c.add_row.ensures.finite one two
