use Rattle.base_cases.proofs.resolved_texts.cluster.Goals as goal
use Rattle.input_reading.proofs.ValidInput.{stated_valid}

-- src/resolved_texts.rt:43:1
pub returns : goal.returns
returns g c =
    stated_valid c.crm-crm.result c.expect-leaves.result c.expect.result c.crm-crm.ensures.stated (rw c.expect-leaves.ensures at c.expand.ensures.leaves)
    (rw c.expect.ensures at c.resolve.ensures)
