use Rattle.input_reading.proofs.ValidInput.{cluster_given}
use Rattle.input_reading.proofs.input.reading.cluster_in.Goals as goal

pub returns-clause-valid : goal.returns-clause-valid
returns-clause-valid c =
    cluster_given c.args.found.now.crm c.args.found.now.leaves c.resolved.result c.requires.stated c.requires.leaves c.resolved.ensures
