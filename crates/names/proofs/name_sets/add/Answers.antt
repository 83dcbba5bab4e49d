use Rattle.names.proofs.Sets.{added}
use Rattle.names.proofs.name_sets.add.Goals as goal

pub returns : goal.returns
returns c = added c.args.names.now.keys c.insert.new.self.keys c.args.name c.in_ok-insert.ensures.keys
