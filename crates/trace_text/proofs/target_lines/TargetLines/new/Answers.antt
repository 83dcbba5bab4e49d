use Rattle.cluster_types.specs.Tables.{targets_of}
use Rattle.trace_text.proofs.WalkOn.{all_lines_first}
use Rattle.trace_text.proofs.target_lines.TargetLines.new.Goals as goal

pub returns : goal.returns
returns c = all_lines_first c.args.cluster.now c.args.placed.now.pins (targets_of c.args.placed.now.table) c.args.placed.now.none
