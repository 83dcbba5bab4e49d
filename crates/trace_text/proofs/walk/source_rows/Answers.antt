use Rattle.std.proofs.Common.{rules}
use Rattle.trace_text.proofs.TurnedEdges.{turned_within}
use Rattle.trace_text.proofs.walk.source_rows.Goals as goal

pub new-requires : goal.new-requires
new-requires c = turned_within c.args.edges.now.positions c.args.edges.now.list _ c.requires (search rules)
