-- What a line says, where the id of a rule is lent.
use Rattle.cluster_types.specs.declared.placement.NoReason.TheVariants as reason
use Rattle.cluster_types.specs.declared.run.RunLine.{RunLine}
use Rattle.cluster_types.specs.declared.run.RunLine.TheVariants.{Lacking}
use Rattle.input_reading.specs.declared.run.line.Said.{Said}
use Rattle.input_reading.specs.declared.run.line.Said.TheVariants.{Line, Held}

abbrev pub said_of : Said → RunLine
said_of (Line line) = line
said_of (Held leaf id) = Lacking leaf (reason.Held id.now)
