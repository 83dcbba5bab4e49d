use Rattle.cases.proofs.resources.push_primitive_with.Goals as goal

pub returns : goal.returns
returns c = rw c.monitor_words-monitor.ensures at c.writeln.ensures.bytes
