use Rattle.std.proofs.Common.{arith}
use Rattle.cluster_io.proofs.Windows.{received_behind}
use Rattle.cluster_io.proofs.window.read_behind.Goals as goal

pub returns-clause-received : goal.returns-clause-received
returns-clause-received g c =
    received_behind c.read.result c.args.end c.args.most _ c.args.bytes.now c.read.new.buf _ _ (grind arith)
    c.requires.fits c.read.ensures.bytes
