use Rattle.trace_text.proofs.ShortLines.{first_added}
use Rattle.trace_text.proofs.line_buf.LineBufLineText.put.Goals as goal

pub returns : goal.returns
returns c =
    first_added c.room.result c.args.self.now c.add.new.self c.args.bytes.now c.room.ensures (rw c.min-count.ensures at c.add.ensures)
