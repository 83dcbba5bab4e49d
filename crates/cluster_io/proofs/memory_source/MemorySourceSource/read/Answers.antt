use Rattle.std.proofs.Common.{◌≡◌, arith, ap, Some, drop, length, take}
use Rattle.std.proofs.lemmas.Grind.{common_steps}
use Rattle.std.proofs.lemmas.List.{take_rest}
use Rattle.cluster_io.proofs.Pieces.{piece-copied}
use Rattle.cluster_io.proofs.memory_source.MemorySourceSource.read.Goals as goal

pub returns-clause-bytes : goal.returns-clause-bytes
returns-clause-bytes c =
    let s = c.self.inside in
    let n = c.min-count.result in
    let new = c.copy_from_slice.new.self in
    let len : length new ≡ n = grind (arith, common_steps) in
    let copied : new ≡ take n (drop s.at s.bytes.items) = cc (take_rest c.deref-2.result.now s.at) in
    let rest = drop n c.args.buf.now in
    let given = piece-copied s.bytes.items rest new s.at n len copied in
    (omega arith, grind (arith, common_steps), rw (← c.self.view_is) (ap Some given))
