use Rattle.std.proofs.Common.{ap, arith}
use Rattle.cluster_io.specs.LineReaders.{reading_of, source_of}
use Rattle.cluster_io.specs.Readings.{Reading}
use Rattle.sim_core.proofs.Beginnings.{faulty_read, stops}
use Rattle.sim_core.proofs.beginning.begin.Goals as goal

pub returns-in-Err-clause-stopped : goal.returns-in-Err-clause-stopped
returns-in-Err-clause-stopped g c =
    stops _ _ _ _ c.in-Err.stop c.requires c.in-Err.ensures.stop c.in-Err.ensures.amid

pub read_lone_head-requires : goal.read_lone_head-requires
read_lone_head-requires g c =
    let within = c.in-Ok.ensures.within in
    let room = ap (λ (r : Reading). r.room) c.requires in
    omega (arith, within, room)

pub returns-in-Err-At-clause-stopped : goal.returns-in-Err-At-clause-stopped
returns-in-Err-At-clause-stopped g c =
    faulty_read (reading_of c.args.reader.now) (reading_of c.read_head.new.reader) _ _ (g.S.Source.left (source_of c.args.reader.now))
    (g.S.Source.left (source_of c.read_head.new.reader)) _ _ _ c.requires c.in-Ok.ensures.head c.in-Err-At.field-0-is c.in-Err-At.ensures.read
