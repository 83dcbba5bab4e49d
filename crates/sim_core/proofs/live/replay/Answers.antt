use Rattle.std.proofs.Common.{ap, refl, rules}
use Rattle.sim_core.proofs.LiveSays.{reaches_by, reads_bear, run_told, stop_told, write_fault_by}
use Rattle.cluster_io.proofs.Bearing.{Bears-as}
use Rattle.sim_core.specs.Inner.LiveSteps.{status_of}
use Rattle.sim_core.proofs.live.replay.Goals as goal

pub returns-in-Err-clause-says : goal.returns-in-Err-clause-says
returns-in-Err-clause-says g c =
    stop_told g.S.Source.left _ _ _ _ _ _ _ _ c.over-reader.ensures.source (search rules) c.in-Err.ensures.stopped c.stop.ensures.says

pub returns-clause-says : goal.returns-clause-says
returns-clause-says g c =
    let reached = reaches_by g.S.Source.left _ _ _ _ _ _ _ _ _ _ _ _ refl refl refl c.in-Ok-new-2.ensures c.run_behind-end.ensures.reaches in
    run_told g.S.Source.left _ _ _ _ _ _ _ c.in-Ok-begin.beginning.head _ _ _ c.over-reader.ensures.source (search rules)
    c.status_of.ensures c.in-Ok-begin.ensures.begun reached c.run_behind-end.ensures.at_end

pub returns-clause-reads : goal.returns-clause-reads
returns-clause-reads g c =
    reads_bear g.S.Source.left g.S.Source.faults _ _ _ _ _ _ _ _ _ c.over-reader.ensures.source (search rules) c.status_of.ensures c.in-Ok-begin.ensures.bears
    (λ e. cc) c.run_behind-end.ensures.reads

pub returns-clause-writes : goal.returns-clause-writes
returns-clause-writes g c =
    rw c.status_of.ensures (Bears-as _ _ _ _ _ (λ e. ap status_of e) (write_fault_by _) c.run_behind-end.ensures.writes)
