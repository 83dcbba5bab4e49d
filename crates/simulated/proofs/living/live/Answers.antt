use Rattle.simulated.proofs.Lived.{lived_on, lived_whole}
use Rattle.simulated.proofs.living.live.Goals as goal

pub returns-in-Ok : goal.returns-in-Ok
returns-in-Ok c =
    lived_whole c.args.cluster.now c.args.journal c.args.world.now c.replay.new.outcomes c.requires.since c.in-Ok.ensures.source.came c.in-Ok.run' c.in-Ok.ensures.plans
    (c.in-Ok.ensures.agrees c.requires.agrees) _ c.in-Ok.ensures.run

pub returns-in-Err-Most : goal.returns-in-Err-Most
returns-in-Err-Most c =
    let h = c.in-Err-Most in
    lived_on c.args.cluster.now c.args.journal c.args.world.now c.replay.new.outcomes c.requires.since (rw h.field-0-is at h.ensures.source).came h.run'
    (rw h.field-0-is at h.ensures.plans) (rw h.field-0-is at (h.ensures.agrees c.requires.agrees)) (rw h.field-0-is at h.ensures.run)
