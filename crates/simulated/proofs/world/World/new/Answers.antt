use Rattle.std.proofs.Common.{sym}
use Rattle.simulated.proofs.Agreeing.{first_agrees}
use Rattle.simulated.proofs.world.World.new.Goals as goal

pub returns-clause-agrees : goal.returns-clause-agrees
returns-clause-agrees c =
    first_agrees (record { reality = c.in_ok-reality.reality; since = c.len.result; asked = 0; answered = 0 }) c.args.cluster.now c.args.journal.now.events c.in_ok-reality.ensures.cluster
    (sym c.len.ensures) (rw c.as_slice.ensures at c.in_ok-reality.ensures.shows)
