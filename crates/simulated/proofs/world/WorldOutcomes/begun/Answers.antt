use Rattle.std.proofs.Common.{refl}
use Rattle.simulated.proofs.Agreeing.{begun_agrees}
use Rattle.simulated.proofs.world.WorldOutcomes.begun.Goals as goal

pub returns-clause-agrees : goal.returns-clause-agrees
returns-clause-agrees c = λ d es taken a.
    let s = c.self.inside in
    begun_agrees (record { reality = s.reality; since = s.since; asked = s.asked; answered = s.answered }) d es taken (rw (← c.self.view_is) at a) (record { reality = c.begin.new.self; since = s.since; asked = s.asked; answered = s.answered })
    (record { same = c.begin.ensures.same; since_stays = refl }) c.args._number c.args.action c.begin.ensures.shows
