use Rattle.run_safety.proofs.Safe.{leaves_nothing}
use Rattle.run_safety.proofs.rest.nothing_stays_in_flight.Goals as goal

pub returns : goal.returns
returns c = λ ps placed t whole rest left later of goes ended. leaves_nothing ps placed t of whole rest left later goes ended.idle
