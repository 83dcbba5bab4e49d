use Rattle.run_safety.proofs.ByNumber.{by_number}
use Rattle.run_safety.proofs.rest.both_say_what_is_in_flight.Goals as goal

pub returns : goal.returns
returns c = λ t whole rest left since idle goes. by_number t whole rest left since idle goes
