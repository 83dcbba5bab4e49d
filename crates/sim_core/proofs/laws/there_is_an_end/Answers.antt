use Rattle.sim_core.proofs.SomeEnd.{some_end}
use Rattle.sim_core.proofs.laws.there_is_an_end.Goals as goal

pub returns : goal.returns
returns c = λ cl journal coming valid no_fault. some_end cl journal coming valid no_fault
