use Rattle.run_safety.proofs.PlansAreOne.{plans_one}
use Rattle.run_safety.proofs.SoFar.{so_far_one}
use Rattle.run_safety.proofs.parts.runs_so_far_are_unique.Goals as goal

pub returns : goal.returns
returns c = λ cl ps es left right rest lines others told one two. so_far_one cl ps (plans_one cl ps) es rest told left right lines others one two
