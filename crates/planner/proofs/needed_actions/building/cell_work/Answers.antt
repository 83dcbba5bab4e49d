use Rattle.std.proofs.Common.{ap}
use Rattle.cluster_types.specs.declared.states.Rights.{Rights}
use Rattle.cluster_types.specs.Tables.{targets_of}
use Rattle.planner.specs.Inner.Levels.{AreNeeds}
use Rattle.planner.proofs.needed_actions.building.cell_work.Goals as goal

pub returns : goal.returns
returns c = λ events promotions told allowed pins.
    let targets = targets_of c.args.placed.now.table in
    let needs : AreNeeds c.args.cluster.now events targets c.in_ok-needs.needs.items
    = c.in_ok-needs.ensures events promotions told pins (ap (λ (r : Rights). r.may_start) allowed) in
    record {
      nodes = c.in_ok-marks.ensures.nodes;
      needs = needs;
      cycled = c.in_ok-marks.ensures.marks events targets (rw c.as_slice.ensures.value needs);
    }
