use Rattle.std.proofs.Common.{ap, ◌∙◌}
use Rattle.graph_exec.specs.Executors.{ExecutorOf}
use Rattle.graph_exec.proofs.Ready.{is_ready}
use Rattle.graph_exec.proofs.Served.{serves_again}
use Rattle.graph_exec.proofs.run.planning.plan_next.Goals as goal

pub plan_for-requires-clause-valid : goal.plan_for-requires-clause-valid
plan_for-requires-clause-valid c = rw c.cluster.ensures c.requires.valid

pub plan_for-requires-clause-told : goal.plan_for-requires-clause-told
plan_for-requires-clause-told c = rw c.cluster.ensures (record { events = c.args.journal.events; promotions = c.args.journal.promotions; told = c.in_ok-states.ensures })

pub plan_for-requires-clause-last : goal.plan_for-requires-clause-last
plan_for-requires-clause-last c = rw c.cluster.ensures c.requires.last

pub returns-clause-ready : goal.returns-clause-ready
returns-clause-ready c =
    let serves = rw c.cluster.ensures at c.in_ok-plan.ensures.serves in
    let out = serves c.args.journal.events c.args.journal.promotions (c.in_ok-plan.ensures.states ∙ c.in_ok-states.ensures) in
    is_ready c.args.journal (record { states = c.in_ok-plan.plan.states; rights = c.in_ok-plan.plan.rights; placed = c.in_ok-plan.plan.placed; executor = c.in-Ok.executor }) c.in_ok-plan.plan.graph
    c.requires.valid c.requires.at_rest c.in-Ok.ensures.ok out

pub returns-clause-serves : goal.returns-clause-serves
returns-clause-serves c =
    serves_again _ c.in_ok-plan.plan _ (ap (λ (r : ExecutorOf). r.graph) c.in-Ok.ensures.ok) (rw c.cluster.ensures at c.in_ok-plan.ensures.serves)
