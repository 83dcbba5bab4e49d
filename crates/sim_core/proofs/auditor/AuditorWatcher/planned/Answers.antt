use Rattle.std.proofs.Common.{refl, subst}
use Rattle.cluster_types.specs.declared.cluster.Cluster.{Cluster}
use Rattle.graph_exec.specs.WatcherLines.{StopsAmong, plan_lines, view_amid, view_between}
use Rattle.sim_core.specs.Inner.Auditors.{PassesLines, StopsAtLine, audited_cluster}
use Rattle.sim_core.proofs.Shows.{none_of_plan, shows_others}
use Rattle.sim_core.proofs.auditor.AuditorWatcher.planned.Goals as goal

pub returns-clause-follows : goal.returns-clause-follows
returns-clause-follows c go cluster same =
    subst (λ (x : Cluster). PassesLines c.args.self.now c.hear_plan.new.self (plan_lines x c.args.transition c.args.placed.now)) same (c.hear_plan.ensures.passes go)

pub returns-clause-stopped : goal.returns-clause-stopped
returns-clause-stopped c stop cluster same =
    subst (λ (x : Cluster). StopsAmong (StopsAtLine c.args.self.now c.hear_plan.new.self) (plan_lines x c.args.transition c.args.placed.now)) same (c.hear_plan.ensures.stops stop)

pub returns-clause-shown : goal.returns-clause-shown
returns-clause-shown c cluster promotions es actions plan was =
    shows_others c.args.self.now c.hear_plan.new.self (plan_lines (audited_cluster c.args.self.now) c.args.transition c.args.placed.now)
    (none_of_plan (audited_cluster c.args.self.now) c.args.transition c.args.placed.now) c.hear_plan.result c.hear_plan.ensures.passes c.hear_plan.ensures.stops
    (view_between cluster promotions es) (view_amid cluster promotions actions es) refl was
