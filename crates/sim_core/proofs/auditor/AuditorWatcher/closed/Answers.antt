use Rattle.std.proofs.Common.{[], ◌∷◌, refl}
use Rattle.cluster_types.specs.declared.run.RunLine.TheVariants as line
use Rattle.graph_exec.specs.WatcherLines.{view_amid, view_between}
use Rattle.sim_core.proofs.Shows.{shows_others}
use Rattle.sim_core.proofs.auditor.AuditorWatcher.closed.Goals as goal

pub returns-then-complete-clause-shown : goal.returns-then-complete-clause-shown
returns-then-complete-clause-shown c cluster promotions actions es was =
    shows_others c.args.self.now c.hear.new.self (line.Complete c.args.transition ∷ []) refl c.hear.result c.hear.ensures.passes
    (λ stop. record { before = []; at = line.Complete c.args.transition; behind = []; parts = refl; stopped = c.hear.ensures.stops stop })
    (view_amid cluster promotions actions es) (view_between cluster promotions es) refl was

pub returns-clause-shown : goal.returns-clause-shown
returns-clause-shown c cluster promotions actions es was =
    shows_others c.args.self.now c.hear-2.new.self (line.Aborted c.args.transition ∷ []) refl c.hear-2.result c.hear-2.ensures.passes
    (λ stop. record { before = []; at = line.Aborted c.args.transition; behind = []; parts = refl; stopped = c.hear-2.ensures.stops stop })
    (view_amid cluster promotions actions es) (view_between cluster promotions es) refl was
