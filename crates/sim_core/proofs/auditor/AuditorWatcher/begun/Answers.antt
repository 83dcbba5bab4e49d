use Rattle.std.proofs.Common.{[], ◌∷◌, refl}
use Rattle.cluster_types.specs.declared.journal.Event.TheVariants.{Begin}
use Rattle.cluster_types.specs.declared.run.RunLine.TheVariants as line
use Rattle.sim_core.proofs.Shows.{shows_event}
use Rattle.sim_core.proofs.auditor.AuditorWatcher.begun.Goals as goal

pub returns-clause-shown : goal.returns-clause-shown
returns-clause-shown c v action was =
    shows_event c.args.self.now c.hear.new.self (line.Begin c.args.number c.args.action) refl (Begin c.args.number c.args.action ∷ []) refl c.hear.result
    c.hear.ensures.passes c.hear.ensures.stops v was
