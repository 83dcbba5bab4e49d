use Rattle.cluster_types.specs.Runs.{journal_at}
use Rattle.simulated.proofs.Within.{always}
use Rattle.simulated.proofs.text_laws.what_is_real_at_the_end_may_run.Goals as goal

pub returns : goal.returns
returns c = λ cl journal number text is.
    always cl number journal.events (journal_at is.lived.at) is.world is.lived.goes.lives
