use Rattle.sim_core.proofs.OneSummary.{all_fit}
use Rattle.sim_core.proofs.gen_summary.summary_by.Goals as goal

pub summary_text-requires : goal.summary_text-requires
summary_text-requires c = all_fit c.args.cluster.now c.args.journal.promotions c.in_ok-run.run'.journal.events c.in_ok-run.run'.passed c.in_ok-run.ensures.plans
