use Rattle.sim_core.proofs.summary.summary_text.Goals as goal

pub push_run-requires : goal.push_run-requires
push_run-requires c =
    let counted = rw c.as_slice.ensures at c.last_targets-targets.ensures c.args.cluster.now c.args.run.now.journal.events in
    counted c.requires
