use Rattle.std.proofs.Common.{inl, inr, refl}
use Rattle.simulated.proofs.Holding.{undone_rising}
use Rattle.cluster_types.specs.declared.journal.Action.TheVariants.{MigrateTo}
use Rattle.simulated.proofs.rising.give_up.Goals as goal

pub returns-in-Operation-clause-held : goal.returns-in-Operation-clause-held
returns-in-Operation-clause-held c = rw c.in-Operation.is c.give_up_op.ensures.held

pub returns-in-Operation-clause-alone : goal.returns-in-Operation-clause-alone
returns-in-Operation-clause-alone c = rw c.in-Operation.is c.give_up_op.ensures.alone

pub returns-in-MigrateTo-clause-held : goal.returns-in-MigrateTo-clause-held
returns-in-MigrateTo-clause-held c = rw c.in-MigrateTo.is c.set_if_found.ensures.held

pub returns-in-MigrateTo-clause-alone : goal.returns-in-MigrateTo-clause-alone
returns-in-MigrateTo-clause-alone c =
    rw c.in-MigrateTo.is
    (λ held h alone r n l m e. alone r n l m (undone_rising c.args.cluster.now held r n (MigrateTo c.in-MigrateTo.leaf c.in-MigrateTo.source c.in-MigrateTo.target) e))

pub returns-in-Fence : goal.returns-in-Fence
returns-in-Fence c =
    elim c.in-Fence.is [
      | inl e ↦ rw e.1 (record { held = λ held h. h; alone = λ held h alone r n l m g. alone r n l m g; len = refl })
      | inr f ↦ elim f [
        | inl e ↦ rw e.2 (record { held = λ held h. h; alone = λ held h alone r n l m g. alone r n l m g; len = refl })
        | inr e ↦ rw e.3 (record { held = λ held h. h; alone = λ held h alone r n l m g. alone r n l m g; len = refl })
      ]
    ]
