use Rattle.std.proofs.Common.{inl, inr, refl}
use Rattle.simulated.proofs.rising.give_up_op.Goals as goal

pub returns-in-Start-clause-held : goal.returns-in-Start-clause-held
returns-in-Start-clause-held c = rw c.in-Start.is c.let_rise.ensures.held

pub returns-in-Start-clause-alone : goal.returns-in-Start-clause-alone
returns-in-Start-clause-alone c = rw c.in-Start.is c.let_rise.ensures.alone

pub returns-in-Stop : goal.returns-in-Stop
returns-in-Stop c =
    elim c.in-Stop.is [
      | inl e ↦ rw e (record { held = λ held h. h; alone = λ held h alone r n l m g. alone r n l m g; len = refl })
      | inr f ↦ elim f [
        | inl e ↦ rw e (record { held = λ held h. h; alone = λ held h alone r n l m g. alone r n l m g; len = refl })
        | inr g ↦ elim g [
          | inl e ↦ rw e (record { held = λ held h. h; alone = λ held h alone r n l m i. alone r n l m i; len = refl })
          | inr e ↦ rw e (record { held = λ held h. h; alone = λ held h alone r n l m i. alone r n l m i; len = refl })
        ]
      ]
    ]
