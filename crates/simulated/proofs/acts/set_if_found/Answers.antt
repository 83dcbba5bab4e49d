use Rattle.simulated.proofs.acts.set_if_found.Goals as goal

pub returns-then-is_there-clause-held : goal.returns-then-is_there-clause-held
returns-then-is_there-clause-held c = λ held h.
    let found = rw c.as_slice.ensures.value at c.found_at.ensures in
    rw (← found held h, ← c.if-is_there.ensures) (c.set_cell.ensures.held held h)

pub returns-else-is_there-clause-held : goal.returns-else-is_there-clause-held
returns-else-is_there-clause-held c = λ held h.
    let found = rw c.as_slice.ensures.value at c.found_at.ensures in
    rw (← found held h, ← c.if-is_there.ensures) h
