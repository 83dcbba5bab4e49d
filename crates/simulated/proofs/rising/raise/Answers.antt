use Rattle.std.proofs.Common.{sym}
use Rattle.simulated.specs.declared.real.Real.TheVariants as real
use Rattle.simulated.specs.RealWorlds.{risen, with_changed_cell}
use Rattle.simulated.proofs.Holding.{holds_as, is_rising_found, none_risen, one_risen}
use Rattle.simulated.proofs.rising.raise.Goals as goal

pub returns-then-is_rising-clause-held : goal.returns-then-is_rising-clause-held
returns-then-is_rising-clause-held c = λ held h alone.
    let cluster = c.args.cluster.now in
    let found = rw c.as_slice.ensures.value at c.found_at.ensures in
    let is = rw (found held h) at (sym c.if-is_rising.ensures) in
    holds_as cluster c.set_cell.new.cells.items (with_changed_cell c.in-Some.leaf c.in-Some.node (λ x. real.Started) held) (λ r n. risen (held r n))
    (c.set_cell.ensures.held held h) (one_risen cluster c.in-Some.leaf c.in-Some.node held (rw c.in-Some.is at alone) (is_rising_found _ is))

pub returns-else-is_rising-clause-held : goal.returns-else-is_rising-clause-held
returns-else-is_rising-clause-held c = λ held h alone.
    let cluster = c.args.cluster.now in
    let found = rw c.as_slice.ensures.value at c.found_at.ensures in
    let is = rw (found held h) at (sym c.if-is_rising.ensures) in
    holds_as cluster c.args.cells.now.items held (λ r n. risen (held r n)) h
    (none_risen cluster c.in-Some.leaf c.in-Some.node held (rw c.in-Some.is at alone) is)
