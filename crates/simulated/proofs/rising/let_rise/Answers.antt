use Rattle.std.proofs.Common.{sym, ◌∙◌}
use Rattle.simulated.specs.declared.real.Real.TheVariants as real
use Rattle.simulated.specs.RealWorlds.{rising_from, with_changed_cell}
use Rattle.simulated.proofs.Holding.{changed_to, holds_as, not_changed, nothing_found, something_found}
use Rattle.simulated.proofs.rising.let_rise.Goals as goal

pub returns-then-is_there-clause-held : goal.returns-then-is_there-clause-held
returns-then-is_there-clause-held c = λ held h.
    let cluster = c.args.cluster.now in
    let found = rw c.as_slice.ensures.value at c.found_at.ensures in
    let is = rw (found held h) at (sym c.if-is_there.ensures) in
    holds_as cluster c.args.cells.now.items held (with_changed_cell c.args.leaf c.args.node rising_from held) h
    (not_changed cluster c.args.leaf c.args.node held rising_from (something_found _ is))

pub returns-then-is_there-clause-alone : goal.returns-then-is_there-clause-alone
returns-then-is_there-clause-alone c = λ held h alone r n l m e.
    let cluster = c.args.cluster.now in
    let found = rw c.as_slice.ensures.value at c.found_at.ensures in
    let is = rw (found held h) at (sym c.if-is_there.ensures) in
    alone r n l m (not_changed cluster c.args.leaf c.args.node held rising_from (something_found _ is) r n l m ∙ e)

pub returns-clause-held : goal.returns-clause-held
returns-clause-held c = λ held h.
    let cluster = c.args.cluster.now in
    let found = rw c.as_slice.ensures.value at c.found_at.ensures in
    let is = rw (found held h) at (sym c.if-is_there.ensures) in
    holds_as cluster c.set_cell.new.cells.items (with_changed_cell c.args.leaf c.args.node (λ x. real.Rising) held) (with_changed_cell c.args.leaf c.args.node rising_from held)
    (c.set_cell.ensures.held held h) (changed_to cluster c.args.leaf c.args.node held real.Rising rising_from (nothing_found _ is))
