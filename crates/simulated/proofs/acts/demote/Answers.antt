use Rattle.std.proofs.Common.{sym}
use Rattle.simulated.specs.declared.real.Real.TheVariants as real
use Rattle.simulated.specs.RealWorlds.{demoted, with_changed_cell}
use Rattle.simulated.proofs.Holding.{changed_to, holds_as, is_promoted_found, not_changed, not_promoted_found}
use Rattle.simulated.proofs.acts.demote.Goals as goal

pub returns-then-is_promoted-clause-held : goal.returns-then-is_promoted-clause-held
returns-then-is_promoted-clause-held c = λ held h.
    let cluster = c.args.cluster.now in
    let found = rw c.as_slice.ensures.value at c.found_at.ensures in
    let is = rw (found held h) at (sym c.if-is_promoted.ensures) in
    holds_as cluster c.set_cell.new.cells.items (with_changed_cell c.args.leaf c.args.node (λ x. real.Started) held) (with_changed_cell c.args.leaf c.args.node demoted held)
    (c.set_cell.ensures.held held h) (changed_to cluster c.args.leaf c.args.node held real.Started demoted (is_promoted_found _ is))

pub returns-else-is_promoted-clause-held : goal.returns-else-is_promoted-clause-held
returns-else-is_promoted-clause-held c = λ held h.
    let cluster = c.args.cluster.now in
    let found = rw c.as_slice.ensures.value at c.found_at.ensures in
    let is = rw (found held h) at (sym c.if-is_promoted.ensures) in
    holds_as cluster c.args.cells.now.items held (with_changed_cell c.args.leaf c.args.node demoted held) h
    (not_changed cluster c.args.leaf c.args.node held demoted (not_promoted_found _ is))
