use Rattle.std.proofs.Common.{arith, ◌≡◌, ◌==◌, false, slice_index_or}
use Rattle.std.proofs.lemmas.Bool.{ne_eqb}
use Rattle.edges.proofs.SourceRows.{filter_kept}
use Rattle.edges.proofs.sources.unused.Goals as goal

pub loop-position-preserved-then-counts-position-gt0 : goal.loop-position-preserved-then-counts-position-gt0
loop-position-preserved-then-counts-position-gt0 c =
    let fails : (slice_index_or c.args.counts.now c.loop-position.position 0 == 0) ≡ false = ne_eqb _ _ (λ e. omega arith) in
    filter_kept (λ x. slice_index_or c.args.counts.now x 0 == 0) c.loop-position.position c.loop-position.unused.items fails
    c.loop-position.invariant
