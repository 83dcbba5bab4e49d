use Rattle.std.proofs.Common.{◌≡◌, ◌==◌, filter, slice_index_or}
use Rattle.std.specs.List.{range_with_len}
use Rattle.edges.proofs.Beginnings.{begun}
use Rattle.edges.proofs.clearing.Clearing.new.Goals as goal

pub returns : goal.returns
returns c =
    let made : c.in_ok-cleared.cleared.items ≡ filter (λ x. slice_index_or c.in_ok-waiting.waiting.items x 0 == 0)
    (range_with_len 0 c.args.positions)
    = rw c.deref.ensures.value at c.in_ok-cleared.ensures in
    rw made (begun c.args.positions c.args.edges.now c.in_ok-waiting.waiting.items c.in_ok-waiting.ensures.size
    c.in_ok-waiting.ensures.counted)
