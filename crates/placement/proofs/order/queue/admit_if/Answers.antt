use Rattle.std.proofs.Common.{rules, arith, ◌≡◌, ◌<◌, Some, None, length, slice_index_or}
use Rattle.placement.proofs.order.queue.admit_if.Goals as goal

pub overflow_add-place : goal.overflow_add-place
overflow_add-place c =
    let at : slice_index_or c.args.places.now c.args.position None ≡ Some c.in-Some-Some.place = search rules in
    let low : c.in-Some-Some.place < length c.args.ready.now = c.requires.places c.in-Some-Some.place at in
    let few = c.requires.few in
    omega arith
