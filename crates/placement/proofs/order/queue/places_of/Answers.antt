use Rattle.std.proofs.Common.{rules, arith, ◌≡◌, None, replicate, slice_index_or}
use Rattle.std.proofs.lemmas.List.Elements.{Contains-get_or}
use Rattle.placement.proofs.PlacesMore.{none-placed, placed-more, placed-all}
use Rattle.placement.proofs.order.queue.places_of.Goals as goal

pub loop-place-init : goal.loop-place-init
loop-place-init c =
    let is : c.in_ok-places.places.items ≡ replicate c.args.positions None = search rules in
    none-placed c.args.positions c.args.order.now c.in_ok-places.places.items is

pub index_mut-requires : goal.index_mut-requires
index_mut-requires c =
    let l = c.loop-place in
    let low = c.requires.within (slice_index_or c.args.order.now l.place 0) (Contains-get_or c.args.order.now l.place 0 c.loop-place-test.true) in
    let size = l.invariant.size in
    omega arith

pub loop-place-preserved : goal.loop-place-preserved
loop-place-preserved c =
    let l = c.loop-place in
    let low = c.requires.within (slice_index_or c.args.order.now l.place 0) (Contains-get_or c.args.order.now l.place 0 c.loop-place-test.true) in
    placed-more c.args.positions c.args.order.now l.place l.places.items l.invariant low

pub returns-clause-there : goal.returns-clause-there
returns-clause-there c =
    let l = c.loop-place in
    (placed-all c.args.positions c.args.order.now l.place l.places.items l.invariant (omega arith) (omega (arith, c.loop-place-test.false))).0

pub returns-clause-all : goal.returns-clause-all
returns-clause-all c =
    let l = c.loop-place in
    (placed-all c.args.positions c.args.order.now l.place l.places.items l.invariant (omega arith) (omega (arith, c.loop-place-test.false))).1
