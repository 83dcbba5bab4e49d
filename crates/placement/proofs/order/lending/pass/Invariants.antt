use Rattle.std.proofs.Common.{◌≡◌, false, fold, take}
use Rattle.placement.specs.Inner.Lending.{lent_along}
use Rattle.placement.proofs.order.lending.pass.Given as goal

abbrev pub invariant-loop-link : goal.invariant-loop-link
invariant-loop-link l = record {
  slots : l.slots.items ≡ fold lent_along l.fn.slots.items (take l.link-index l.links);
  same : l.raised ≡ false → l.slots.items ≡ l.fn.slots.items;
}
