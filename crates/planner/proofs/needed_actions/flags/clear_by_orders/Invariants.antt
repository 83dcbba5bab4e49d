use Rattle.std.proofs.Common.{◌≡◌, ◌&&◌, ℕ, length, take}
use Rattle.std.specs.List.{list_all}
use Rattle.listed.specs.Flags.{is_marked}
use Rattle.planner.specs.Inner.Actions.{is_harmless_order}
use Rattle.planner.proofs.needed_actions.flags.clear_by_orders.Given as goal

abbrev pub invariant-loop-order : goal.invariant-loop-order
invariant-loop-order l = record {
  size : length l.flags.items ≡ length l.fn.flags.items;
  flags : (r : ℕ) → is_marked l.flags.items r
      ≡ (is_marked l.fn.flags.items r && list_all (is_harmless_order (is_marked l.touched) r) (take l.order-index l.cluster.orders));
}
