use Rattle.std.proofs.Common.{◌≡◌, ◌&&◌, ℕ, length, take}
use Rattle.std.specs.List.{list_all}
use Rattle.listed.specs.Flags.{is_marked}
use Rattle.planner.specs.Inner.Actions.{is_harmless_colocation}
use Rattle.planner.proofs.needed_actions.flags.clear_by_colocations.Given as goal

abbrev pub invariant-loop-colocation : goal.invariant-loop-colocation
invariant-loop-colocation l = record {
  size : length l.flags.items ≡ length l.fn.flags.items;
  flags : (r : ℕ) → is_marked l.flags.items r
      ≡ (is_marked l.fn.flags.items r && list_all (is_harmless_colocation (is_marked l.touched) r) (take l.colocation-index l.cluster.colocations));
}
