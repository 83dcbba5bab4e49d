use Rattle.std.proofs.Common.{◌≡◌, ℕ, ◌<◌, false, length, get_or}
use Rattle.state_unpack.specs.Inner.Facts.{runs_after}
use Rattle.state_unpack.proofs.facts.running_after.Given as goal

abbrev pub invariant-loop-index : goal.invariant-loop-index
invariant-loop-index l = record {
  len : length l.after ≡ 8;
  said : (i : ℕ) → i < l.index → get_or l.after i false ≡ runs_after l.cluster l.leaf l.node l.event i (get_or l.running i false);
}
