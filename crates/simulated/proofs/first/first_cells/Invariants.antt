use Rattle.std.proofs.Common.{◌≡◌, ◌*◌, List, length}
use Rattle.cluster_types.specs.declared.journal.Event.{Event}
use Rattle.state_unpack.specs.KeptKnowledge.{Knows}
use Rattle.simulated.specs.RealWorlds.{first_real}
use Rattle.simulated.specs.Inner.Firsts.{HearsOutcomes, IsFilled}
use Rattle.simulated.proofs.first.first_cells.Given as goal

abbrev pub invariant-loop-leaf : goal.invariant-loop-leaf
invariant-loop-leaf l = record {
  len : length l.cells.items ≡ l.leaf * length l.known.cluster.nodes;
  filled : (es : List Event) → Knows l.known.cluster es l.known → HearsOutcomes l.known.cluster es l.heard
      → IsFilled l.known.cluster l.cells.items (first_real l.known.cluster es);
}
