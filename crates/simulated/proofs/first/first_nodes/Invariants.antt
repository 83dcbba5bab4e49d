use Rattle.std.proofs.Common.{◌≡◌, ℕ, List, length}
use Rattle.cluster_types.specs.declared.journal.Event.{Event}
use Rattle.cluster_types.specs.Journals.{last_sign}
use Rattle.state_unpack.specs.KeptKnowledge.{Knows}
use Rattle.simulated.specs.KeptReality.{ListsNodes}
use Rattle.simulated.specs.RealWorlds.{standing_by}
use Rattle.simulated.proofs.first.first_nodes.Given as goal

abbrev pub invariant-loop-node : goal.invariant-loop-node
invariant-loop-node l = record {
  len : length l.nodes.items ≡ l.node;
  held : (es : List Event) → Knows l.known.cluster es l.known → ListsNodes l.node l.nodes.items (λ (n : ℕ). standing_by l.known.cluster (last_sign n es));
}
