use Rattle.std.proofs.Common.{◌≡◌, ◌≤◌, List, length, take, vec_capacity}
use Rattle.cluster_types.specs.declared.journal.Event.{Event}
use Rattle.cluster_types.specs.declared.journal.Promotion.{Promotion}
use Rattle.cluster_types.specs.Tables.{targets_of}
use Rattle.placement.specs.Loads.{IsLoaded}
use Rattle.placement.specs.Steps.{Tell}
use Rattle.placement.specs.Inner.Steps.{AreMade}
use Rattle.placement.proofs.choice.deciding.decide_each.Given as goal

abbrev pub invariant-loop-decision : goal.invariant-loop-decision
invariant-loop-decision l = record {
  loaded : IsLoaded l.known.cluster.now l.loaded.table l.loaded.loads.items;
  size : length l.decided.items ≡ l.decision-index;
  room : length l.order ≤ vec_capacity l.decided;
  made : (es : List Event) (ps : List Promotion) → Tell l.known.cluster.now es ps l.known.states.now l.known.scores.now
      → AreMade l.known.cluster.now es ps (targets_of l.fn.loaded.table) (take l.decision-index l.order) (targets_of l.loaded.table) l.decided.items;
}
