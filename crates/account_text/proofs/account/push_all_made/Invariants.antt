use Rattle.std.proofs.Common.{List, take}
use Rattle.cluster_types.specs.declared.journal.Event.{Event}
use Rattle.cluster_types.specs.declared.journal.Promotion.{Promotion}
use Rattle.cluster_types.specs.Tables.{targets_of}
use Rattle.placement.specs.Loads.{IsLoaded}
use Rattle.placement.specs.Steps.{Tell}
use Rattle.account_text.specs.Inner.AccountSoFar.{AreAccounted, decisions_made}
use Rattle.account_text.proofs.account.push_all_made.Given as goal

abbrev pub invariant-loop-made : goal.invariant-loop-made
invariant-loop-made l = record {
  loaded : IsLoaded l.read.known.cluster.now l.loaded.table l.loaded.loads.items;
  text : (es : List Event) (ps : List Promotion) → Tell l.read.known.cluster.now es ps l.read.known.states.now l.read.known.scores.now
      → AreAccounted l.read.known.cluster.now es ps (targets_of l.fn.loaded.table) (decisions_made (take l.made-index l.decided)) l.fn.text.items l.text.items
      (targets_of l.loaded.table);
}
