use Rattle.std.proofs.Common.{◌≡◌, ◌++◌, List}
use Rattle.std.specs.List.{flat_map, range_with_len}
use Rattle.cluster_types.specs.declared.journal.Event.{Event}
use Rattle.cluster_types.specs.declared.journal.Promotion.{Promotion}
use Rattle.cluster_types.specs.Tables.{targets_of}
use Rattle.decision_account.specs.Accounts.{node_lines, why_text}
use Rattle.placement.specs.Steps.{Tell}
use Rattle.account_text.proofs.account.push_nodes.Given as goal

abbrev pub invariant-loop-node : goal.invariant-loop-node
invariant-loop-node l =
    (es : List Event) (ps : List Promotion) → Tell l.asked.known.now.cluster.now es ps l.asked.known.now.states.now l.asked.known.now.scores.now
    → l.text.items
    ≡ l.fn.text.items
    ++ flat_map
    (λ n. why_text l.asked.known.now.cluster.now (node_lines l.asked.known.now.cluster.now es ps (targets_of l.asked.loaded.now.table) l.asked.decision n))
    (range_with_len 0 l.node)
