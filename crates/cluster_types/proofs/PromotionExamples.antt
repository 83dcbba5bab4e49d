-- An example of a promotable clone whose promoted copy moves, with an address that follows it, computed from the definitions.
use Rattle.std.proofs.Common.{◌≡◌, pos, true, false, List, [], ◌∷◌, refl}
use Rattle.std.specs.Prelude.{codes}
use Rattle.std.specs.Fmt.{digits}
use Rattle.cluster_types.specs.declared.cluster.Cluster.{Cluster}
use Rattle.cluster_types.specs.declared.journal.Action.{Action}
use Rattle.cluster_types.specs.declared.journal.Event.{Event}
use Rattle.cluster_types.specs.declared.journal.Promotion.{Promotion}
use Rattle.cluster_types.specs.declared.leaf.Leaf.{Leaf}
use Rattle.cluster_types.specs.declared.leaf.Op.TheVariants.{Start, Stop, Promote, Demote}
use Rattle.cluster_types.specs.declared.leaf.Role.TheVariants as role
use Rattle.cluster_types.specs.declared.placement.Decision.TheVariants.{Place, Promote as PromoteLeaf}
use Rattle.cluster_types.specs.declared.placement.Target.TheVariants as target
use Rattle.cluster_types.specs.declared.rules.OrderKind.TheVariants as kind
use Rattle.cluster_types.specs.declared.states.CellState.TheVariants as cell
use Rattle.cluster_types.specs.CellStates.{cell_state}
use Rattle.cluster_types.specs.Choice.{after_decisions}
use Rattle.cluster_types.specs.Decisions.{is_ready}
use Rattle.cluster_types.specs.NeededActions.{steps_at}
use Rattle.cluster_types.specs.Numbers.{rank, step_of}
use Rattle.cluster_types.specs.Pins.{pinned_targets}
use Rattle.cluster_types.specs.Tables.{Targets}
use Rattle.cluster_types.specs.Texts.{graph_text}
use Rattle.cluster_types.proofs.SmallClusters.{plain_leaf, two_nodes, did, probed, online, step}
use Rattle.cluster_types.proofs.SmallRuns.{predecessors, transition, beginners}

abbrev drbd : Leaf
drbd = record (plain_leaf (codes "drbd")) { copies = 2; cloned = true; promotable = true; stickiness = pos 1 }

abbrev replicated : Cluster
replicated = record (two_nodes (drbd ∷ plain_leaf (codes "vip") ∷ [])) {
  colocations = record { id = codes "c"; dependent = 1; dependent_role = role.Started; primary = 0; primary_role = role.Promoted; score = pos 1000000 } ∷ [];
  orders = record { id = codes "o"; kind = kind.Mandatory; first = 0; first_op = Promote; then_leaf = 1; then_op = Start; symmetrical = true; local = false } ∷ [];
}

-- the clone runs on both nodes, promoted on n1, and the address runs there. Its agent now wants to be promoted on n2

abbrev promoted_on_n1 : List Event
promoted_on_n1 = online (did Start 0 0 0 900 ∷ did Promote 0 0 0 901 ∷ did Start 0 1 0 900 ∷ did Start 1 0 0 902 ∷ probed 1 1 7 900 ∷ []) 0

abbrev wanted : List Promotion
wanted = record { leaf = 0; node = 0; score = pos 10 } ∷ record { leaf = 0; node = 1; score = pos 20 } ∷ []

abbrev table : Targets
table = after_decisions replicated promoted_on_n1 wanted (pinned_targets replicated promoted_on_n1) (Place 0 ∷ PromoteLeaf 0 ∷ Place 1 ∷ [])

is_promoted_here : cell_state replicated 0 0 promoted_on_n1 ≡ cell.Promoted
is_promoted_here = refl

address_waits_for_the_promotion : is_ready replicated promoted_on_n1 (Place 0 ∷ []) (Place 1) ≡ false
address_waits_for_the_promotion = refl

started_here : table 0 0 ≡ target.Started
started_here = refl

promoted_there : table 0 1 ≡ target.Promoted
promoted_there = refl

address_follows : table 1 1 ≡ target.Started
address_follows = refl

demoted_here : steps_at replicated promoted_on_n1 table 0 0 false ≡ Demote ∷ []
demoted_here = refl

only_promoted_there : steps_at replicated promoted_on_n1 table 0 1 false ≡ Promote ∷ []
only_promoted_there = refl

-- the address is stopped, the old copy is demoted, the new one is promoted, and the address is started

abbrev handover : List Action
handover = step Stop 1 0 ∷ step Demote 0 0 ∷ step Promote 0 1 ∷ step Start 1 1 ∷ []

address_stops_first : predecessors replicated handover (step Stop 1 0) ≡ []
address_stops_first = refl

demote_after_the_address : predecessors replicated handover (step Demote 0 0) ≡ step Stop 1 0 ∷ []
demote_after_the_address = refl

promote_after_the_demote : predecessors replicated handover (step Promote 0 1) ≡ step Demote 0 0 ∷ []
promote_after_the_demote = refl

address_starts_last : predecessors replicated handover (step Start 1 1) ≡ step Stop 1 0 ∷ step Promote 0 1 ∷ []
address_starts_last = refl

demote_ranks_behind : rank replicated (step_of Demote 0) ≡ 1
demote_ranks_behind = refl

one_at_a_time : beginners (transition replicated handover promoted_on_n1) [] ≡ 1 ∷ []
one_at_a_time = refl

as_printed : graph_text replicated handover (transition replicated handover promoted_on_n1).precedes
    ≡ codes "action 1 stop vip n1\naction 2 demote drbd n1 after 1\naction 3 promote drbd n2 after 2\naction 4 start vip n2 after 1 3\n"
unfolding digits
as_printed = refl
