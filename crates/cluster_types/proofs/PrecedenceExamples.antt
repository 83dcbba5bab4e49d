-- Examples of precedence and numbers, computed from the definitions.
use Rattle.std.proofs.Common.{◌≡◌, ℕ, pos, neg_ℤ, Bool, true, false, List, [], ◌∷◌, refl, filter}
use Rattle.std.specs.Prelude.{codes}
use Rattle.cluster_types.specs.declared.cluster.Cluster.{Cluster}
use Rattle.cluster_types.specs.declared.journal.Action.{Action}
use Rattle.cluster_types.specs.declared.journal.Action.TheVariants.{Fence, Operation, MigrateTo, MigrateFrom}
use Rattle.cluster_types.specs.declared.leaf.Leaf.{Leaf}
use Rattle.cluster_types.specs.declared.leaf.Op.TheVariants.{Monitor, Start, Stop}
use Rattle.cluster_types.specs.declared.leaf.Role.TheVariants.{Started}
use Rattle.cluster_types.specs.Numbers.{is_earlier, rank, step_of}
use Rattle.cluster_types.specs.Precedence.{must_precede}
use Rattle.cluster_types.proofs.SmallClusters.{plain_leaf, two_nodes, colocation, start_order, step}

-- the actions that must precede one, of all that are needed
abbrev predecessors : Cluster → List Action → Action → List Action
predecessors c actions y = filter (λ x. must_precede c actions (is_earlier c actions) x y) actions

-- Two resources that must be apart change places: both are stopped before either is started.

abbrev apart : Cluster
apart = record (two_nodes (plain_leaf (codes "a") ∷ plain_leaf (codes "b") ∷ [])) { colocations = colocation (codes "x") 0 1 (neg_ℤ (pos 1000000)) ∷ [] }

abbrev swap : List Action
swap = step Stop 0 0 ∷ step Stop 1 1 ∷ step Start 0 1 ∷ step Start 1 0 ∷ []

first_start_waits : predecessors apart swap (step Start 0 1) ≡ step Stop 0 0 ∷ step Stop 1 1 ∷ []
first_start_waits = refl

second_start_waits : predecessors apart swap (step Start 1 0) ≡ step Stop 0 0 ∷ step Stop 1 1 ∷ []
second_start_waits = refl

stop_waits_for_nothing : predecessors apart swap (step Stop 1 1) ≡ []
stop_waits_for_nothing = refl

-- Two clones in order: with interleave each copy waits for the one on its node, and without for all.

abbrev cloned : List ℕ → Leaf
cloned name = record (plain_leaf name) { copies = 2; cloned = true }

abbrev clones : Bool → Cluster
clones local = record (two_nodes (cloned (codes "p") ∷ cloned (codes "q") ∷ [])) { orders = start_order (codes "o") 0 1 local ∷ [] }

abbrev starts : List Action
starts = step Start 0 0 ∷ step Start 0 1 ∷ step Start 1 0 ∷ step Start 1 1 ∷ []

interleaved : predecessors (clones true) starts (step Start 1 1) ≡ step Start 0 1 ∷ []
interleaved = refl

not_interleaved : predecessors (clones false) starts (step Start 1 1) ≡ step Start 0 0 ∷ step Start 0 1 ∷ []
not_interleaved = refl

-- A group is stopped from its end, and started from its beginning.

abbrev group : Cluster
group = record (two_nodes (plain_leaf (codes "a") ∷ plain_leaf (codes "b") ∷ plain_leaf (codes "c") ∷ [])) {
  orders = start_order (codes "g") 0 1 false ∷ start_order (codes "g") 1 2 false ∷ [];
}

abbrev moves : List Action
moves = step Stop 2 0 ∷ step Stop 1 0 ∷ step Stop 0 0 ∷ step Start 0 1 ∷ step Start 1 1 ∷ step Start 2 1 ∷ []

last_stop_first : predecessors group moves (step Stop 1 0) ≡ step Stop 2 0 ∷ []
last_stop_first = refl

first_stop_last : rank group (step_of Stop 0) ≡ 2
first_stop_last = refl

middle_start : predecessors group moves (step Start 1 1) ≡ step Stop 1 0 ∷ step Start 0 1 ∷ []
middle_start = refl

stops_in_number_order : is_earlier group moves (step Stop 2 0) (step Stop 1 0) ≡ true
stops_in_number_order = refl

-- A lost node is fenced before the resource is started elsewhere.

fence_first : predecessors (two_nodes (plain_leaf (codes "vip") ∷ [])) (Fence 1 ∷ step Start 0 0 ∷ []) (step Start 0 0) ≡ Fence 1 ∷ []
fence_first = refl

-- A live migration: sent, then taken in, then stopped where it was.

abbrev migration : List Action
migration = MigrateTo 0 0 1 ∷ MigrateFrom 0 0 1 ∷ step Stop 0 0 ∷ []

taken_in_after_sent : predecessors (two_nodes (plain_leaf (codes "vm") ∷ [])) migration (MigrateFrom 0 0 1) ≡ MigrateTo 0 0 1 ∷ []
taken_in_after_sent = refl

stopped_after_taken_in : predecessors (two_nodes (plain_leaf (codes "vm") ∷ [])) migration (step Stop 0 0) ≡ MigrateFrom 0 0 1 ∷ []
stopped_after_taken_in = refl

-- Two live migrations from one node to the other: each has its turns for itself, and a stop or a monitor waits for the taking in of its own leaf, where that
-- leaves its node or comes to it.

abbrev movers : Cluster
movers = two_nodes (plain_leaf (codes "vm") ∷ plain_leaf (codes "db") ∷ [])

abbrev watched : ℕ → ℕ → Action
watched r n = Operation Monitor r n 10000 Started

abbrev both_moves : List Action
both_moves =
    MigrateTo 0 0 1 ∷ MigrateTo 1 0 1 ∷ MigrateFrom 0 0 1 ∷ MigrateFrom 1 0 1 ∷ step Stop 0 0 ∷ step Stop 1 0 ∷ step Stop 0 1 ∷ watched 0 0 ∷ watched 0 1 ∷ watched 1 1 ∷ []

each_is_taken_in_after_its_sending : predecessors movers both_moves (MigrateFrom 1 0 1) ≡ MigrateTo 1 0 1 ∷ []
each_is_taken_in_after_its_sending = refl

each_stops_after_its_taking_in : predecessors movers both_moves (step Stop 1 0) ≡ MigrateFrom 1 0 1 ∷ []
each_stops_after_its_taking_in = refl

stop_elsewhere_waits_for_nothing : predecessors movers both_moves (step Stop 0 1) ≡ []
stop_elsewhere_waits_for_nothing = refl

watched_where_it_is_taken_in : predecessors movers both_moves (watched 1 1) ≡ MigrateFrom 1 0 1 ∷ []
watched_where_it_is_taken_in = refl

watched_after_both : predecessors movers both_moves (watched 0 1) ≡ MigrateFrom 0 0 1 ∷ step Stop 0 1 ∷ []
watched_after_both = refl

watched_where_it_was : predecessors movers both_moves (watched 0 0) ≡ step Stop 0 0 ∷ []
watched_where_it_was = refl
