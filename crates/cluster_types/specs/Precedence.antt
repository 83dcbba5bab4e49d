-- What the words of an order give, take and undo; what an action counts as; and `must_precede`, which is `Precedes` as a test (that they agree says
-- `precedence_is_computed`). Plans and graphs speak of the test.
use Rattle.std.specs.Prelude.{ℕ, nat_lt, ◌==◌, ◌&&◌, ◌||◌, Bool, true, false, not, if◌then◌else◌, Option, Some, None, List, [], ◌∷◌, length}
use Rattle.std.specs.List.{list_any}
use Rattle.cluster_types.specs.declared.cluster.Cluster.{Cluster}
use Rattle.cluster_types.specs.declared.journal.Action.{Action}
use Rattle.cluster_types.specs.declared.journal.Action.TheVariants.{Fence, Probe, Operation, MigrateTo, MigrateFrom}
use Rattle.cluster_types.specs.declared.leaf.Op.{Op}
use Rattle.cluster_types.specs.declared.leaf.Op.TheVariants as op
use Rattle.cluster_types.specs.declared.leaf.Role.{Role}
use Rattle.cluster_types.specs.declared.leaf.Role.TheVariants as role
use Rattle.cluster_types.specs.declared.rules.Colocation.{Colocation}
use Rattle.cluster_types.specs.declared.rules.Order.{Order}
use Rattle.cluster_types.specs.declared.rules.OrderKind.{OrderKind}
use Rattle.cluster_types.specs.declared.rules.OrderKind.TheVariants as kind
use Rattle.cluster_types.specs.Choice.{is_separation}
use Rattle.cluster_types.specs.Fields.{copies}
use Rattle.cluster_types.specs.Tables.{is_in_scope}

-- a leaf and a node
pub record LeafOnNode : Type 0 where
  pub leaf : ℕ
  pub node : ℕ

abbrev pub cell_of : ℕ → ℕ → Option LeafOnNode
cell_of r n = Some (record { leaf = r; node = n })

abbrev pub is_same_op : Op → Op → Bool
is_same_op op.Start op.Start = true
is_same_op op.Stop op.Stop = true
is_same_op op.Promote op.Promote = true
is_same_op op.Demote op.Demote = true
is_same_op op.Monitor op.Monitor = true
is_same_op _ _ = false

-- a word of an order that gives a role
abbrev pub is_giving : Op → Bool
is_giving op.Start = true
is_giving op.Promote = true
is_giving _ = false

-- the role that such a word gives. For any other word, of which nobody asks, it says Started
abbrev pub role_given : Op → Role
role_given op.Promote = role.Promoted
role_given _ = role.Started

-- the words whose actions take away what the word gives
abbrev pub takers : Op → List Op
takers op.Start = op.Stop ∷ []
takers op.Promote = op.Demote ∷ op.Stop ∷ []
takers _ = []

-- the word that undoes what this word does
abbrev pub inverse : Op → Op
inverse op.Start = op.Stop
inverse op.Stop = op.Start
inverse op.Promote = op.Demote
inverse op.Demote = op.Promote
inverse op.Monitor = op.Monitor

-- the action sends the leaf off
abbrev pub sends : ℕ → Action → Bool
sends r (MigrateTo leaf source target) = leaf == r
sends r _ = false

-- the leaf migrates, by the actions
abbrev pub is_migrating : List Action → ℕ → Bool
is_migrating actions r = list_any (sends r) actions

-- What an action counts as, and on which cell: of which leaf, on which node. An operation counts as itself, and a migration as no operation. In four cases
-- of `Precedes` it is otherwise, for a migration takes the place of a stop and a start (Pacemaker Explained, "Migrating Resources"):
-- - `probe`, `fence`, `apart`, `order`: as the later, the sending of a leaf counts as the start on its target.
-- - `order` alone: as the later, the sending counts as the stop on its source too, and the stop of a leaf that migrates counts as none; as the earlier, the
--   taking in counts as the start on its target.
-- The turns of a migration itself are the case `migration`.

-- the cell on which the action is this operation, by itself
abbrev pub op_cell : Op → Action → Option LeafOnNode
op_cell o (Operation p r n interval role) = if is_same_op o p then cell_of r n else None
op_cell o _ = None

-- the cell on which the action counts as a start, when it is the later of two
abbrev pub start_cell : Action → Option LeafOnNode
start_cell (MigrateTo r source target) = cell_of r target
start_cell a = op_cell op.Start a

-- the cell on which the action counts as this operation, when it is the earlier by an order
abbrev pub as_earlier : Op → Action → Option LeafOnNode
as_earlier op.Start (MigrateFrom r source target) = cell_of r target
as_earlier o a = op_cell o a

-- the cell on which the action counts as this operation, when it is the later by an order. Which leaves migrate is told by all actions that are needed
abbrev pub as_later : List Action → Op → Action → Option LeafOnNode
as_later actions op.Start a = start_cell a
as_later actions op.Stop (MigrateTo r source target) = cell_of r source
as_later actions op.Stop (Operation op.Stop r n interval role) = if is_migrating actions r then None else cell_of r n
as_later actions op.Stop _ = None
as_later actions o a = op_cell o a

-- the cell on which the action gives the leaf this role, when it is the later of two
abbrev pub gives_role : Role → Action → Option LeafOnNode
gives_role role.Started a = start_cell a
gives_role role.Promoted a = op_cell op.Promote a

-- the same, whichever role it gives
abbrev pub gives_any : Action → Option LeafOnNode
gives_any (Operation op.Promote r n interval played) = gives_role role.Promoted (Operation op.Promote r n interval played)
gives_any a = gives_role role.Started a

-- the cell on which the action takes this role from the leaf, or probes for the leaf, when it is the earlier of two
abbrev pub takes_or_probes : Role → Action → Option LeafOnNode
takes_or_probes role.Started (Probe r n) = cell_of r n
takes_or_probes role.Started a = op_cell op.Stop a
takes_or_probes role.Promoted (Probe r n) = cell_of r n
takes_or_probes role.Promoted (Operation op.Demote r n interval role) = cell_of r n
takes_or_probes role.Promoted a = op_cell op.Stop a

-- the cell that the action probes
abbrev pub probe_cell : Action → Option LeafOnNode
probe_cell (Probe r n) = cell_of r n
probe_cell _ = None

-- the cell on which the action is a start, stop, promote or demote, by itself
abbrev pub step_cell : Action → Option LeafOnNode
step_cell (Operation op.Monitor r n interval role) = None
step_cell (Operation o r n interval role) = cell_of r n
step_cell _ = None

-- both cells are there, and stand so to each other
abbrev pub both : (LeafOnNode → LeafOnNode → Bool) → Option LeafOnNode → Option LeafOnNode → Bool
both test (Some a) (Some b) = test a b
both test _ _ = false

abbrev pub is_one_leaf : LeafOnNode → LeafOnNode → Bool
is_one_leaf a b = a.leaf == b.leaf

abbrev pub is_one_cell : LeafOnNode → LeafOnNode → Bool
is_one_cell a b = a.leaf == b.leaf && a.node == b.node

abbrev pub is_some_cell : Option LeafOnNode → Bool
is_some_cell (Some a) = true
is_some_cell None = false

-- a probe of a leaf comes before what gives it a role, on whatever node
abbrev pub probes_first : Action → Action → Bool
probes_first x y = both is_one_leaf (probe_cell x) (gives_any y)

-- a stop comes before a start of the same leaf: on its node, and on any where the leaf has fewer copies than there are nodes
abbrev pub stops_first : Cluster → Action → Action → Bool
stops_first c x y =
    both (λ a b. is_one_leaf a b && (a.node == b.node || nat_lt (copies c a.leaf) (length c.nodes))) (op_cell op.Stop x) (op_cell op.Start y)

-- a fence comes before all that gives any leaf a role
abbrev pub fences_first : Action → Action → Bool
fences_first (Fence n) y = is_some_cell (gives_any y)
fences_first _ y = false

-- on one cell: demote before stop, start before promote, and each of these four before a monitor
abbrev pub comes_first_in_cell : Action → Action → Bool
comes_first_in_cell x y =
    both is_one_cell (op_cell op.Demote x) (op_cell op.Stop y)
    || both is_one_cell (op_cell op.Start x) (op_cell op.Promote y)
    || both is_one_cell (step_cell x) (op_cell op.Monitor y)

-- a demote or a stop comes before a promote of the same leaf, on whatever node
abbrev pub demotes_first : Action → Action → Bool
demotes_first x y =
    both is_one_leaf (op_cell op.Demote x) (op_cell op.Promote y) || both is_one_leaf (op_cell op.Stop x) (op_cell op.Promote y)

-- what takes a role from one leaf, or probes it, comes before what gives the other its role on the node, where the two must be apart
abbrev pub is_parted : ℕ → Role → ℕ → Role → Action → Action → Bool
is_parted r r_role s s_role x y =
    both (λ a b. a.leaf == r && b.leaf == s && a.node == b.node) (takes_or_probes r_role x) (gives_role s_role y)

abbrev pub parts_first : Colocation → Action → Action → Bool
parts_first col x y =
    is_separation col
    && (is_parted col.dependent col.dependent_role col.primary col.primary_role x y || is_parted col.primary col.primary_role col.dependent col.dependent_role x y)

-- the two words, of leaf r and then of leaf s, order the two actions in scope
abbrev pub is_ordered_pair : List Action → Order → Op → ℕ → Op → ℕ → Action → Action → Bool
is_ordered_pair actions o first r later s x y =
    both (λ a b. a.leaf == r && b.leaf == s && is_in_scope o a.node b.node) (as_earlier first x) (as_later actions later y)

-- the inverse of an order of starts or promotes: what takes the then's role comes before what takes the first's
abbrev pub is_taken_back : List Action → Order → Action → Action → Bool
is_taken_back actions o x y =
    list_any (λ p. list_any (λ q. is_ordered_pair actions o p o.then_leaf q o.first x y) (takers o.first_op)) (takers o.then_op)

abbrev pub is_inverse_pair : List Action → Order → Action → Action → Bool
is_inverse_pair actions o x y =
    if is_giving o.first_op && is_giving o.then_op then is_taken_back actions o x y
    else is_ordered_pair actions o (inverse o.then_op) o.then_leaf (inverse o.first_op) o.first x y

abbrev pub is_mandatory_order : OrderKind → Bool
is_mandatory_order kind.Mandatory = true
is_mandatory_order _ = false

abbrev pub is_serialize : OrderKind → Bool
is_serialize kind.Serialize = true
is_serialize _ = false

-- by an order that isn't Serialize: its own pair, and the inverse where it is symmetrical
abbrev pub is_ordered : List Action → Order → Action → Action → Bool
is_ordered actions o x y =
    not (is_serialize o.kind)
    && (is_ordered_pair actions o o.first_op o.first o.then_op o.then_leaf x y || o.symmetrical && is_inverse_pair actions o x y)

-- the one action is a start, stop, promote or demote of the order's first, the other one of its then, in scope
abbrev pub is_across : Order → Action → Action → Bool
is_across o x y = both (λ a b. a.leaf == o.first && b.leaf == o.then_leaf && is_in_scope o a.node b.node) (step_cell x) (step_cell y)

-- by a Serialize order, in the order of their numbers
abbrev pub is_serialized : (Action → Action → Bool) → Order → Action → Action → Bool
is_serialized is_earlier o x y = is_serialize o.kind && (is_across o x y || is_across o y x) && is_earlier x y

-- of one leaf that migrates: it is sent, then taken in, and then stopped on its source and watched on its target. A leaf migrates between one pair of nodes,
-- so the nodes of the first two aren't compared
abbrev pub migrates_first : Action → Action → Bool
migrates_first (MigrateTo r source target) (MigrateFrom s from to) = r == s
migrates_first (MigrateFrom r source target) (Operation op.Stop s n interval role) = r == s && n == source
migrates_first (MigrateFrom r source target) (Operation op.Monitor s n interval role) = r == s && n == target
migrates_first _ _ = false

-- x must have succeeded before y begins. The actions are all that are needed, and is_earlier is the order of their numbers
abbrev pub must_precede : Cluster → List Action → (Action → Action → Bool) → Action → Action → Bool
must_precede c actions is_earlier x y =
    probes_first x y || stops_first c x y || fences_first x y || comes_first_in_cell x y || demotes_first x y
    || list_any (λ col. parts_first col x y) c.colocations
    || list_any (λ o. is_ordered actions o x y || is_serialized is_earlier o x y) c.orders
    || migrates_first x y
