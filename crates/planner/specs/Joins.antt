-- What must precede, but for Serialize orders, as joins: each action of the one side comes before each of the other that has its cell. So each cell of a join can have a gate.
use Rattle.std.specs.Prelude.{ℕ, ◌+◌, nat_lt, ◌==◌, ◌&&◌, Bool, true, if◌then◌else◌, Option, Some, None, List, ◌∷◌, ◌++◌, length, []}
use Rattle.std.specs.List.{flat_map}
use Rattle.cluster_types.specs.declared.cluster.Cluster.{Cluster}
use Rattle.cluster_types.specs.declared.journal.Action.{Action}
use Rattle.cluster_types.specs.declared.journal.Action.TheVariants as action
use Rattle.cluster_types.specs.declared.leaf.Op.{Op}
use Rattle.cluster_types.specs.declared.leaf.Op.TheVariants as op
use Rattle.cluster_types.specs.declared.rules.Colocation.{Colocation}
use Rattle.cluster_types.specs.declared.rules.Order.{Order}
use Rattle.planner.specs.declared.precedence.sides.Join.{Join}
use Rattle.planner.specs.declared.precedence.sides.Side.{Side}
use Rattle.planner.specs.declared.precedence.sides.Side.TheVariants as side
use Rattle.cluster_types.specs.Choice.{is_separation}
use Rattle.cluster_types.specs.Fields.{copies}
use Rattle.cluster_types.specs.Precedence.{LeafOnNode, as_earlier, as_later, both, cell_of, step_cell, gives_any, gives_role, inverse, is_one_cell, is_serialize, is_giving, op_cell, probe_cell, takes_or_probes}

-- the cell of a join by leaf alone: node 0 stands for every node. All together: leaf 0 on node 0 stands for every cell
abbrev pub by_leaf : Option LeafOnNode → Option LeafOnNode
by_leaf (Some a) = cell_of a.leaf 0
by_leaf None = None

abbrev pub same_join_cell : Option LeafOnNode → Option LeafOnNode
same_join_cell (Some a) = cell_of 0 0
same_join_cell None = None

-- by leaf where it has fewer copies than there are nodes, and else by cell
abbrev pub alone : Cluster → Option LeafOnNode → Option LeafOnNode
alone c (Some a) = cell_of a.leaf (if nat_lt (copies c a.leaf) (length c.nodes) then 0 else a.node)
alone c None = None

-- the cells of one leaf: by node, or all together
abbrev pub in_leaf : ℕ → Bool → Option LeafOnNode → Option LeafOnNode
in_leaf r by_node (Some a) = if a.leaf == r then cell_of 0 (if by_node then a.node else 0) else None
in_leaf r by_node None = None

abbrev pub fence_cell : Action → Option LeafOnNode
fence_cell (action.Fence n) = cell_of 0 0
fence_cell _ = None

-- what comes before a stop of its cell, by `comes_first_in_cell` or by `migrates_first`: a demote there, or the taking in of a leaf whose source it is
abbrev pub before_stop : Action → Option LeafOnNode
before_stop (action.MigrateFrom r source target) = cell_of r source
before_stop a = op_cell op.Demote a

-- what comes before a monitor of its cell, by the same two: a start, stop, promote or demote there, or the taking in of a leaf whose target it is
abbrev pub before_monitor : Action → Option LeafOnNode
before_monitor (action.MigrateFrom r source target) = cell_of r target
before_monitor a = step_cell a

-- the sending and the taking in of a leaf, by leaf alone: the first turn of `migrates_first`
abbrev pub send_cell : Action → Option LeafOnNode
send_cell (action.MigrateTo r source target) = cell_of r 0
send_cell _ = None

abbrev pub take_in_cell : Action → Option LeafOnNode
take_in_cell (action.MigrateFrom r source target) = cell_of r 0
take_in_cell _ = None

-- a demote or a stop
abbrev pub take_cell : Action → Option LeafOnNode
take_cell (action.Operation op.Demote r n interval role) = cell_of r n
take_cell a = op_cell op.Stop a

-- what takes what the word gives, as the earlier and as the later of a pair
abbrev pub earlier_taker : Op → Action → Option LeafOnNode
earlier_taker op.Start a = op_cell op.Stop a
earlier_taker op.Promote a = take_cell a
earlier_taker _ a = None

abbrev pub later_demote : List Action → Action → Option LeafOnNode
later_demote actions (action.Operation op.Demote r n interval role) = cell_of r n
later_demote actions a = as_later actions op.Stop a

abbrev pub later_taker : List Action → Op → Action → Option LeafOnNode
later_taker actions op.Start a = as_later actions op.Stop a
later_taker actions op.Promote a = later_demote actions a
later_taker actions _ a = None

-- by which cell an action stands on a side, if it does
abbrev pub side_key_of : Cluster → List Action → Side → Action → Option LeafOnNode
side_key_of c actions side.Probes a = by_leaf (probe_cell a)
side_key_of c actions side.Gives a = by_leaf (gives_any a)
side_key_of c actions side.StopsAlone a = alone c (op_cell op.Stop a)
side_key_of c actions side.StartsAlone a = alone c (op_cell op.Start a)
side_key_of c actions side.Fences a = fence_cell a
side_key_of c actions side.GivesAnything a = same_join_cell (gives_any a)
side_key_of c actions side.BeforeStops a = before_stop a
side_key_of c actions side.Stops a = op_cell op.Stop a
side_key_of c actions side.Starts a = op_cell op.Start a
side_key_of c actions side.Promotes a = op_cell op.Promote a
side_key_of c actions side.BeforeMonitors a = before_monitor a
side_key_of c actions side.Monitors a = op_cell op.Monitor a
side_key_of c actions side.Takes a = by_leaf (take_cell a)
side_key_of c actions side.PromotesOf a = by_leaf (op_cell op.Promote a)
side_key_of c actions side.Sends a = send_cell a
side_key_of c actions side.TakesIn a = take_in_cell a
side_key_of c actions (side.Parts r role) a = in_leaf r true (takes_or_probes role a)
side_key_of c actions (side.GivesRole r role) a = in_leaf r true (gives_role role a)
side_key_of c actions (side.Earlier r word local) a = in_leaf r local (as_earlier word a)
side_key_of c actions (side.EarlierTakers r word local) a = in_leaf r local (earlier_taker word a)
side_key_of c actions (side.Later r word local) a = in_leaf r local (as_later actions word a)
side_key_of c actions (side.LaterTakers r word local) a = in_leaf r local (later_taker actions word a)

abbrev pub join : Side → Side → Join
join from to = record { from = from; to = to }

-- those that hang on no rule
abbrev pub first_joins : List Join
first_joins =
    join side.Probes side.Gives
    ∷ join side.StopsAlone side.StartsAlone
    ∷ join side.Fences side.GivesAnything
    ∷ join side.BeforeStops side.Stops
    ∷ join side.Starts side.Promotes
    ∷ join side.BeforeMonitors side.Monitors
    ∷ join side.Takes side.PromotesOf
    ∷ join side.Sends side.TakesIn
    ∷ []

-- those of a separation, each way
abbrev pub colocation_joins : Colocation → List Join
colocation_joins col =
    if is_separation col
    then join (side.Parts col.dependent col.dependent_role) (side.GivesRole col.primary col.primary_role)
    ∷ join (side.Parts col.primary col.primary_role) (side.GivesRole col.dependent col.dependent_role) ∷ []
    else []

-- those of an order that isn't Serialize: its own, and the inverse
abbrev pub own_join : Order → Join
own_join o = join (side.Earlier o.first o.first_op o.local) (side.Later o.then_leaf o.then_op o.local)

abbrev pub takers_join : Order → Join
takers_join o = join (side.EarlierTakers o.then_leaf o.then_op o.local) (side.LaterTakers o.first o.first_op o.local)

abbrev pub turned_join : Order → Join
turned_join o = join (side.Earlier o.then_leaf (inverse o.then_op) o.local) (side.Later o.first (inverse o.first_op) o.local)

abbrev pub inverse_join : Order → Join
inverse_join o = if is_giving o.first_op && is_giving o.then_op then takers_join o else turned_join o

abbrev pub order_joins : Order → List Join
order_joins o =
    if is_serialize o.kind then []
    else own_join o ∷ (if o.symmetrical then inverse_join o ∷ [] else [])

abbrev pub joins_of : Cluster → List Join
joins_of c = first_joins ++ flat_map colocation_joins c.colocations ++ flat_map order_joins c.orders

module _ (c : Cluster) (actions : List Action) where
  -- the join has x before y
  abbrev pub is_joined : Action → Action → Join → Bool
  is_joined x y j = both is_one_cell (side_key_of c actions j.from x) (side_key_of c actions j.to y)
