-- What comes next of a simulated cluster with actions in flight: a node leaves or joins, or an action ends, truly or not (rule of this project).
use Rattle.std.specs.Prelude.{◌≡◌, ℕ, ◌+◌, ◌<◌, ◌==◌, ◌&&◌, nat_lt, Bool, true, false, if◌then◌else◌, Option, Some, None, length}
use Rattle.cluster_types.specs.declared.cluster.Cluster.{Cluster}
use Rattle.cluster_types.specs.declared.journal.Action.{Action}
use Rattle.cluster_types.specs.declared.journal.Action.TheVariants.{Fence, Probe, Operation, MigrateTo, MigrateFrom}
use Rattle.cluster_types.specs.declared.journal.Answer.{Answer}
use Rattle.cluster_types.specs.declared.journal.Answer.TheVariants as answer
use Rattle.cluster_types.specs.ExitCodes.{err_generic}
use Rattle.simulated.specs.declared.real.Standing.{Standing}
use Rattle.simulated.specs.declared.real.Standing.TheVariants as standing
use Rattle.simulated.specs.declared.turn.Fate.{Fate}
use Rattle.simulated.specs.declared.turn.Fate.TheVariants as fate
use Rattle.simulated.specs.declared.turn.Turn.{Turn}
use Rattle.simulated.specs.declared.turn.Turn.TheVariants as turn
use Rattle.cases.specs.Draws.{draw}
use Rattle.simulated.specs.RealWorlds.{Cells, RealWorld, begun, done, given_up, is_node_off, is_node_up, risen, true_code, undone, without_node}

-- how many faults a simulated cluster is given at most
abbrev pub most_faults : ℕ
most_faults = 16

-- what becomes of an action that ends in a turn, by the first number of the turn, from 0 to 19, or None where no fault may be given any more: by 2, 3 and 4 a
-- fault, else it ends truly. (By 0 and 1 a node leaves or joins, if it can.)
abbrev pub fate_by : Option ℕ → Fate
fate_by None = fate.True
fate_by (Some die) =
    if die == 2 then fate.DoneBadly else (if die == 3 then fate.Undone else (if die == 4 then fate.TimedOut else fate.True))

abbrev pub is_fault : Fate → Bool
is_fault fate.True = false
is_fault fate.DoneBadly = true
is_fault fate.Undone = true
is_fault fate.TimedOut = true

-- one node comes to stand so
abbrev pub with_node : ℕ → Standing → (ℕ → Standing) → (ℕ → Standing)
with_node node standing nodes n = if node == n then standing else nodes n

-- how the nodes stand when an action has really been done: a fence turns its node off
abbrev pub fenced : Action → (ℕ → Standing) → (ℕ → Standing)
fenced (Fence node) nodes = with_node node standing.Off nodes
fenced (Probe leaf node) nodes = nodes
fenced (Operation op leaf node interval role) nodes = nodes
fenced (MigrateTo leaf source target) nodes = nodes
fenced (MigrateFrom leaf source target) nodes = nodes

-- what happens, before one of the actions in flight is drawn: a node leaves or joins, or an action ends so
pub data Happening : Type 0 where
  node_leaves : (node : ℕ) → Happening
  node_joins : (node : ℕ) → Happening
  action_ends : (f : Fate) → Happening

-- what happens, and how many numbers were drawn in all when that is decided
pub record DrawnHappening : Type 0 where
  pub happens : Happening
  pub drawn : ℕ

-- the same, put together
abbrev pub happening_behind : Happening → ℕ → DrawnHappening
happening_behind happens drawn = record { happens = happens; drawn = drawn }

-- the number that is drawn next, below a bound, when so many were drawn before it. So after it `drawn + 1` were drawn
abbrev pub number_drawn_next : ℕ → ℕ → ℕ → ℕ
number_drawn_next number drawn bound = draw number (drawn + 1) bound

-- the first number of a turn, from 0 to 19, which decides what comes. It is drawn in each turn, but counts only while a fault may be given; else this is `None`
abbrev pub first_number : ℕ → RealWorld → Option ℕ
first_number number w = if nat_lt w.faults most_faults then Some (number_drawn_next number w.drawn 20) else None

-- the turn by what happens; if an action ends, it is the one at this place among those in flight
abbrev pub turn_at_place : Happening → ℕ → Turn
turn_at_place (node_leaves node) place = turn.Leaves node
turn_at_place (node_joins node) place = turn.Joins node
turn_at_place (action_ends f) place = turn.Ends place f

-- how many numbers were drawn in all at the end of the turn, when so many were drawn as what happens was decided: one more if an action ends, for its place
abbrev pub count_drawn : Happening → ℕ → ℕ
count_drawn (node_leaves node) drawn = drawn
count_drawn (node_joins node) drawn = drawn
count_drawn (action_ends f) drawn = drawn + 1

module _ (c : Cluster) (number : ℕ) (w : RealWorld) where
  -- a node is drawn next, when so many numbers were drawn before. If the node stands so, this happens to it; else an action ends truly
  abbrev pub by_drawn_node : (Standing → Bool) → (ℕ → Happening) → ℕ → DrawnHappening
  by_drawn_node stands happens drawn =
      happening_behind (if nat_lt (number_drawn_next number drawn (length c.nodes)) (length c.nodes) && stands (w.nodes (number_drawn_next number drawn (length c.nodes)))
      then happens (number_drawn_next number drawn (length c.nodes)) else action_ends fate.True) (drawn + 1)

  -- what happens by the first number of a turn, if it counts, when so many numbers were drawn in all, that one among them
  abbrev pub by_first_number : Option ℕ → ℕ → DrawnHappening
  by_first_number None drawn = happening_behind (action_ends fate.True) drawn
  by_first_number (Some die) drawn =
      if die == 0 then by_drawn_node is_node_up node_leaves drawn
      else (if die == 1 then by_drawn_node is_node_off node_joins drawn
      else happening_behind (action_ends (fate_by (Some die))) drawn)

  -- what happens in the next turn: its first number is drawn, and so `w.drawn + 1` numbers in all before a node is
  abbrev pub next_happening : DrawnHappening
  next_happening = by_first_number (first_number number w) (w.drawn + 1)

  -- the turn that comes next, with so many actions in flight
  abbrev pub next_turn : ℕ → Turn
  next_turn count = turn_at_place next_happening.happens (number_drawn_next number next_happening.drawn count)

  -- the simulated cluster when the turn comes: what comes up has come up, and the numbers are drawn
  abbrev pub world_at_turn : RealWorld
  world_at_turn = record { nodes = w.nodes; cells = λ r n. risen (w.cells r n); drawn = count_drawn next_happening.happens next_happening.drawn; faults = w.faults }

module _ (c : Cluster) (w : RealWorld) where
  -- a node has left: what runs there runs on where nodes are fenced, and has stopped where they aren't
  abbrev pub after_leaving : ℕ → RealWorld
  after_leaving node = record {
    nodes = with_node node (if c.properties.fencing then standing.Lost else standing.Off) w.nodes;
    cells = if c.properties.fencing then w.cells else without_node node w.cells;
    drawn = w.drawn;
    faults = w.faults + 1;
  }

  -- a node has joined, and nothing runs there
  abbrev pub after_joining : ℕ → RealWorld
  after_joining node = record {
    nodes = with_node node standing.Up w.nodes;
    cells = without_node node w.cells;
    drawn = w.drawn;
    faults = w.faults + 1;
  }

  -- the cells when an action has ended so
  abbrev pub cells_after : Fate → Action → Cells
  cells_after fate.True a = done c a w.cells
  cells_after fate.DoneBadly a = done c a w.cells
  cells_after fate.Undone a = undone c a w.cells
  cells_after fate.TimedOut a = given_up c a w.cells

  -- the nodes then: one that was fenced is off, if the agent of the fence says so
  abbrev pub nodes_after : Fate → Action → (ℕ → Standing)
  nodes_after fate.True a = fenced a w.nodes
  nodes_after fate.DoneBadly a = w.nodes
  nodes_after fate.Undone a = w.nodes
  nodes_after fate.TimedOut a = w.nodes

  -- an action has ended
  abbrev pub after_end : Fate → Action → RealWorld
  after_end f a = record {
    nodes = nodes_after f a;
    cells = cells_after f a;
    drawn = w.drawn;
    faults = if is_fault f then w.faults + 1 else w.faults;
  }

  -- what is said of the action of a number that ends
  abbrev pub answer_by_fate : Fate → ℕ → Action → Answer
  answer_by_fate fate.True k a = answer.End k (true_code c a w.cells)
  answer_by_fate fate.DoneBadly k a = answer.End k err_generic
  answer_by_fate fate.Undone k a = answer.End k err_generic
  answer_by_fate fate.TimedOut k a = answer.Timeout k

  -- an action has begun
  abbrev pub after_begin : Action → RealWorld
  after_begin a = record { nodes = w.nodes; cells = begun c a w.cells; drawn = w.drawn; faults = w.faults }

-- what may come with so many actions in flight, one or more, where so many faults were given: a fault only while one may be given
abbrev pub MayCome : ℕ → ℕ → Turn → Type 0
MayCome count faults (turn.Leaves node) = faults < most_faults
MayCome count faults (turn.Joins node) = faults < most_faults
MayCome count faults (turn.Ends place f) = (place < count) × (is_fault f ≡ true → faults < most_faults)
