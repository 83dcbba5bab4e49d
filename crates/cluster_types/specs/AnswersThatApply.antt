-- Which answers apply after a journal, by what is in flight and how many answers from outside were taken, and what each adds to the journal
-- (Pacemaker Administration, "Transitions"; which apply is a rule of this project).
use Rattle.std.specs.Prelude.{ℕ, ◌+◌, ◌^◌, nat_lt, ◌==◌, ◌&&◌, ◌||◌, Bool, true, false, not, Option, Some, List, [], ◌∷◌, ◌++◌, length, map, filter, find}
use Rattle.std.specs.List.{list_any}
use Rattle.std.specs.Option.{option_map_or}
use Rattle.cluster_types.specs.declared.cluster.Cluster.{Cluster}
use Rattle.cluster_types.specs.declared.journal.Action.{Action}
use Rattle.cluster_types.specs.declared.journal.Action.TheVariants.{Operation}
use Rattle.cluster_types.specs.declared.journal.Answer.{Answer}
use Rattle.cluster_types.specs.declared.journal.Answer.TheVariants as answer
use Rattle.cluster_types.specs.declared.journal.Event.{Event}
use Rattle.cluster_types.specs.declared.journal.Event.TheVariants.{Up, Lost, Quorum, Wait, Ended}
use Rattle.cluster_types.specs.declared.journal.Outcome.{Outcome}
use Rattle.cluster_types.specs.declared.journal.Outcome.TheVariants.{Code, TimedOut, Gone}
use Rattle.cluster_types.specs.declared.leaf.Monitor.{Monitor as MonitorOf}
use Rattle.cluster_types.specs.declared.leaf.Op.TheVariants.{Monitor}
use Rattle.cluster_types.specs.declared.leaf.Role.{Role}
use Rattle.cluster_types.specs.declared.leaf.Role.TheVariants as role
use Rattle.cluster_types.specs.declared.states.NodeState.{NodeState}
use Rattle.cluster_types.specs.declared.states.NodeState.TheVariants as node
use Rattle.cluster_types.specs.Cells.{is_of_cell, is_sent_to}
use Rattle.cluster_types.specs.Fields.{monitors}
use Rattle.cluster_types.specs.Journals.{NodeSign, joined, last_sign, is_on, moment_of}
use Rattle.cluster_types.specs.May.{may_be_running}
use Rattle.cluster_types.specs.NodeStates.{node_state, is_online}
use Rattle.cluster_types.specs.Outcomes.{is_bad, is_ignored}

-- how many answers from outside a transition takes at most (rule of this project)
abbrev pub most_from_outside : ℕ
most_from_outside = 256

-- the seconds that an answer lets go by
abbrev pub seconds_in : Answer → ℕ
seconds_in (answer.Wait seconds) = seconds
seconds_in _ = 0

-- the role of the recurring monitor of this interval; without a statement of the interval it is Started
abbrev pub role_of_interval : List MonitorOf → ℕ → Role
role_of_interval ms interval = option_map_or (λ (m : MonitorOf). m.role) (find (λ m. m.interval_ms == interval) ms) role.Started

-- a recurring monitor of the leaf on the node, as an action
abbrev pub monitor_action : Cluster → ℕ → ℕ → ℕ → Action
monitor_action c r n interval = Operation Monitor r n interval (role_of_interval (monitors c r) interval)

abbrev pub is_joined_sign : Option NodeSign → Bool
is_joined_sign (Some joined) = true
is_joined_sign _ = false

abbrev pub is_offline_state : NodeState → Bool
is_offline_state node.Offline = true
is_offline_state _ = false

abbrev pub is_number_of : ℕ → ℕ × Action → Bool
is_number_of k p = p.0 == k

-- after a journal, with these actions in flight, by their numbers
module _ (c : Cluster) (es : List Event) (in_flight : List (ℕ × Action)) where
  abbrev pub is_in_flight : ℕ → Bool
  is_in_flight k = list_any (is_number_of k) in_flight

  -- nothing of the cell is in flight, and no migration to it
  abbrev pub is_quiet_cell : ℕ → ℕ → Bool
  is_quiet_cell r n = not (list_any (λ (p : ℕ × Action). is_of_cell r n p.1 || is_sent_to r n p.1) in_flight)

  -- the report tells a failure that may be told: the node and the leaf are there, the interval is above 0, the node is online, the leaf may run there, the
  -- code is bad and not ignored, and the cell is quiet
  abbrev pub tells_failure : ℕ → ℕ → ℕ → ℕ → Bool
  tells_failure n r interval code =
      nat_lt n (length c.nodes) && nat_lt r (length c.leaves) && nat_lt 0 interval && is_online c n es && may_be_running c r n es
      && is_bad (monitor_action c r n interval) (Code code) && not (is_ignored c (monitor_action c r n interval) (Code code)) && is_quiet_cell r n

  -- the answer applies, when so many from outside were taken. A wait by which the moment would reach 2 ^ 40 seconds doesn't apply
  abbrev pub applies_after : ℕ → Answer → Bool
  applies_after taken (answer.End k code) = is_in_flight k
  applies_after taken (answer.Timeout k) = is_in_flight k
  applies_after taken (answer.Lost n) = nat_lt taken most_from_outside && nat_lt n (length c.nodes) && is_joined_sign (last_sign n es)
  applies_after taken (answer.Up n) = nat_lt taken most_from_outside && nat_lt n (length c.nodes) && is_offline_state (node_state c n es)
  applies_after taken (answer.Quorum now) = nat_lt taken most_from_outside
  applies_after taken (answer.Wait seconds) = nat_lt taken most_from_outside && nat_lt (moment_of es + seconds) (2 ^ 40)
  applies_after taken (answer.Report n r interval code) = nat_lt taken most_from_outside && tells_failure n r interval code

  -- the event that an action ends so, now, given with its number
  abbrev pub end_event : Outcome → ℕ × Action → Event
  end_event o p = Ended p.0 p.1 o (moment_of es)

  -- the action of this number ends so, now. A number that isn't in flight has no event
  abbrev pub end_events : ℕ → Outcome → List Event
  end_events k o = option_map_or (λ p. end_event o p ∷ []) (find (is_number_of k) in_flight) []

  -- what an answer adds to the journal. At a loss each action of a cell on the node is gone, in the order of their numbers; fences stay in flight
  abbrev pub added_by : Answer → List Event
  added_by (answer.End k code) = end_events k (Code code)
  added_by (answer.Timeout k) = end_events k TimedOut
  added_by (answer.Lost n) = map (end_event Gone) (filter (λ (p : ℕ × Action). is_on n p.1) in_flight) ++ Lost n ∷ []
  added_by (answer.Up n) = Up n ∷ []
  added_by (answer.Quorum now) = Quorum now ∷ []
  added_by (answer.Wait seconds) = Wait seconds ∷ []
  added_by (answer.Report n r interval code) = Ended 0 (monitor_action c r n interval) (Code code) (moment_of es) ∷ []
