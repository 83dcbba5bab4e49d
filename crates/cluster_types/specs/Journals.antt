-- What a journal tells as a whole: the moment, quorum, what is in flight, which journals are in order, and the first journal (after the operation
-- history of the status section, Pacemaker Explained; the form of a journal and which are in order are rules of this project).
use Rattle.std.specs.Prelude.{◌≡◌, ◌↔◌, ◌<◌, ℕ, ◌==◌, ◌&&◌, ◌||◌, Bool, true, false, if◌then◌else◌, nat_lt, Option, Some, None, unwrap_or, List, [], ◌∷◌, ◌++◌, length, map, sum_by, Contains, AllPairs}
use Rattle.std.specs.List.{list_any, filter_map, flat_map, last_or, range_with_len, enumerate_from}
use Rattle.cluster_types.specs.declared.cluster.Cluster.{Cluster}
use Rattle.cluster_types.specs.declared.journal.Action.{Action}
use Rattle.cluster_types.specs.declared.journal.Action.TheVariants.{Fence, Probe, Operation, MigrateTo, MigrateFrom}
use Rattle.cluster_types.specs.declared.journal.Event.{Event}
use Rattle.cluster_types.specs.declared.journal.Event.TheVariants.{Up, Down, Lost, Quorum, Wait, Cleanup, Begin, Ended}
use Rattle.cluster_types.specs.ExitCodes.{success}
use Rattle.cluster_types.specs.Outcomes.{is_code_among}

-- the last thing that the events say, of those that say something
abbrev pub last_said : {X : Type 0} → (Event → Option X) → List Event → Option X
last_said says es = last_or None (filter_map says es)

-- the seconds that an event lets go by
abbrev pub seconds_of : Event → ℕ
seconds_of (Wait seconds) = seconds
seconds_of _ = 0

-- the moment after a journal, in seconds
abbrev pub moment_of : List Event → ℕ
moment_of es = sum_by seconds_of es

abbrev pub said_of_quorum : Event → Option Bool
said_of_quorum (Quorum now) = Some now
said_of_quorum _ = None

-- the cluster has quorum by the last word on it (Pacemaker Explained, "no-quorum-policy"); without a word it hasn't
abbrev pub has_quorum : List Event → Bool
has_quorum es = unwrap_or (last_said said_of_quorum es) false

-- what an event shows of a node
pub data NodeSign : Type 0 where
  joined : NodeSign
  went_down : NodeSign
  was_lost : NodeSign
  was_fenced : NodeSign

abbrev pub sign_of : ℕ → Event → Option NodeSign
sign_of n (Up node) = if node == n then Some joined else None
sign_of n (Down node) = if node == n then Some went_down else None
sign_of n (Lost node) = if node == n then Some was_lost else None
sign_of n (Ended k (Fence node) o moment) = if node == n && is_code_among (success ∷ []) o then Some was_fenced else None
sign_of n _ = None

-- the last that a journal shows of a node
abbrev pub last_sign : ℕ → List Event → Option NodeSign
last_sign n es = last_said (sign_of n) es

abbrev pub ends_number : ℕ → Event → Bool
ends_number k (Ended j a o moment) = j == k
ends_number k _ = false

-- what is in flight, by begin: each action that began, with its number, when no end of that number follows its begin; in the order in which they began
-- (Pacemaker Administration, "Transitions")
abbrev pub in_flight_by_begin : List Event → List (ℕ × Action)
in_flight_by_begin [] = []
in_flight_by_begin (Begin k a ∷ es) = if list_any (ends_number k) es then in_flight_by_begin es else (k, a) ∷ in_flight_by_begin es
in_flight_by_begin (e ∷ es) = in_flight_by_begin es

-- these are the actions in flight by begin, put in the order of their numbers, as a source of answers sees them. In no run that begins
-- with nothing in flight are two of one number in flight; of a journal that has two different ones so, no list is this
pub record AreInFlightByNumber (es : List Event) (pairs : List (ℕ × Action)) : Type 0 where
  pub members : (k : ℕ) (a : Action) → Contains pairs (k, a) ↔ Contains (in_flight_by_begin es) (k, a)
  pub ascending : AllPairs (λ (x y : ℕ × Action). x.0 < y.0) pairs

-- the action is of a cell on the node
abbrev pub is_on : ℕ → Action → Bool
is_on n (Fence node) = false
is_on n (Probe leaf node) = node == n
is_on n (Operation op leaf node interval role) = node == n
is_on n (MigrateTo leaf source target) = source == n
is_on n (MigrateFrom leaf source target) = target == n

-- the event can happen only while the node is there: an action of a cell on it begins or ends, or a migration to it begins
abbrev pub needs_node : ℕ → Event → Bool
needs_node n (Begin k (MigrateTo leaf source target)) = source == n || target == n
needs_node n (Begin k a) = is_on n a
needs_node n (Ended k a o moment) = is_on n a
needs_node n _ = false

-- the journal is in order: whenever an event needs a node, the node had joined, and since then it wasn't lost, down or fenced
abbrev pub Orderly : List Event → Type 0
Orderly es =
    (before after : List Event) (e : Event) (n : ℕ) → es ≡ before ++ e ∷ after → needs_node n e ≡ true → last_sign n before ≡ Some joined

-- what the status says of a node
pub data NodeSaid : Type 0 where
  online : NodeSaid
  offline : NodeSaid
  unclean : NodeSaid
  unsaid : NodeSaid

-- the event is an end of a probe or operation, or a cleanup, on a node that is there
abbrev pub is_history_event : ℕ → Event → Bool
is_history_event nodes (Ended k (Probe leaf node) o moment) = nat_lt node nodes
is_history_event nodes (Ended k (Operation op leaf node interval role) o moment) = nat_lt node nodes
is_history_event nodes (Cleanup leaf node) = nat_lt node nodes
is_history_event nodes _ = false

-- how a node leaves by its word. One of which nothing is said is lost where the cluster fences such nodes, else down
-- (Pacemaker Explained, "startup-fencing")
abbrev pub leaving : Cluster → ℕ × NodeSaid → List Event
leaving c (n, online) = []
leaving c (n, offline) = Down n ∷ []
leaving c (n, unclean) = Lost n ∷ []
leaving c (n, unsaid) = if c.properties.fencing && c.properties.startup_fencing then Lost n ∷ [] else Down n ∷ []

-- the first journal: each node joins, then comes the history of the status, then leave those that aren't online, then the word on quorum,
-- and the seconds up to now (rule of this project)
abbrev pub first_events : Cluster → List Event → List NodeSaid → Bool → ℕ → List Event
first_events c history words quorum now =
    map Up (range_with_len 0 (length c.nodes)) ++ history ++ flat_map (leaving c) (enumerate_from 0 words) ++ Quorum quorum ∷ Wait now ∷ []
