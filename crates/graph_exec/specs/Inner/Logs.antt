-- The journal of a transition that goes on, and what is kept of it (rule of this project).
use Rattle.std.specs.Prelude.{◌≡◌, ◌<◌, ◌≤◌, ◌-◌, ◌^◌, ℕ, Option, List, ◌∷◌, ◌++◌, [], length, take, drop, find, count_by}
use Rattle.cluster_types.specs.declared.cluster.Cluster.{Cluster}
use Rattle.cluster_types.specs.declared.journal.Event.{Event}
use Rattle.cluster_types.specs.declared.journal.Promotion.{Promotion}
use Rattle.cluster_types.specs.Journals.{moment_of}
use Rattle.cluster_types.specs.Steps.{aborts, is_from_outside}
use Rattle.state_unpack.specs.KeptKnowledge.{Knowledge, Knows}

-- the journal when the transition was planned, the events since, and how many more there is room for
pub record LogOf : Type 0 where
  pub cluster : Cluster
  pub planned_at : List Event
  pub since : List Event
  pub promotions : List Promotion
  pub room : ℕ

-- the same of all events, of which so many were there when it was planned, and of how many there is room for in all
abbrev pub log_of : Cluster → List Event → List Promotion → ℕ → ℕ → LogOf
log_of c events promotions planned capacity = record {
  cluster = c;
  planned_at = take planned events;
  since = drop planned events;
  promotions = promotions;
  room = capacity - length events;
}

-- the log with one event more
abbrev pub logged : LogOf → Event → LogOf
logged log event = record {
  cluster = log.cluster;
  planned_at = log.planned_at;
  since = log.since ++ event ∷ [];
  promotions = log.promotions;
  room = log.room - 1;
}

-- what is known of the cluster is what the events tell of it, and their moment has 64 bits
pub record IsLogTold (c : Cluster) (events : List Event) (known : Knowledge) : Type 0 where
  pub knows : Knows c events known
  pub moment : moment_of events < 2 ^ 64

-- what is kept beside the events is what they say: what is known of the cluster, how many answers from outside were taken since the plan, and the first
-- event since then that aborts. So many events were there when it was planned, and the moment has 64 bits
pub record Reflects (c : Cluster) (events : List Event) (planned : ℕ) (known : Knowledge) (outside : ℕ) (abort : Option Event) : Type 0 where
  pub starts : planned ≤ length events
  pub knows : Knows c events known
  pub moment : moment_of events < 2 ^ 64
  pub taken : outside ≡ count_by is_from_outside (drop planned events)
  pub first : abort ≡ find (aborts c) (drop planned events)
