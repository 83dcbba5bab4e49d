-- What contracts see of a simulated cluster that answers, and the run that it makes (rule of this project).
use Rattle.std.specs.Prelude.{◌≡◌, ℕ, ◌≤◌, true, None, List, length}
use Rattle.cluster_types.specs.declared.cluster.Cluster.{Cluster}
use Rattle.cluster_types.specs.declared.journal.Event.{Event}
use Rattle.cluster_types.specs.declared.journal.Promotion.{Promotion}
use Rattle.cluster_types.specs.declared.run.RunLine.{RunLine}
use Rattle.cluster_types.specs.Runs.{RunStanding, Runs, due, journal_at}
use Rattle.simulated.specs.KeptReality.{IsOfSame, RealityOf, ShowsWorld}
use Rattle.simulated.specs.Lives.{Lives}
use Rattle.simulated.specs.RealWorlds.{RealWorld}

-- a simulated cluster that answers
pub record WorldOf : Type 0 where
  -- what is kept of the simulated cluster
  pub reality : RealityOf
  -- how many events the journal had with which it began. What comes behind them is its own life
  pub since : ℕ
  -- how often it was asked
  pub asked : ℕ
  -- how many answers it has given
  pub answered : ℕ

-- it agrees with a journal of its cluster after so many answers from outside: the journal is one that it makes, from its own first events on, and it stands
-- now as it stands then. No more of these answers were taken than faults were given
pub record Agrees (k : WorldOf) (c : Cluster) (es : List Event) (taken : ℕ) : Type 0 where
  pub of_cluster : k.reality.cluster ≡ c
  pub first : List Event
  pub began : length first ≡ k.since
  pub world : RealWorld
  pub lives : Lives c k.reality.number first es world
  pub shows : ShowsWorld k.reality world
  pub few : taken ≤ world.faults

-- the two are one simulated cluster, at whatever moments: of one cluster and one number, and begun with as many events
pub record IsOfOne (old new : WorldOf) : Type 0 where
  pub same : IsOfSame old.reality new.reality
  pub since_stays : new.since ≡ old.since

-- the run of the simulated cluster of a number from a journal on: its lines up to here, and what really runs here. Each answer is the one that the
-- simulated cluster gives there, and so is each end: by `Lives` an action ends silently only where that is the end which comes there
pub record IsWorldRun (c : Cluster) (promotions : List Promotion) (number : ℕ) (es : List Event) (lines : List RunLine) (at : RunStanding) (w : RealWorld) : Type 0 where
  pub steps : Runs c promotions true (due 1 es) None lines at None
  pub lives : Lives c number es (journal_at at) w
