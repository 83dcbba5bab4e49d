-- What is kept of a simulated cluster and its run.
use Rattle.std.specs.Prelude.{◌≡◌, ℕ}
use Rattle.cluster_types.specs.declared.cluster.Cluster.{Cluster}
use Rattle.cluster_types.specs.declared.journal.Journal.{Journal}
use Rattle.simulated.specs.RealWorlds.{RealWorld}
use Rattle.simulated.specs.KeptReality.{ShowsWorld}
use Rattle.simulated.specs.Worlds.{WorldOf}
use Rattle.simulated.specs.declared.living.Lived.{Lived}
use Rattle.simulated.specs.WorldTexts.{IsLived}

module _ (c : Cluster) (journal : Journal) (number : ℕ) where
  -- what is kept of the simulated cluster at the end of its run from a journal on
  pub record HasLived (kept : WorldOf) (lived : Lived) : Type 0 where
    pub world : RealWorld
    pub of_cluster : kept.reality.cluster ≡ c
    pub shows : ShowsWorld kept.reality world
    pub is : IsLived c journal number lived.run lived.over world
