-- What really runs at each moment of the run of a simulated cluster (follows from the definitions of its life).
use Rattle.std.specs.Prelude.{◌≡◌, ℕ, ◌<◌, true, List, length}
use Rattle.cluster_types.specs.declared.cluster.Cluster.{Cluster}
use Rattle.cluster_types.specs.declared.journal.Event.{Event}
use Rattle.cluster_types.specs.Journals.{last_sign}
use Rattle.cluster_types.specs.May.{may_be_running, may_be_promoted}
use Rattle.simulated.specs.Lives.{IsWorldWithin, Lives}
use Rattle.simulated.specs.RealWorlds.{RealWorld, is_cell, is_really_promoted, is_there, standing_by}

-- the simulated cluster of a number, from a first journal on, has come to this journal, and what really runs now may run by it
pub record IsLivedWithin (c : Cluster) (number : ℕ) (first es : List Event) : Type 0 where
  pub world : RealWorld
  pub lives : Lives c number first es world
  pub within : IsWorldWithin c es world

-- each node of the cluster stands as the journal shows, what is there may run there, and what is promoted may be promoted
pub record RunsWithin (c : Cluster) (es : List Event) (w : RealWorld) : Type 0 where
  pub stands : (n : ℕ) → n < length c.nodes → w.nodes n ≡ standing_by c (last_sign n es)
  pub runs : (r n : ℕ) → is_cell c r n ≡ true → is_there (w.cells r n) ≡ true → may_be_running c r n es ≡ true
  pub promoted : (r n : ℕ) → is_cell c r n ≡ true → is_really_promoted (w.cells r n) ≡ true → may_be_promoted c r n es ≡ true
