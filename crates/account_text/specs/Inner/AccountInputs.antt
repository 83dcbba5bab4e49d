-- What is read beside the table is that of the cluster in its states.
use Rattle.std.specs.Prelude.{◌≡◌}
use Rattle.cluster_types.specs.Valid.{IsValid}
use Rattle.placement.specs.Promotions.{AreSaid}
use Rattle.placement.specs.Ties.{AreTies}
use Rattle.account_text.specs.declared.account_inputs.Read.{Read}
use Rattle.account_text.specs.Inner.Journal.{HaveJournal}

pub record ReadsCluster (read : Read) : Type 0 where
  pub valid : IsValid read.known.cluster.now
  pub journal : HaveJournal read.known.cluster.now read.known.states.now read.known.scores.now
  pub sources_cluster : read.sources.cluster.now ≡ read.known.cluster.now
  pub sources_states : read.sources.states.now ≡ read.known.states.now
  pub own_cluster : read.own.cluster.now ≡ read.known.cluster.now
  pub own_states : read.own.states.now ≡ read.known.states.now
  pub tied : AreTies read.known.cluster.now read.ties.items
  pub said : AreSaid read.known.cluster.now read.known.states.now.promotions read.said.items
