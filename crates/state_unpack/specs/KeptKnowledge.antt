-- What is kept of a cluster while its journal goes on (rule of this project).
use Rattle.std.specs.Prelude.{◌≡◌, ℕ, Bool, true, Option, List, length}
use Rattle.cluster_types.specs.declared.cluster.Cluster.{Cluster}
use Rattle.cluster_types.specs.declared.journal.Event.{Event}
use Rattle.cluster_types.specs.Journals.{has_quorum, moment_of}
use Rattle.cluster_types.specs.Valid.{KeepsLimits}
use Rattle.state_unpack.specs.declared.facts.Facts.{Facts}
use Rattle.state_unpack.specs.declared.signs.Sign.{Sign}
use Rattle.state_unpack.specs.Knowledge.{has_few_monitors}
use Rattle.state_unpack.specs.KeptCells.{IsFull, KeepsFacts}
use Rattle.state_unpack.specs.Signs.{ShowsSigns}

-- what is kept: of each cell, of each node, whether there is quorum, and the moment
pub record Knowledge : Type 0 where
  pub cluster : Cluster
  pub cells : List Facts
  pub signs : List (Option Sign)
  pub quorum : Bool
  pub moment : ℕ

-- it is what these events tell of this cluster: the journal so far
pub record Knows (c : Cluster) (es : List Event) (known : Knowledge) : Type 0 where
  pub same : known.cluster ≡ c
  pub facts : KeepsFacts c es known.cells
  pub shown : ShowsSigns (length c.nodes) es known.signs
  pub word : known.quorum ≡ has_quorum es
  pub now : known.moment ≡ moment_of es

-- the cluster is within the limits, each leaf has at most eight recurring monitors, and there is something kept of each cell
pub record KnowledgeFits (known : Knowledge) : Type 0 where
  pub limits : KeepsLimits known.cluster
  pub monitors : has_few_monitors known.cluster ≡ true
  pub full : IsFull known.cluster known.cells

abbrev pub knowledge : Cluster → List Facts → List (Option Sign) → Bool → ℕ → Knowledge
knowledge c cells signs quorum moment = record { cluster = c; cells = cells; signs = signs; quorum = quorum; moment = moment }
