-- The ranks of the steps of a cluster: how they are made up, and a table of them (rule of this project).
use Rattle.std.specs.Prelude.{◌≡◌, ◌+◌, ℕ, Bool, if◌then◌else◌, List, [], ◌∷◌, map, filter, fold, max}
use Rattle.listed.specs.Flags.{is_marked}
use Rattle.cluster_types.specs.declared.cluster.Cluster.{Cluster}
use Rattle.cluster_types.specs.declared.journal.Action.{Action}
use Rattle.cluster_types.specs.Numbers.{Link, LeafStep, is_same_step, links, rank}
use Rattle.cluster_types.specs.Precedence.{is_migrating}

-- the links into a step
abbrev pub links_into : Cluster → LeafStep → List Link
links_into c s = filter (λ l. is_same_step l.after s) (links c)

-- each step is one above the highest of those that a link has before it, or 0 where none is
abbrev pub IsRanking : Cluster → (LeafStep → ℕ) → Type 0
IsRanking c height = (s : LeafStep) → height s ≡ fold max 0 (map (λ l. height l.before + 1) (links_into c s))

-- a step with its rank
pub record RankedStep : Type 0 where
  pub step : LeafStep
  pub rank : ℕ

-- the rank that a table gives a step. A step that isn't there has rank 0
abbrev pub rank_of : List RankedStep → LeafStep → ℕ
rank_of [] s = 0
rank_of (row ∷ rows) s = if is_same_step row.step s then row.rank else rank_of rows s

-- the table gives each step its rank in the cluster
abbrev pub AreRanks : Cluster → List RankedStep → Type 0
AreRanks c table = (s : LeafStep) → rank_of table s ≡ rank c s

-- the flag of a leaf is set when it migrates, by the actions
abbrev pub AreMigrating : List Action → List Bool → Type 0
AreMigrating actions flags = (r : ℕ) → is_marked flags r ≡ is_migrating actions r
