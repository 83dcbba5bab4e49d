-- A text that has grown by the account of some decisions.
use Rattle.std.specs.Prelude.{◌≡◌, ℕ, List, ◌++◌, map}
use Rattle.cluster_types.specs.declared.cluster.Cluster.{Cluster}
use Rattle.cluster_types.specs.declared.journal.Event.{Event}
use Rattle.cluster_types.specs.declared.journal.Promotion.{Promotion}
use Rattle.cluster_types.specs.declared.placement.Decided.{Decided}
use Rattle.cluster_types.specs.declared.placement.Decision.{Decision}
use Rattle.cluster_types.specs.Choice.{after_decisions}
use Rattle.cluster_types.specs.Tables.{Targets}
use Rattle.decision_account.specs.Accounts.{account_lines, why_text}

abbrev pub decisions_made : List Decided → List Decision
decisions_made all = map (λ (x : Decided). x.decision) all

-- the decisions leave this table of the one before them, and the text has their lines more
pub record AreAccounted (c : Cluster) (es : List Event) (promotions : List Promotion) (start : Targets) (ds : List Decision) (old new : List ℕ) (after : Targets) : Type 0 where
  pub left : after ≡ after_decisions c es promotions start ds
  pub added : new ≡ old ++ why_text c (account_lines c es promotions start ds)
