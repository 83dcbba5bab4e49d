-- The colocations of which a decision is a side, and what they say of it on a node (follows from the definitions of what all colocations say).
use Rattle.std.specs.Prelude.{◌≡◌, ℕ, ◌||◌, Bool, not, None, Option, List, filter, find}
use Rattle.std.specs.Borrow.{Bor}
use Rattle.cluster_types.specs.declared.placement.Decision.{Decision}
use Rattle.cluster_types.specs.declared.rules.Colocation.{Colocation}
use Rattle.cluster_types.specs.Choice.{is_dependent, is_primary}
use Rattle.cluster_types.specs.Tables.{Targets}
use Rattle.decision_account.specs.Parts.{ScorePart, from_colocation, part_of}
use Rattle.placement.specs.Tests.{counts, has_primary, keeps_apart}
use Rattle.account_text.specs.Inner.Sources.{lent_values}
use Rattle.account_text.specs.Inner.PartsByStates.{part_where}

abbrev pub is_side : Decision → Colocation → Bool
is_side d col = is_dependent d col || is_primary d col

abbrev pub AreColocationsOf : Decision → List Colocation → List (Bor Colocation) → Type 0
AreColocationsOf d cols sides = lent_values sides ≡ filter (is_side d) cols

module _ (table : Targets) (d : Decision) (n : ℕ) where
  -- the part of a colocation, if it counts
  abbrev pub preference_part : Colocation → List ScorePart
  preference_part col = part_where (counts table d n col) (part_of None (from_colocation col.id) col.score)

  -- the first whose primary must hold its role on the node and doesn't
  abbrev pub first_missing : List (Bor Colocation) → Option (Bor Colocation)
  first_missing sides = find (λ col. not (has_primary table d n col.now)) sides

  -- the first whose sides must be apart and would be together on the node
  abbrev pub first_joined : List (Bor Colocation) → Option (Bor Colocation)
  first_joined sides = find (λ col. not (keeps_apart table d n col.now)) sides
