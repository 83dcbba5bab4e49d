-- What one colocation says of a decision on a node, with the table so far (follows from the definitions of what all of them say).
use Rattle.std.specs.Prelude.{ℕ, ◌&&◌, ◌||◌, not, Bool, if◌then◌else◌, ℤ, pos}
use Rattle.cluster_types.specs.declared.placement.Decision.{Decision}
use Rattle.cluster_types.specs.declared.rules.Colocation.{Colocation}
use Rattle.cluster_types.specs.Choice.{is_dependent, is_primary, is_mandatory, is_separation, is_finite_colocation}
use Rattle.cluster_types.specs.Tables.{Targets, holds_role}

module _ (table : Targets) (d : Decision) (n : ℕ) (col : Colocation) where
  -- the primary holds its role there, if it must
  abbrev pub has_primary : Bool
  has_primary = not (is_mandatory col && is_dependent d col) || holds_role table col.primary col.primary_role n

  -- the other side doesn't hold its role there, if it must not
  abbrev pub keeps_apart : Bool
  keeps_apart =
      not (is_separation col)
      || not (is_dependent d col && holds_role table col.primary col.primary_role n)
      && not (is_primary d col && holds_role table col.dependent col.dependent_role n)

  -- it is finite, and counts
  abbrev pub counts : Bool
  counts = is_finite_colocation col && is_dependent d col && holds_role table col.primary col.primary_role n

  -- the points that it gives
  abbrev pub points : ℤ
  points = if counts then col.score else pos 0
