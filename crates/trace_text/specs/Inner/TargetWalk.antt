-- The target lines from a place among them on (follows from the definition of the target lines).
use Rattle.std.specs.Prelude.{◌≡◌, ℕ, true, ◌+◌, ◌-◌, ◌*◌, nat_lt, if◌then◌else◌, Option, Some, None, unwrap_or, List, [], ◌∷◌, ◌++◌, length, slice_get}
use Rattle.std.specs.List.{flat_map, range_with_len}
use Rattle.cluster_types.specs.declared.cluster.Cluster.{Cluster}
use Rattle.cluster_types.specs.declared.placement.NoReason.{NoReason}
use Rattle.cluster_types.specs.declared.placement.NoReason.TheVariants.{Held}
use Rattle.cluster_types.specs.declared.placement.Pin.{Pin}
use Rattle.cluster_types.specs.declared.placement.Placed.{Placed}
use Rattle.cluster_types.specs.declared.placement.Target.{Target}
use Rattle.cluster_types.specs.declared.run.RunLine.{RunLine}
use Rattle.cluster_types.specs.Tables.{targets_of}
use Rattle.cluster_types.specs.Texts.{goal_lines, lacking_lines, leaf_lines, pin_lines}
use Rattle.cluster_types.specs.Valid.{KeepsLimits}
use Rattle.crm_lex.specs.Names.{is_name}
use Rattle.trace_text.specs.RunLines.{lent_line}
use Rattle.trace_text.specs.declared.run_line_ref.RunLineRef.{RunLineRef}
use Rattle.trace_text.specs.declared.target_walk.LineColumn.{LineColumn}
use Rattle.trace_text.specs.declared.target_walk.LineColumn.TheVariants as column
use Rattle.trace_text.specs.declared.target_walk.LinePlace.{LinePlace}

module _ (c : Cluster) (pins : List (Option Pin)) (targets : ℕ → ℕ → Target) (none : List (Option NoReason)) where
  abbrev pub goal_lines_from : ℕ → ℕ → List RunLine
  goal_lines_from r n = flat_map (λ m. goal_lines c r m (targets r m)) (range_with_len n (length c.nodes - n))

  abbrev pub reason_lines : ℕ → List RunLine
  reason_lines r = lacking_lines c r (unwrap_or (slice_get none r) None)

  -- those of a leaf, from a column on
  abbrev pub leaf_lines_from : ℕ → LineColumn → List RunLine
  leaf_lines_from r column.Pin = leaf_lines c pins targets none r
  leaf_lines_from r (column.Goal n) = goal_lines_from r n ++ reason_lines r
  leaf_lines_from r column.Reason = reason_lines r

  -- those of the leaves from one on
  abbrev pub all_lines_from : ℕ → List RunLine
  all_lines_from r = flat_map (leaf_lines c pins targets none) (range_with_len r (length c.leaves - r))

  -- those from a place on
  abbrev pub target_lines_from : LinePlace → List RunLine
  target_lines_from at = if nat_lt at.leaf (length c.leaves) then leaf_lines_from at.leaf at.column ++ all_lines_from (at.leaf + 1) else []

  -- the line at a place, if one stands there
  abbrev pub lines_in : ℕ → LineColumn → List RunLine
  lines_in r column.Pin = pin_lines c r (unwrap_or (slice_get pins r) None)
  lines_in r (column.Goal n) = if nat_lt n (length c.nodes) then goal_lines c r n (targets r n) else []
  lines_in r column.Reason = reason_lines r

-- those of a placement from a place on
abbrev pub lines_from : Cluster → Placed → LinePlace → List RunLine
lines_from c placed = target_lines_from c placed.pins (targets_of placed.table) placed.none

-- the place behind a place
abbrev pub next_place : Cluster → LinePlace → LinePlace
next_place c at = behind at.column
  where
    behind : LineColumn → LinePlace
    behind column.Pin = record { leaf = at.leaf; column = column.Goal 0 }
    behind (column.Goal n) = record { leaf = at.leaf; column = if nat_lt n (length c.nodes) then column.Goal (n + 1) else column.Reason }
    behind column.Reason = record { leaf = at.leaf + 1; column = column.Pin }

-- how many places of a leaf come before a column
abbrev pub column_place : Cluster → LineColumn → ℕ
column_place c column.Pin = 0
column_place c (column.Goal n) = 1 + (if nat_lt n (length c.nodes) then n else length c.nodes)
column_place c column.Reason = length c.nodes + 2

-- how many places are left at most
abbrev pub places_left : Cluster → LinePlace → ℕ
places_left c at = (length c.leaves - at.leaf) * (length c.nodes + 3) - column_place c at.column

-- the id of each rule that holds a leaf back is a name
abbrev pub AreReasonsNamed : List (Option NoReason) → Type 0
AreReasonsNamed none = (r : ℕ) (id : List ℕ) → slice_get none r ≡ Some (Some (Held id)) → is_name id ≡ true

-- what the lines of a placement ask for, to be told one by one
pub record CanBeTold (c : Cluster) (placed : Placed) : Type 0 where
  pub limits : KeepsLimits c
  pub named : AreReasonsNamed placed.none

-- a line that is found there, if one is
abbrev pub IsLineFound : Option RunLineRef → List RunLine → Type 0
IsLineFound None lines = lines ≡ []
IsLineFound (Some found) lines = lines ≡ lent_line found ∷ []
