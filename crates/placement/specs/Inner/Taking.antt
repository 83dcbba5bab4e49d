-- How roles are taken away from targets one by one, each where a dependency lacks its primary (follows from the definition of the held cells).
use Rattle.std.specs.Prelude.{◌≡◌, ℕ, ◌<◌, ◌&&◌, Bool, true, false, not, if◌then◌else◌, List, Contains, sum_by}
use Rattle.std.specs.List.{list_any, range_with_len}
use Rattle.cluster_types.specs.declared.leaf.Role.{Role}
use Rattle.cluster_types.specs.declared.leaf.Role.TheVariants as role
use Rattle.cluster_types.specs.declared.placement.Target.{Target}
use Rattle.cluster_types.specs.declared.placement.Target.TheVariants as target
use Rattle.cluster_types.specs.Tables.{Targets, holds_role, with_cell}
use Rattle.placement.specs.declared.held_targets.dependencies.Dependency.{Dependency}

-- what is left of a target without the role
abbrev pub below : Role → Target
below role.Started = target.Nowhere
below role.Promoted = target.Started

-- the same targets without the role of a leaf on a node
abbrev pub without : Targets → ℕ → Role → ℕ → Targets
without table r given n = with_cell table r n (below given)

-- how many roles a target gives
abbrev pub roles_of : Target → ℕ
roles_of target.Nowhere = 0
roles_of target.Started = 1
roles_of target.Promoted = 2

abbrev pub roles_in : List Target → ℕ
roles_in targets = sum_by roles_of targets

-- the primary holds its role where it counts for the node, if it is known whether it does so anywhere
abbrev pub has_primary_where : Targets → Dependency → Bool → ℕ → Bool
has_primary_where table rule anywhere n = if rule.local then holds_role table rule.primary rule.primary_role n else anywhere

module _ (nodes : ℕ) (table : Targets) where
  abbrev pub is_anywhere : ℕ → Role → Bool
  is_anywhere r given = list_any (holds_role table r given) (range_with_len 0 nodes)

  -- the primary holds its role where it counts for the node: there, or of a dependency that isn't local on any node
  abbrev pub has_its_primary : Dependency → ℕ → Bool
  has_its_primary rule n = has_primary_where table rule (is_anywhere rule.primary rule.primary_role) n

  -- the dependency takes its dependent's role away from the node
  abbrev pub takes : Dependency → ℕ → Bool
  takes rule n = holds_role table rule.dependent rule.dependent_role n && not (has_its_primary rule n)

  -- on no node it does
  abbrev pub IsRuleSettled : Dependency → Type 0
  IsRuleSettled rule = (n : ℕ) → n < nodes → takes rule n ≡ false

-- these targets are what is left of the chosen ones after some roles were taken away
pub data TakenAway (rules : List Dependency) (nodes : ℕ) (chosen : Targets) : Targets → Type 0 where
  none_yet : (left : Targets) → ((r n : ℕ) → left r n ≡ chosen r n) → TakenAway rules nodes chosen left
  one_more : (before left : Targets) (rule : Dependency) (n : ℕ) → TakenAway rules nodes chosen before → Contains rules rule → n < nodes
      → takes nodes before rule n ≡ true → ((r m : ℕ) → left r m ≡ without before rule.dependent rule.dependent_role n r m)
      → TakenAway rules nodes chosen left
