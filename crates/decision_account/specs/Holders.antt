-- Which rule holds a chosen cell back, by the targets in the end (rule of this project).
use Rattle.std.specs.Prelude.{ℕ, ◌&&◌, Bool, not, if◌then◌else◌, Option, Some, None, option_map, List, length, find}
use Rattle.std.specs.List.{list_any, range_with_len}
use Rattle.std.specs.Option.{option_or}
use Rattle.cluster_types.specs.declared.cluster.Cluster.{Cluster}
use Rattle.cluster_types.specs.declared.leaf.Role.{Role}
use Rattle.cluster_types.specs.declared.leaf.Role.TheVariants as role
use Rattle.cluster_types.specs.declared.placement.Decision.{Decision}
use Rattle.cluster_types.specs.declared.placement.Decision.TheVariants.{Place, Promote}
use Rattle.cluster_types.specs.declared.rules.Colocation.{Colocation}
use Rattle.cluster_types.specs.declared.rules.Order.{Order}
use Rattle.cluster_types.specs.Decisions.{decision_of, is_same_decision}
use Rattle.cluster_types.specs.Precedence.{is_mandatory_order, is_giving, role_given}
use Rattle.cluster_types.specs.Tables.{Targets, holds_role, is_in_scope}
use Rattle.decision_account.specs.Verdicts.{missed_colocation}

module _ (c : Cluster) (targets : Targets) where
  -- the first of the order has a target that is left, in its role and in the scope of the node
  abbrev pub has_first_left : Order → ℕ → Bool
  has_first_left o n = list_any (λ m. is_in_scope o n m && holds_role targets o.first (role_given o.first_op) m) (range_with_len 0 (length c.nodes))

  -- a mandatory order whose words both give a role, and the second that of the decision; its first has no target left
  abbrev pub misses_first : Decision → ℕ → Order → Bool
  misses_first d n o =
      is_mandatory_order o.kind && is_giving o.first_op && is_giving o.then_op && is_same_decision d (decision_of o.then_leaf (role_given o.then_op)) && not (has_first_left o n)

  -- the first such order
  abbrev pub missed_order : Decision → ℕ → Option Order
  missed_order d n = find (misses_first d n) c.orders

  -- the id of the first mandatory colocation that holds the decision back on the node, or else of the first such order
  abbrev pub holder_of : Decision → ℕ → Option (List ℕ)
  holder_of d n =
      option_or (option_map (λ (col : Colocation). col.id) (missed_colocation c targets d n)) (option_map (λ (o : Order). o.id) (missed_order d n))

-- the role was chosen, and isn't left in the end
abbrev pub is_held_role : Targets → Targets → ℕ → Role → ℕ → Bool
is_held_role before_holding targets r given n = holds_role before_holding r given n && not (holds_role targets r given n)

-- which decision of a leaf is held back on the node: that of its place goes first
abbrev pub held_decision : Targets → Targets → ℕ → ℕ → Option Decision
held_decision before_holding targets r n =
    if is_held_role before_holding targets r role.Started n then Some (Place r)
    else (if is_held_role before_holding targets r role.Promoted n then Some (Promote r) else None)
