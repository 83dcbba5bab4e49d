-- What locations give a leaf on a node, at a moment (follows from the definition of own terms).
use Rattle.std.specs.Prelude.{ℕ, ◌==◌, ◌&&◌, ◌||◌, Bool, false, not, ℤ, List, ◌++◌, map, filter, slice_get}
use Rattle.std.specs.List.{list_any}
use Rattle.std.specs.Option.{option_map_or}
use Rattle.date_rules.specs.Rule.{holds}
use Rattle.cluster_types.specs.declared.cluster.Cluster.{Cluster}
use Rattle.cluster_types.specs.declared.leaf.Role.{Role}
use Rattle.cluster_types.specs.declared.node.Node.{Node}
use Rattle.cluster_types.specs.declared.rules.Location.{Location}
use Rattle.cluster_types.specs.declared.rules.RuleLocation.{RuleLocation}
use Rattle.cluster_types.specs.Fields.{is_follower}

-- the scores of these locations that are of the leaf on the node, in a role that passes
abbrev pub located : (Role → Bool) → ℕ → List Location → ℕ → List ℤ
located passes r locations n = map (λ (l : Location). l.score) (filter (λ l. l.leaf == r && l.node == n && passes l.role) locations)

-- one of these locations is of the leaf on the node
abbrev pub is_named : ℕ → List Location → ℕ → Bool
is_named r locations n = list_any (λ (l : Location). l.leaf == r && l.node == n) locations

module _ (c : Cluster) (moment : ℕ) where
  -- the rule holds at the node and the moment
  abbrev pub rule_holds_by : RuleLocation → ℕ → Bool
  rule_holds_by rl n = option_map_or (λ (node : Node). holds rl.rule node.name node.attributes moment) (slice_get c.nodes n) false

  -- the same of locations with a rule
  abbrev pub ruled : (Role → Bool) → ℕ → List RuleLocation → ℕ → List ℤ
  ruled passes r rules n = map (λ (rl : RuleLocation). rl.score) (filter (λ rl. rl.leaf == r && passes rl.role && rule_holds_by rl n) rules)

  abbrev pub is_named_by_rule : ℕ → List RuleLocation → ℕ → Bool
  is_named_by_rule r rules n = list_any (λ (rl : RuleLocation). rl.leaf == r && rule_holds_by rl n) rules

  -- of both forms
  abbrev pub scores_given : (Role → Bool) → ℕ → List Location → List RuleLocation → ℕ → List ℤ
  scores_given passes r locations rules n = located passes r locations n ++ ruled passes r rules n

  -- some location of either form names the leaf there
  abbrev pub is_located_by : ℕ → ℕ → Bool
  is_located_by r n = is_named r c.locations n || is_named_by_rule r c.rule_locations n

  -- a location must name the leaf there, and none does
  abbrev pub is_unnamed : ℕ → ℕ → Bool
  is_unnamed r n = not c.properties.symmetric && not (is_follower c r) && not (is_located_by r n)
