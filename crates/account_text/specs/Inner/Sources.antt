-- What gives each leaf its own terms, found once for all nodes (follows from the definition of own terms).
use Rattle.std.specs.Prelude.{◌≡◌, ℕ, ◌==◌, ◌<◌, Some, List, length, map, filter, slice_get, Contains}
use Rattle.std.specs.Borrow.{Bor}
use Rattle.score.specs.NodeSet.{has}
use Rattle.cluster_types.specs.declared.cluster.Cluster.{Cluster}
use Rattle.cluster_types.specs.declared.rules.Location.{Location}
use Rattle.cluster_types.specs.declared.rules.RuleLocation.{RuleLocation}
use Rattle.placement.specs.Locations.{is_unnamed, rule_holds_by}
use Rattle.account_text.specs.declared.leaf_sources.LeafSources.{LeafSources}
use Rattle.account_text.specs.declared.leaf_sources.Ruled.{Ruled}

-- what is lent
abbrev pub lent_values : {X : Type 0} → List (Bor X) → List X
lent_values refs = map (λ r. r.now) refs

-- those of these locations that are of the leaf
abbrev pub AreLocated : List Location → ℕ → List (Bor Location) → Type 0
AreLocated locations r all = lent_values all ≡ filter (λ l. l.leaf == r) locations

module _ (c : Cluster) (moment : ℕ) where
  -- the nodes are those at which the rule holds
  abbrev pub HoldsAt : Ruled → Type 0
  HoldsAt x = (n : ℕ) → n < length c.nodes → has x.nodes n ≡ rule_holds_by c moment x.rule.now n

  -- the same of locations with a rule, each with the nodes at which it holds
  pub record AreRuled (rules : List RuleLocation) (r : ℕ) (all : List Ruled) : Type 0 where
    pub of_leaf : map (λ (x : Ruled). x.rule.now) all ≡ filter (λ rl. rl.leaf == r) rules
    pub hold : (x : Ruled) → Contains all x → HoldsAt x

  -- what gives the leaf its own terms
  pub record IsSourceOf (r : ℕ) (sources : LeafSources) : Type 0 where
    pub located : AreLocated c.locations r sources.located.items
    pub ruled : AreRuled c.rule_locations r sources.ruled.items
    pub unnamed : (n : ℕ) → n < length c.nodes → has sources.unnamed n ≡ is_unnamed c moment r n

  -- the same of each leaf
  pub record AreSources (all : List LeafSources) : Type 0 where
    pub size : length all ≡ length c.leaves
    pub each : (r : ℕ) (sources : LeafSources) → slice_get all r ≡ Some sources → IsSourceOf r sources
