-- The parts of a decision on a node by the states of the cluster, and their lines (follows from the definition of the parts).
use Rattle.std.specs.Prelude.{ℕ, ◌==◌, ◌&&◌, Bool, if◌then◌else◌, ℤ, Option, None, List, [], ◌∷◌, ◌++◌, map, filter}
use Rattle.std.specs.List.{flat_map}
use Rattle.score.specs.NodeSet.{has}
use Rattle.score.specs.Total.{minus_infinity}
use Rattle.cluster_types.specs.declared.cluster.Cluster.{Cluster}
use Rattle.cluster_types.specs.declared.leaf.Role.{Role}
use Rattle.cluster_types.specs.declared.rules.Location.{Location}
use Rattle.cluster_types.specs.declared.rules.RuleLocation.{RuleLocation}
use Rattle.cluster_types.specs.declared.states.States.{States}
use Rattle.cluster_types.specs.declared.placement.Decision.{Decision}
use Rattle.cluster_types.specs.declared.placement.Decision.TheVariants.{Place, Promote}
use Rattle.cluster_types.specs.Terms.{is_promoted, is_started, promotion_score}
use Rattle.decision_account.specs.Accounts.{part_text}
use Rattle.decision_account.specs.Parts.{Origin, ScorePart, from_ban, from_location, from_opt_in, from_promotion, from_stickiness, lender_of, part_of, without_zeros}
use Rattle.placement.specs.OwnRows.{is_active_by, is_banned_by, stickiness_of}
use Rattle.placement.specs.Inner.LendingRows.{all_joined}
use Rattle.placement.specs.Locations.{is_unnamed, rule_holds_by}
use Rattle.account_text.specs.declared.leaf_sources.Ruled.{Ruled}

-- the lines of those of these parts that aren't 0
abbrev pub parts_text : Cluster → List ℕ → List ScorePart → List ℕ
parts_text c cell parts = flat_map (part_text c cell) (without_zeros parts)

abbrev pub part_where : Bool → ScorePart → List ScorePart
part_where counts part = if counts then part ∷ [] else []

abbrev pub own_part_where : Bool → Option ℕ → Origin → ℤ → List ScorePart
own_part_where counts lender origin score = part_where counts (part_of lender origin score)

module _ (lender : Option ℕ) (passes : Role → Bool) (n : ℕ) where
  -- the part of a location of the leaf, if it names the node in a role that passes
  abbrev pub located_part : Location → List ScorePart
  located_part l = part_where (l.node == n && passes l.role) (part_of lender (from_location l.id) l.score)

  -- the part of a location with a rule, if it holds at the node
  abbrev pub ruled_part : Ruled → List ScorePart
  ruled_part x = part_where (passes x.rule.now.role && has x.nodes n) (part_of lender (from_location x.rule.now.id) x.rule.now.score)

module _ (c : Cluster) (moment : ℕ) (lender : Option ℕ) where
  -- the parts of the locations of a leaf and a node
  abbrev pub location_parts_by : (Role → Bool) → ℕ → ℕ → List ScorePart
  location_parts_by passes r n =
      map (λ (l : Location). part_of lender (from_location l.id) l.score) (filter (λ l. l.leaf == r && l.node == n && passes l.role) c.locations)
      ++ map (λ (rl : RuleLocation). part_of lender (from_location rl.id) rl.score) (filter (λ rl. rl.leaf == r && passes rl.role && rule_holds_by c moment rl n) c.rule_locations)

-- the parts of the own terms of a leaf on a node
abbrev pub own_parts_by : Cluster → States → Option ℕ → ℕ → ℕ → List ScorePart
own_parts_by c states lender r n =
    location_parts_by c states.moment lender is_started r n
    ++ own_part_where (is_active_by c states r n) lender from_stickiness (stickiness_of c r)
    ++ own_part_where (is_banned_by c states r n) lender from_ban minus_infinity
    ++ own_part_where (is_unnamed c states.moment r n) lender from_opt_in minus_infinity

-- the parts of promoting a leaf that wants it so much on a node
abbrev pub promote_parts_by : Cluster → ℕ → ℤ → ℕ → ℕ → List ScorePart
promote_parts_by c moment wanted r n = part_of None from_promotion wanted ∷ location_parts_by c moment None is_promoted r n

-- the parts of a decision on a node, before colocations
abbrev pub base_parts_by : Cluster → States → Decision → ℕ → List ScorePart
base_parts_by c states (Place r) n = flat_map (λ s. own_parts_by c states (lender_of r s) s n) (all_joined c states r)
base_parts_by c states (Promote r) n = promote_parts_by c states.moment (promotion_score states.promotions r n) r n

-- the leaves whose own terms count for a decision
abbrev pub joined_by : Cluster → States → Decision → List ℕ
joined_by c states (Place r) = all_joined c states r
joined_by c states (Promote r) = []
