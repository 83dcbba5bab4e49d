-- What a node counts for a decision: each term of its total, with the statement or the fact that it comes from (Pacemaker Explained, "Scores"; the
-- order of the terms is a rule of this project).
use Rattle.std.specs.Prelude.{ℕ, ◌==◌, ◌&&◌, Bool, not, if◌then◌else◌, ℤ, pos, Option, Some, None, List, ◌∷◌, ◌++◌, map, filter, flat_map}
use Rattle.std.specs.Ordering.{int_eq}
use Rattle.cluster_types.specs.declared.cluster.Cluster.{Cluster}
use Rattle.cluster_types.specs.declared.journal.Event.{Event}
use Rattle.cluster_types.specs.declared.journal.Promotion.{Promotion}
use Rattle.cluster_types.specs.declared.leaf.Role.{Role}
use Rattle.cluster_types.specs.declared.placement.Decision.{Decision}
use Rattle.cluster_types.specs.declared.placement.Decision.TheVariants.{Place, Promote}
use Rattle.cluster_types.specs.declared.rules.Colocation.{Colocation}
use Rattle.cluster_types.specs.declared.rules.Location.{Location}
use Rattle.cluster_types.specs.declared.rules.RuleLocation.{RuleLocation}
use Rattle.cluster_types.specs.Choice.{is_dependent, is_finite_colocation}
use Rattle.cluster_types.specs.Tables.{Targets, holds_role}
use Rattle.cluster_types.specs.Terms.{ban_scores, is_promoted, is_started, opt_in_scores, promotion_score, rule_holds, stickiness_scores, with_lenders}

-- where a term comes from: a location or a colocation of this id, what is known of the leaf on the node, or that no location names it there
pub data Origin : Type 0 where
  from_location : List ℕ → Origin
  from_stickiness : Origin
  from_ban : Origin
  from_opt_in : Origin
  from_promotion : Origin
  from_colocation : List ℕ → Origin

-- a term of a total. The lender is the leaf whose own term it is, where it is lent
pub record ScorePart : Type 0 where
  pub score : ℤ
  pub lender : Option ℕ
  pub origin : Origin

abbrev pub part_of : Option ℕ → Origin → ℤ → ScorePart
part_of lender origin score = record { score = score; lender = lender; origin = origin }

abbrev pub part_scores : List ScorePart → List ℤ
part_scores parts = map (λ (part : ScorePart). part.score) parts

-- who lends a term of leaf s to leaf r: nobody where it is its own
abbrev pub lender_of : ℕ → ℕ → Option ℕ
lender_of r s = if s == r then None else Some s

module _ (c : Cluster) (es : List Event) (lender : Option ℕ) where
  -- the parts of the locations of a leaf and a node whose role passes, and then of those whose rule holds there
  abbrev pub location_parts : (Role → Bool) → ℕ → ℕ → List ScorePart
  location_parts passes r n =
      map (λ (l : Location). part_of lender (from_location l.id) l.score) (filter (λ l. l.leaf == r && l.node == n && passes l.role) c.locations)
      ++ map (λ (rl : RuleLocation). part_of lender (from_location rl.id) rl.score) (filter (λ rl. rl.leaf == r && passes rl.role && rule_holds c es rl n) c.rule_locations)

  -- the parts of the own terms of a leaf on a node
  abbrev pub own_parts : ℕ → ℕ → List ScorePart
  own_parts r n =
      location_parts is_started r n
      ++ map (part_of lender from_stickiness) (stickiness_scores c es r n)
      ++ map (part_of lender from_ban) (ban_scores c es r n)
      ++ map (part_of lender from_opt_in) (opt_in_scores c es r n)

module _ (c : Cluster) (es : List Event) where
  -- the parts of placing a leaf: its own, and then those of each lender that joins, in the order in which they are tried
  abbrev pub place_parts : ℕ → ℕ → List ScorePart
  place_parts r n = flat_map (λ s. own_parts c es (lender_of r s) s n) (with_lenders c es r)

  -- the parts of a decision on a node, before colocations
  abbrev pub base_parts : List Promotion → Decision → ℕ → List ScorePart
  base_parts promotions (Place r) n = place_parts r n
  base_parts promotions (Promote r) n =
      part_of None from_promotion (promotion_score promotions r n) ∷ location_parts c es None is_promoted r n

-- the parts of the finite colocations of a decision whose primary holds its role on the node
abbrev pub preference_parts : Cluster → Targets → Decision → ℕ → List ScorePart
preference_parts c table d n =
    map (λ (col : Colocation). part_of None (from_colocation col.id) col.score)
    (filter (λ col. is_finite_colocation col && is_dependent d col && holds_role table col.primary col.primary_role n) c.colocations)

-- a part of 0 isn't told
abbrev pub is_told : ScorePart → Bool
is_told part = not (int_eq part.score (pos 0))

abbrev pub without_zeros : List ScorePart → List ScorePart
without_zeros parts = filter is_told parts

-- the parts that are told of a decision on a node, with the table so far
abbrev pub told_parts : Cluster → List Event → List Promotion → Targets → Decision → ℕ → List ScorePart
told_parts c es promotions table d n = without_zeros (base_parts c es promotions d n) ++ without_zeros (preference_parts c table d n)
