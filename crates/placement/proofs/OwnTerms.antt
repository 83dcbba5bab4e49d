-- How many own terms a leaf has, and what they are by the definition.
use Rattle.std.proofs.Common.{ℕ, ◌≤◌, ◌==◌, arith}
use Rattle.std.proofs.lemmas.List.Sums.{count_by-le-length}
use Rattle.cluster_types.specs.declared.cluster.Cluster.{Cluster}
use Rattle.cluster_types.specs.declared.rules.Location.{Location}
use Rattle.cluster_types.specs.declared.rules.RuleLocation.{RuleLocation}
use Rattle.cluster_types.specs.declared.states.States.{States}
use Rattle.cluster_types.specs.Terms.{is_started}
use Rattle.cluster_types.specs.Valid.{KeepsLimits}
use Rattle.placement.specs.Locations.{scores_given, is_unnamed}
use Rattle.placement.specs.OwnRows.{is_active_by, is_banned_by, stickiness_of, sticky_by, banned_by, own_by}
use Rattle.placement.specs.Inner.OwnRows.{own_size}
use Rattle.placement.specs.Rows.{few}
use Rattle.placement.proofs.FewTerms.{few-where, few-minus}
use Rattle.placement.proofs.Given.{few-given}

module _ (c : Cluster) (states : States) (r n : ℕ) where
  pub few-sticky : few (sticky_by c states r n) ≤ own_size c r
  few-sticky =
      let a = few-given c states.moment is_started r c.locations c.rule_locations n in
      let b = few-where (is_active_by c states r) (stickiness_of c r) (scores_given c states.moment is_started r c.locations c.rule_locations) n in
      omega (arith, a, b)

  pub few-banned : few (banned_by c states r n) ≤ own_size c r
  few-banned =
      let a = few-minus (is_banned_by c states r) (sticky_by c states r) n in
      let b = few-sticky in
      omega (arith, a, b)

  -- the finite own terms are few
  pub few-own : few (own_by c states r n) ≤ own_size c r
  few-own =
      let a = few-minus (is_unnamed c states.moment r) (banned_by c states r) n in
      let b = few-banned in
      omega (arith, a, b)

-- for one leaf
pub small-own : (c : Cluster) (r : ℕ) → KeepsLimits c → own_size c r ≤ 2001
small-own c r limits =
    let a = count_by-le-length (λ (l : Location). l.leaf == r) c.locations in
    let b = count_by-le-length (λ (rl : RuleLocation). rl.leaf == r) c.rule_locations in
    omega (arith, a, b, limits.rules)
