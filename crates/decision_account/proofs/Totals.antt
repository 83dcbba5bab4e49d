-- The parts of a node add up to its total: their scores are the terms of the total, and a term of 0 changes none.
use Rattle.std.proofs.Common.{arith, ◌≡◌, ℕ, ◌==◌, ◌&&◌, ◌||◌, ℤ, pos, Bool, true, false, not, cond, Option, None, List, [], ◌∷◌, ◌++◌, map, filter, fold, refl, ap, ◌∙◌}
use Rattle.std.specs.Prelude.{◌+ℤ◌}
use Rattle.std.specs.List.{flat_map}
use Rattle.std.specs.Ordering.{int_eq}
use Rattle.std.proofs.lemmas.Int.{ints}
use Rattle.std.proofs.lemmas.List.{map-append}
use Rattle.score.specs.Total.{has_points, infinity, minus_infinity, total_of}
use Rattle.cluster_types.specs.declared.cluster.Cluster.{Cluster}
use Rattle.cluster_types.specs.declared.journal.Event.{Event}
use Rattle.cluster_types.specs.declared.journal.Promotion.{Promotion}
use Rattle.cluster_types.specs.declared.leaf.Role.{Role}
use Rattle.cluster_types.specs.declared.placement.Decision.{Decision}
use Rattle.cluster_types.specs.declared.placement.Decision.TheVariants.{Place, Promote}
use Rattle.cluster_types.specs.declared.rules.Colocation.{Colocation}
use Rattle.cluster_types.specs.declared.rules.Location.{Location}
use Rattle.cluster_types.specs.declared.rules.RuleLocation.{RuleLocation}
use Rattle.cluster_types.specs.Choice.{is_dependent, is_finite_colocation, preference, total_on}
use Rattle.cluster_types.specs.Tables.{Targets, holds_role}
use Rattle.cluster_types.specs.Terms.{ban_scores, base, is_promoted, is_started, location_scores, opt_in_scores, own_terms, promotion_score, rule_holds, stickiness_scores, terms_of, with_lenders}
use Rattle.decision_account.specs.Parts.{Origin, ScorePart, base_parts, from_ban, from_colocation, from_location, from_opt_in, from_stickiness, lender_of, location_parts, own_parts, part_of, part_scores, preference_parts, without_zeros}

-- parts that are made one by one have the scores that are made so
scores_made : {X : Type 0} (f : X → ScorePart) (g : X → ℤ) → ((x : X) → (f x).score ≡ g x) → (xs : List X) → part_scores (map f xs) ≡ map g xs
scores_made f g same [] = refl
scores_made f g same (x ∷ xs) = rw (same x, scores_made f g same xs) refl

scores_kept : (lender : Option ℕ) (origin : Origin) (scores : List ℤ) → part_scores (map (part_of lender origin) scores) ≡ scores
scores_kept lender origin [] = refl
scores_kept lender origin (x ∷ xs) = ap (λ (ys : List ℤ). x ∷ ys) (scores_kept lender origin xs)

scores-append : (xs ys : List ScorePart) → part_scores (xs ++ ys) ≡ part_scores xs ++ part_scores ys
scores-append xs ys = map-append (λ (part : ScorePart). part.score) xs ys

module _ (c : Cluster) (es : List Event) (lender : Option ℕ) (r n : ℕ) where
  located : (passes : Role → Bool) → part_scores (location_parts c es lender passes r n) ≡ location_scores c es passes r n
  located passes =
      let plain = filter (λ (l : Location). l.leaf == r && l.node == n && passes l.role) c.locations in
      let ruled = filter (λ (rl : RuleLocation). rl.leaf == r && passes rl.role && rule_holds c es rl n) c.rule_locations in
      let one = scores_made (λ (l : Location). part_of lender (from_location l.id) l.score) (λ l. l.score) (λ l. refl) plain in
      let other = scores_made (λ (rl : RuleLocation). part_of lender (from_location rl.id) rl.score) (λ rl. rl.score) (λ rl. refl) ruled in
      scores-append (map (λ (l : Location). part_of lender (from_location l.id) l.score) plain)
      (map (λ (rl : RuleLocation). part_of lender (from_location rl.id) rl.score) ruled)
      ∙ rw (one, other) refl

  pub own_scores : part_scores (own_parts c es lender r n) ≡ own_terms c es r n
  own_scores =
      let first = location_parts c es lender is_started r n in
      let sticky = map (part_of lender from_stickiness) (stickiness_scores c es r n) in
      let banned = map (part_of lender from_ban) (ban_scores c es r n) in
      let closed = map (part_of lender from_opt_in) (opt_in_scores c es r n) in
      scores-append (first ++ sticky ++ banned) closed
      ∙ ap (λ (xs : List ℤ). xs ++ part_scores closed) (scores-append (first ++ sticky) banned)
      ∙ ap (λ (xs : List ℤ). xs ++ part_scores banned ++ part_scores closed) (scores-append first sticky)
      ∙ rw (located is_started, scores_kept lender from_stickiness (stickiness_scores c es r n), scores_kept lender from_ban (ban_scores c es r n), scores_kept lender from_opt_in (opt_in_scores c es r n)) refl

module _ (c : Cluster) (es : List Event) where
  lent_scores : (r n : ℕ) (leaves : List ℕ) → part_scores (flat_map (λ s. own_parts c es (lender_of r s) s n) leaves) ≡ terms_of c es leaves n
  lent_scores r n [] = refl
  lent_scores r n (s ∷ ss) =
      scores-append (own_parts c es (lender_of r s) s n) (flat_map (λ s. own_parts c es (lender_of r s) s n) ss)
      ∙ rw (own_scores c es (lender_of r s) s n, lent_scores r n ss) refl

  base_total : (ps : List Promotion) (d : Decision) (n : ℕ) → total_of (part_scores (base_parts c es ps d n)) ≡ base c es ps d n
  base_total ps (Place r) n = ap total_of (lent_scores r n (with_lenders c es r))
  base_total ps (Promote r) n = ap (λ (xs : List ℤ). total_of (promotion_score ps r n ∷ xs)) (located c es None r n is_promoted)

preference_total : (c : Cluster) (table : Targets) (d : Decision) (n : ℕ) → total_of (part_scores (preference_parts c table d n)) ≡ preference c table d n
preference_total c table d n =
    ap total_of (scores_made (λ (col : Colocation). part_of None (from_colocation col.id) col.score) (λ col. col.score) (λ col. refl)
    (filter (λ col. is_finite_colocation col && is_dependent d col && holds_role table col.primary col.primary_role n) c.colocations))

-- a part of 0 changes no total

zero_is_other : (p z : ℤ) → int_eq (pos 0) p ≡ false → int_eq z (pos 0) ≡ true → int_eq z p ≡ false
zero_is_other p z other is = grind (arith, ints)

points_kept : (p : ℤ) → int_eq (pos 0) p ≡ false → (parts : List ScorePart) → has_points p (part_scores (without_zeros parts)) ≡ has_points p (part_scores parts)
points_kept p other [] = refl
points_kept p other (part ∷ parts) = go (int_eq part.score (pos 0)) refl (points_kept p other parts)
  where
    go : (b : Bool) → int_eq part.score (pos 0) ≡ b → has_points p (part_scores (without_zeros parts)) ≡ has_points p (part_scores parts)
        → has_points p (part_scores (cond (not b) (part ∷ without_zeros parts) (without_zeros parts))) ≡ (int_eq part.score p || has_points p (part_scores parts))
    go true is rest = let e = zero_is_other p part.score other is in rw e rest
    go false is rest = ap (λ (b : Bool). int_eq part.score p || b) rest

zero_adds_none : (sum z : ℤ) → int_eq z (pos 0) ≡ true → sum +ℤ z ≡ sum
zero_adds_none sum z is = grind (arith, ints)

sum_kept : (sum : ℤ) (parts : List ScorePart)
    → fold (λ sum term. sum +ℤ term) sum (part_scores (without_zeros parts)) ≡ fold (λ sum term. sum +ℤ term) sum (part_scores parts)
sum_kept sum [] = refl
sum_kept sum (part ∷ parts) = go (int_eq part.score (pos 0)) refl (λ s. sum_kept s parts)
  where
    go : (b : Bool) → int_eq part.score (pos 0) ≡ b
        → ((s : ℤ) → fold (λ sum term. sum +ℤ term) s (part_scores (without_zeros parts)) ≡ fold (λ sum term. sum +ℤ term) s (part_scores parts))
        → fold (λ sum term. sum +ℤ term) sum (part_scores (cond (not b) (part ∷ without_zeros parts) (without_zeros parts)))
        ≡ fold (λ sum term. sum +ℤ term) (sum +ℤ part.score) (part_scores parts)
    go true is rest = let e = zero_adds_none sum part.score is in rw e (rest sum)
    go false is rest = rest (sum +ℤ part.score)

pub total_kept : (parts : List ScorePart) → total_of (part_scores (without_zeros parts)) ≡ total_of (part_scores parts)
total_kept parts = rw (points_kept minus_infinity refl parts, points_kept infinity refl parts, sum_kept (pos 0) parts) refl

pub parts_add_up : (c : Cluster) (es : List Event) (ps : List Promotion) (table : Targets) (d : Decision) (n : ℕ)
    → total_on c es ps table d n
    ≡ total_of (total_of (part_scores (without_zeros (base_parts c es ps d n))) ∷ total_of (part_scores (without_zeros (preference_parts c table d n))) ∷ [])
parts_add_up c es ps table d n =
    let one = total_kept (base_parts c es ps d n) ∙ base_total c es ps d n in
    let other = total_kept (preference_parts c table d n) ∙ preference_total c table d n in
    rw (one, other) refl
