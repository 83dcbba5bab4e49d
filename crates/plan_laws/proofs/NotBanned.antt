-- A banned leaf is chosen nowhere: the ban is a term of its own, so its base is -INFINITY, and so is each total.
use Rattle.std.proofs.Common.{◌≡◌, ℕ, Bool, true, false, if◌then◌else◌, List, [], ◌∷◌, ◌++◌, refl, fold, Contains}
use Rattle.std.specs.Prelude.{ℤ, pos, int_le}
use Rattle.std.specs.Ordering.{int_eq}
use Rattle.std.proofs.lemmas.List.Elements.{Contains-append_left, Contains-append_right}
use Rattle.std.proofs.lemmas.Bool.{false_from_ne_true}
use Rattle.score.specs.Total.{has_points, minus_infinity, total_of}
use Rattle.lemmas.proofs.Searches.{passes_by}
use Rattle.lemmas.proofs.Members.{at_head, in_flat, in_if}
use Rattle.cluster_types.specs.declared.cluster.Cluster.{Cluster}
use Rattle.cluster_types.specs.declared.journal.Event.{Event}
use Rattle.cluster_types.specs.declared.journal.Promotion.{Promotion}
use Rattle.cluster_types.specs.declared.placement.Decision.TheVariants.{Place}
use Rattle.cluster_types.specs.Choice.{preference, total_on}
use Rattle.cluster_types.specs.Failures.{is_banned}
use Rattle.cluster_types.specs.Tables.{Targets}
use Rattle.cluster_types.specs.Terms.{ban_scores, base, is_started, has_node_left, lenders, location_scores, opt_in_scores, own_terms, stickiness_scores, terms_of, with_lender, with_lenders}
use Rattle.plan_laws.proofs.MadeOnes.{never_both}

total_of_minus : (terms : List ℤ) → has_points minus_infinity terms ≡ true → total_of terms ≡ minus_infinity
total_of_minus terms h = rw h refl

first_is_minus : (x : ℤ) (rest : List ℤ) → x ≡ minus_infinity → total_of (x ∷ rest) ≡ minus_infinity
first_is_minus x rest e = rw e refl

negative : (x : ℤ) → x ≡ minus_infinity → int_le (pos 0) x ≡ false
negative x e = rw e refl

minus_in : (terms : List ℤ) → Contains terms minus_infinity → has_points minus_infinity terms ≡ true
minus_in terms h = passes_by (λ term. int_eq term minus_infinity) terms minus_infinity h refl

module _ (c : Cluster) (es : List Event) where
  -- the ban is a term of the leaf's own
  ban_among_own : (r n : ℕ) → is_banned c r n es ≡ true → Contains (own_terms c es r n) minus_infinity
  ban_among_own r n h =
      Contains-append_left (location_scores c es is_started r n ++ stickiness_scores c es r n ++ ban_scores c es r n) (opt_in_scores c es r n) minus_infinity
      (Contains-append_right (location_scores c es is_started r n ++ stickiness_scores c es r n) (ban_scores c es r n) minus_infinity
      (in_if (is_banned c r n es) minus_infinity h))

  -- who joined stays
  joins_on : (joined : List ℕ) (s r : ℕ) (b : Bool) → Contains joined r → Contains (if b then joined ++ s ∷ [] else joined) r
  joins_on joined s r true h = Contains-append_left joined (s ∷ []) r h
  joins_on joined s r false h = h

  still_joined : (joined ss : List ℕ) (r : ℕ) → Contains joined r → Contains (fold (with_lender c es) joined ss) r
  still_joined joined [] r h = h
  still_joined joined (s ∷ ss) r h = still_joined (with_lender c es joined s) ss r (joins_on joined s r (has_node_left c es (joined ++ s ∷ [])) h)

  -- a leaf is the first that joins itself
  pub joins_itself : (r : ℕ) → Contains (with_lenders c es r) r
  joins_itself r = still_joined (r ∷ []) (lenders c r) r (at_head r [] r refl)

  banned_base : (ps : List Promotion) (r n : ℕ) → is_banned c r n es ≡ true → base c es ps (Place r) n ≡ minus_infinity
  banned_base ps r n h =
      total_of_minus (terms_of c es (with_lenders c es r) n)
      (minus_in (terms_of c es (with_lenders c es r) n)
      (in_flat (λ r. own_terms c es r n) (with_lenders c es r) r minus_infinity (joins_itself r) (ban_among_own r n h)))

  pub banned_total : (ps : List Promotion) (table : Targets) (r n : ℕ) → is_banned c r n es ≡ true → total_on c es ps table (Place r) n ≡ minus_infinity
  banned_total ps table r n h = first_is_minus (base c es ps (Place r) n) (preference c table (Place r) n ∷ []) (banned_base ps r n h)

  pub not_banned : (ps : List Promotion) (table : Targets) (r n : ℕ) → int_le (pos 0) (total_on c es ps table (Place r) n) ≡ true → is_banned c r n es ≡ false
  not_banned ps table r n h =
      false_from_ne_true (is_banned c r n es) (λ banned.
      never_both (int_le (pos 0) (total_on c es ps table (Place r) n)) h
      (negative (total_on c es ps table (Place r) n) (banned_total ps table r n banned)))
