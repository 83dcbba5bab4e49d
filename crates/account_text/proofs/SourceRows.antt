-- What gives leaves their own terms, with one more.
use Rattle.std.proofs.Common.{◌≡◌, ◌==◌, ◌<◌, ◌+◌, inl, inr, ℕ, true, Some, List, [], ◌∷◌, ◌++◌, length, take, map, filter, slice_get, slice_index_or, Contains, refl, sym, ap, subst, ◌∙◌}
use Rattle.std.proofs.lemmas.List.{map-append, take_more}
use Rattle.std.proofs.lemmas.List.Elements.{Contains-append_cases, filter-append}
use Rattle.std.proofs.lemmas.Option.{slice_get_read}
use Rattle.cluster_types.specs.declared.cluster.Cluster.{Cluster}
use Rattle.cluster_types.specs.declared.rules.RuleLocation.{RuleLocation}
use Rattle.lemmas.proofs.Members.{head_or_rest, in_none}
use Rattle.placement.proofs.MoreRows.{places-more}
use Rattle.account_text.specs.declared.leaf_sources.LeafSources.{LeafSources}
use Rattle.account_text.specs.declared.leaf_sources.Ruled.{Ruled}
use Rattle.account_text.specs.Inner.Sources.{AreRuled, AreSources, HoldsAt, IsSourceOf}

module _ (c : Cluster) (moment : ℕ) where
  holds_more : (before : List Ruled) (x : Ruled) → ((y : Ruled) → Contains before y → HoldsAt c moment y) → HoldsAt c moment x
      → (y : Ruled) → Contains (before ++ x ∷ []) y → HoldsAt c moment y
  holds_more before x old new y there = elim (Contains-append_cases before (x ∷ []) y there) [
    | inl here ↦ old y here
    | inr last ↦ only last
  ]
    where
      only : Contains (x ∷ []) y → HoldsAt c moment y
      only h = elim (head_or_rest x [] y h) [
        | inl same ↦ subst (λ z. HoldsAt c moment z) same new
        | inr none ↦ absurd (in_none y none)
      ]

  pub ruled_more : (rules : List RuleLocation) (r i : ℕ) (rule : RuleLocation) (before after : List Ruled) (x : Ruled) → i < length rules
      → rule ≡ slice_index_or rules i rule → (rule.leaf == r) ≡ true → AreRuled c moment (take i rules) r before → after ≡ before ++ x ∷ []
      → x.rule.now ≡ rule → HoldsAt c moment x → AreRuled c moment (take (i + 1) rules) r after
  ruled_more rules r i rule before after x low at of_it old push is holds =
      let t : take (i + 1) rules ≡ take i rules ++ rule ∷ [] = rw (← at) at (take_more rules i rule low) in
      let one : filter (λ (rl : RuleLocation). rl.leaf == r) (rule ∷ []) ≡ rule ∷ [] = rw of_it refl in
      let all : filter (λ (rl : RuleLocation). rl.leaf == r) (take (i + 1) rules) ≡ filter (λ (rl : RuleLocation). rl.leaf == r) (take i rules) ++ rule ∷ []
      = ap (filter (λ (rl : RuleLocation). rl.leaf == r)) t ∙ filter-append (λ (rl : RuleLocation). rl.leaf == r) (take i rules) (rule ∷ [])
      ∙ ap (λ xs. filter (λ (rl : RuleLocation). rl.leaf == r) (take i rules) ++ xs) one in
      record {
        of_leaf = ap (map (λ (x : Ruled). x.rule.now)) push ∙ map-append (λ (x : Ruled). x.rule.now) before (x ∷ [])
            ∙ ap (λ xs. xs ++ x.rule.now ∷ []) old.of_leaf
            ∙ ap (λ (y : RuleLocation). filter (λ (rl : RuleLocation). rl.leaf == r) (take i rules) ++ y ∷ []) is ∙ sym all;
        hold = λ y there. holds_more before x old.hold holds y (subst (λ xs. Contains xs y) push there);
      }

  pub source_at : (all : List LeafSources) (r : ℕ) (x : LeafSources) → AreSources c moment all → r < length all → x ≡ slice_index_or all r x
      → IsSourceOf c moment r x
  source_at all r x are low at = are.each r x (slice_get_read all (length all) r x refl low at)

  pub each_source : (before all : List LeafSources) (x : LeafSources) (r : ℕ) → length before ≡ r → all ≡ before ++ x ∷ []
      → ((k : ℕ) (one : LeafSources) → slice_get before k ≡ Some one → IsSourceOf c moment k one) → IsSourceOf c moment r x
      → (k : ℕ) (one : LeafSources) → slice_get all k ≡ Some one → IsSourceOf c moment k one
  each_source before all x r size is old new k one at =
      places-more (λ k one. IsSourceOf c moment k one) before x old
      (subst (λ (m : ℕ). IsSourceOf c moment m x) (sym size) new) k one
      (subst (λ xs. slice_get xs k ≡ Some one) is at)
