-- What a decision chooses is better than what it doesn't choose.
use Rattle.std.proofs.Common.{◌≡◌, ◌==◌, ◌&&◌, ◌||◌, nat_lt, int_lt, ℕ, inl, inr, true, false, List, count_by, length}
use Rattle.std.specs.List.{range_with_len}
use Rattle.std.specs.Ordering.{int_eq}
use Rattle.std.proofs.lemmas.Bool.{eqb-true, ltb-true, or_cases}
use Rattle.std.proofs.lemmas.Bool.Decides.{Decides-int_eq}
use Rattle.lemmas.proofs.Booleans.{later, sooner}
use Rattle.cluster_types.specs.declared.cluster.Cluster.{Cluster}
use Rattle.cluster_types.specs.declared.journal.Event.{Event}
use Rattle.cluster_types.specs.declared.journal.Promotion.{Promotion}
use Rattle.cluster_types.specs.declared.placement.Decision.{Decision}
use Rattle.cluster_types.specs.Choice.{cap_of, is_candidate, is_chosen, is_better, total_on}
use Rattle.cluster_types.specs.Tables.{Targets, load_of}
use Rattle.decision_account.specs.BetterNodes.{IsBetter, by_load, by_place, by_total}
use Rattle.decision_account.proofs.TrueVerdicts.{goes_before}

module _ (c : Cluster) (es : List Event) (ps : List Promotion) (table : Targets) (d : Decision) where
  -- who goes before another is better
  before_better : (n m : ℕ) → is_better c es ps table d n m ≡ true → IsBetter c es ps table d n m
  before_better n m h = elim (or_cases (int_lt (total_on c es ps table d m) (total_on c es ps table d n)) _ h) [
    | inl greater ↦ by_total greater
    | inr behind ↦
        let equal : total_on c es ps table d n ≡ total_on c es ps table d m = (Decides-int_eq _ _).0 (sooner (int_eq (total_on c es ps table d n) (total_on c es ps table d m)) _ behind) in
        elim (or_cases (nat_lt (load_of c table n) (load_of c table m)) _ (later (int_eq (total_on c es ps table d n) (total_on c es ps table d m)) _ behind)) [
          | inl fewer ↦ by_load equal (ltb-true _ _ fewer)
          | inr rest ↦ by_place equal (eqb-true _ _ (sooner (load_of c table n == load_of c table m) (nat_lt n m) rest))
              (ltb-true n m (later (load_of c table n == load_of c table m) (nat_lt n m) rest))
        ]
  ]

  pub best_chosen : (n m : ℕ) → is_chosen c es ps table d n ≡ true → is_candidate c es ps table d m ≡ true → is_chosen c es ps table d m ≡ false
      → IsBetter c es ps table d n m
  best_chosen n m is fit unpicked = before_better n m (goes_before c es ps table d m n fit unpicked is)

  pub chosen_fits : (n : ℕ) → is_chosen c es ps table d n ≡ true → is_candidate c es ps table d n ≡ true
  chosen_fits n is =
      sooner (is_candidate c es ps table d n)
      (nat_lt (count_by (λ m. is_candidate c es ps table d m && is_better c es ps table d m n) (range_with_len 0 (length c.nodes))) (cap_of c es d)) is
