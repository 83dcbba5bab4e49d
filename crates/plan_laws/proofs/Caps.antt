-- In the table after all decisions a leaf that isn't pinned holds a role on no more nodes than the cap of its decision.
use Rattle.std.proofs.Common.{arith, ◌≡◌, ◌<◌, ◌≤◌, ◌+◌, ℕ, suc, zero, Bool, true, false, List, [], length, count_by, inl, inr, refl}
use Rattle.std.specs.List.{range_with_len}
use Rattle.lemmas.proofs.Counts.{count_more_on}
use Rattle.cluster_types.specs.declared.cluster.Cluster.{Cluster}
use Rattle.cluster_types.specs.declared.journal.Event.{Event}
use Rattle.cluster_types.specs.declared.journal.Promotion.{Promotion}
use Rattle.cluster_types.specs.declared.leaf.Role.{Role}
use Rattle.cluster_types.specs.declared.placement.Decision.{Decision}
use Rattle.cluster_types.specs.Choice.{after_decisions, cap_of, is_chosen}
use Rattle.cluster_types.specs.Decisions.{Decides, decision_of}
use Rattle.cluster_types.specs.Pins.{is_pinned, pinned_targets}
use Rattle.cluster_types.specs.Tables.{Targets, holds_role}
use Rattle.plan_laws.proofs.ChosenOnce.{OneTable, chosen_once}
use Rattle.plan_laws.proofs.FewChosen.{few_chosen}
use Rattle.plan_laws.proofs.Following.{follow_of}
use Rattle.plan_laws.proofs.StayHeld.{free_of_pins}

-- a test that passes wherever another does among some numbers counts no fewer of them
module _ (p q : ℕ → Bool) where
  pub count_within : (from n : ℕ) → ((x : ℕ) → from ≤ x → x < from + n → p x ≡ true → q x ≡ true) → count_by p (range_with_len from n) ≤ count_by q (range_with_len from n)
  count_within from zero more = omega arith
  count_within from (suc n) more =
      count_more_on p q from (range_with_len (from + 1) n) (p from) (q from) refl refl (more from (omega arith) (omega arith))
      (count_within (from + 1) n (λ x ge lt. more x (omega arith) (omega arith)))

module _ (c : Cluster) (es : List Event) (ps : List Promotion) (ds : List Decision) (in_order : Decides c es ps [] ds) where
  abbrev pub final : Targets
  final = after_decisions c es ps (pinned_targets c es) ds

  module _ (r : ℕ) (given : Role) (free : is_pinned c es r ≡ false) where
    pub one_table : OneTable c es ps r given (pinned_targets c es) final
    one_table = chosen_once c es ps r given [] ds (pinned_targets c es) (follow_of c es ps ds (pinned_targets c es) in_order) refl

    pub all_chosen : (n : ℕ) → holds_role final r given n ≡ true → is_chosen c es ps one_table.at (decision_of r given) n ≡ true
    all_chosen n h = elim (one_table.chosen n h) [
      | inl was ↦ absurd (free_of_pins c es r n given free was)
      | inr chosen ↦ chosen
    ]

    pub within_cap : (targets : Targets) → ((n : ℕ) → n < length c.nodes → holds_role targets r given n ≡ true → holds_role final r given n ≡ true)
        → count_by (λ n. holds_role targets r given n) (range_with_len 0 (length c.nodes)) ≤ cap_of c es (decision_of r given)
    within_cap targets kept =
        let few = few_chosen c es ps one_table.at (decision_of r given) in
        let fewer = count_within (λ n. holds_role targets r given n) (is_chosen c es ps one_table.at (decision_of r given)) 0 (length c.nodes)
        (λ n ge lt h. all_chosen n (kept n (omega arith) h)) in
        omega arith
