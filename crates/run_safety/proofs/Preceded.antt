-- In a calm transition what has succeeded had begun, and what has begun is preceded by successes.
use Rattle.std.proofs.Common.{◌≡◌, ◌<◌, ◌≤◌, ◌==◌, ℕ, Bool, true, List, [], ◌∷◌, ◌++◌, length, eqb-true, sym, subst, ◌∙◌}
use Rattle.std.specs.List.{list_any}
use Rattle.std.proofs.lemmas.Bool.{not-true, or_left}
use Rattle.std.proofs.lemmas.List.Folds.{list_any-append}
use Rattle.lemmas.proofs.Booleans.{either, later, sooner}
use Rattle.lemmas.proofs.Searches.{any-more, any-weaker}
use Rattle.cluster_types.specs.declared.cluster.Cluster.{Cluster}
use Rattle.cluster_types.specs.declared.journal.Event.{Event}
use Rattle.cluster_types.specs.declared.journal.Event.TheVariants.{Wait, Begin, Ended}
use Rattle.cluster_types.specs.Journals.{ends_number}
use Rattle.cluster_types.specs.Steps.{Transition, begins_number, has_begun, has_number_ended, has_succeeded, is_number_in_flight, succeeds_number}
use Rattle.cluster_types.proofs.StepLaws.{has_preceded}
use Rattle.run_safety.proofs.Calm.{Calm, none, begun, done, waited}
use Rattle.run_safety.proofs.Truths.{refuse}

any_first : (p : Event → Bool) (xs ys : List Event) → list_any p xs ≡ true → list_any p (xs ++ ys) ≡ true
any_first p xs ys h = list_any-append p xs ys ∙ or_left _ _ h

pub any_split : {R : Type 0} (p : Event → Bool) (xs : List Event) (e : Event) → list_any p (xs ++ e ∷ []) ≡ true → (list_any p xs ≡ true → R) → (p e ≡ true → R) → R
any_split p xs e h f g = either (list_any p xs) (p e) (sym (any-more p xs e) ∙ h) f g

-- what succeeds, ends
pub success_ends : (c : Cluster) (k : ℕ) (e : Event) → succeeds_number c k e ≡ true → ends_number k e ≡ true
success_ends c k (Ended j a o m) h = sooner (j == k) _ h
success_ends c k _ h = cc

module _ (t : Transition) where
  pub succeeded_ended : (since : List Event) (k : ℕ) → has_succeeded t since k ≡ true → has_number_ended t since k ≡ true
  succeeded_ended since k h = any-weaker (succeeds_number t.cluster k) (ends_number k) since (success_ends t.cluster k) h

  pub succeeded_begun : (since : List Event) (k : ℕ) → Calm t since → has_succeeded t since k ≡ true → has_begun t since k ≡ true
  succeeded_begun _ k none h = cc
  succeeded_begun _ k (begun since j a calm begins) h =
      any_split (succeeds_number t.cluster k) since (Begin j a) h (λ g. any_first (begins_number k) since _ (succeeded_begun since k calm g)) (λ g. cc)
  succeeded_begun _ k (done since j m a o calm is flies ok) h =
      any_split (succeeds_number t.cluster k) since (Ended j a o m) h (λ g. any_first (begins_number k) since _ (succeeded_begun since k calm g))
      (λ g. let same = eqb-true j k (sooner (j == k) _ g) in
      any_first (begins_number k) since _ (subst (λ z. has_begun t since z ≡ true) same (sooner (has_begun t since j) _ flies)))
  succeeded_begun _ k (waited since s calm) h =
      any_split (succeeds_number t.cluster k) since (Wait s) h (λ g. any_first (begins_number k) since _ (succeeded_begun since k calm g)) (λ g. cc)

  -- what has begun is preceded by successes
  pub preceded : (since : List Event) (k j : ℕ) → Calm t since → has_begun t since k ≡ true → 0 < j → j ≤ length t.actions → t.precedes j k ≡ true
      → has_succeeded t since j ≡ true
  preceded _ k j none h low high before = cc
  preceded _ k j (begun since i a calm begins) h low high before =
      any_split (begins_number k) since (Begin i a) h (λ g. any_first (succeeds_number t.cluster j) since _ (preceded since k j calm g low high before))
      (λ g. let same = eqb-true i k g in
      any_first (succeeds_number t.cluster j) since _ (has_preceded t since i begins.allowed j low high (subst (λ z. t.precedes j z ≡ true) (sym same) before)))
  preceded _ k j (done since i m a o calm is flies ok) h low high before =
      any_split (begins_number k) since (Ended i a o m) h (λ g. any_first (succeeds_number t.cluster j) since _ (preceded since k j calm g low high before)) (λ g. cc)
  preceded _ k j (waited since s calm) h low high before =
      any_split (begins_number k) since (Wait s) h (λ g. any_first (succeeds_number t.cluster j) since _ (preceded since k j calm g low high before)) (λ g. cc)

  pub in_flight_not_done : (since : List Event) (k : ℕ) → is_number_in_flight t since k ≡ true → has_succeeded t since k ≡ true → {R : Type 0} → R
  in_flight_not_done since k flies h = refuse (has_number_ended t since k) (not-true _ (later (has_begun t since k) _ flies)) (succeeded_ended since k h)
