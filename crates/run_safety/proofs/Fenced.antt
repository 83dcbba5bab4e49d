-- Where all have succeeded, each has once, and each node that was to be fenced is offline.
use Rattle.std.proofs.Common.{arith, inr, ◌≡◌, ◌<◌, ◌≤◌, ◌+◌, ◌==◌, ◌&&◌, ◌||◌, ℕ, Bool, true, false, List, [], ◌∷◌, ◌++◌, length, eqb-true, refl, sym, subst, ◌∙◌}
use Rattle.std.specs.Prelude.{Some, count_by}
use Rattle.std.specs.List.{list_any}
use Rattle.std.proofs.lemmas.Bool.{false_from_ne_true}
use Rattle.lemmas.proofs.Booleans.{first_passes, sooner, number_itself}
use Rattle.lemmas.proofs.Counts.{count-append, count-is, count-none}
use Rattle.cluster_types.specs.declared.journal.Action.{Action}
use Rattle.cluster_types.specs.declared.journal.Action.TheVariants.{Fence, Probe, Operation, MigrateTo, MigrateFrom}
use Rattle.cluster_types.specs.declared.journal.Event.{Event}
use Rattle.cluster_types.specs.declared.journal.Event.TheVariants.{Wait, Begin, Ended}
use Rattle.cluster_types.specs.declared.journal.Outcome.{Outcome}
use Rattle.cluster_types.specs.declared.states.NodeState.TheVariants as node
use Rattle.cluster_types.specs.Journals.{was_fenced, last_sign}
use Rattle.cluster_types.specs.NodeStates.{node_state}
use Rattle.cluster_types.specs.Outcomes.{is_code_among}
use Rattle.cluster_types.specs.Rights.{is_to_be_fenced}
use Rattle.cluster_types.specs.Steps.{Transition, has_succeeded, journal, succeeds_number}
use Rattle.cluster_types.specs.Tables.{Targets}
use Rattle.cluster_types.proofs.LastSigns.{signed}
use Rattle.run_safety.proofs.Calm.{Calm, none, begun, done, waited}
use Rattle.run_safety.proofs.Carried.{HasNumber, Carries}
use Rattle.run_safety.proofs.Each.{more, none as no_more}
use Rattle.run_safety.proofs.Needing.{Done, fence_needed}
use Rattle.run_safety.proofs.Preceded.{in_flight_not_done}
use Rattle.run_safety.proofs.Signs.{still}
use Rattle.run_safety.proofs.Turning.{turned}

pub counted : (p : Event → Bool) (xs : List Event) → list_any p xs ≡ true → 0 < count_by p xs
counted p [] h = absurd (let f : ⊥ = cc in f)
counted p (x ∷ xs) h = by (p x) refl h (counted p xs)
  where
    by : (b : Bool) → p x ≡ b → b || list_any p xs ≡ true → (list_any p xs ≡ true → 0 < count_by p xs) → 0 < count_by p (x ∷ xs)
    by true e h rest = let c : count_by p (x ∷ xs) ≡ 1 + count_by p xs = count-is p x xs true e in omega (arith, c)
    by false e h rest =
        let c : count_by p (x ∷ xs) ≡ 0 + count_by p xs = count-is p x xs false e in
        let some = rest h in omega (arith, c, some)

module _ (t : Transition) where
  -- each succeeds once at most
  pub succeeds_once : (since : List Event) (k : ℕ) → Calm t since → count_by (succeeds_number t.cluster k) since ≤ 1
  succeeds_once _ k none = omega arith
  succeeds_once _ k (begun since j a calm begins) =
      let before = succeeds_once since k calm in
      let c = count-append (succeeds_number t.cluster k) since (Begin j a ∷ []) in omega (arith, before, c)
  succeeds_once _ k (waited since s calm) =
      let before = succeeds_once since k calm in
      let c = count-append (succeeds_number t.cluster k) since (Wait s ∷ []) in omega (arith, before, c)
  succeeds_once _ k (done since j m a o calm is flies ok) =
      by (succeeds_number t.cluster k (Ended j a o m)) refl (succeeds_once since k calm) (count-append (succeeds_number t.cluster k) since (Ended j a o m ∷ []))
    where
      by : (b : Bool) → succeeds_number t.cluster k (Ended j a o m) ≡ b → count_by (succeeds_number t.cluster k) since ≤ 1
          → count_by (succeeds_number t.cluster k) (since ++ Ended j a o m ∷ []) ≡ count_by (succeeds_number t.cluster k) since + count_by (succeeds_number t.cluster k) (Ended j a o m ∷ [])
          → count_by (succeeds_number t.cluster k) (since ++ Ended j a o m ∷ []) ≤ 1
      by false e before c =
          let one : count_by (succeeds_number t.cluster k) (Ended j a o m ∷ []) ≡ 0 + count_by (succeeds_number t.cluster k) [] = count-is (succeeds_number t.cluster k) (Ended j a o m) [] false e in
          omega (arith, before, c, one)
      by true e before c =
          let same = eqb-true j k (sooner (j == k) _ e) in
          let one : count_by (succeeds_number t.cluster k) (Ended j a o m ∷ []) ≡ 1 + count_by (succeeds_number t.cluster k) [] = count-is (succeeds_number t.cluster k) (Ended j a o m) [] true e in
          let fresh : has_succeeded t since k ≡ false =
          false_from_ne_true (has_succeeded t since k) (λ f. in_flight_not_done t since j flies (subst (λ z. has_succeeded t since z ≡ true) (sym same) f)) in
          let none_before = count-none (succeeds_number t.cluster k) since fresh in
          omega (arith, c, one, none_before)

module _ (t : Transition) (targets : Targets) (carries : Carries t targets) (since : List Event) (calm : Calm t since) (n : ℕ) where
  abbrev IsFenced : List Event → Type 0
  IsFenced es = last_sign n es ≡ Some was_fenced

  fence_shows : (es : List Event) (k m : ℕ) (y : Action) (o : Outcome) → IsFenced es → IsFenced (es ++ Ended k y o m ∷ [])
  fence_shows es k m (Fence node) o was = by (node == n && is_code_among (0 ∷ []) o) refl
    where
      by : (b : Bool) → (node == n && is_code_among (0 ∷ []) o) ≡ b → IsFenced (es ++ Ended k (Fence node) o m ∷ [])
      by true e = signed n es (Ended k (Fence node) o m) was_fenced (rw e refl)
      by false e = still n es (Ended k (Fence node) o m ∷ []) (more _ [] (rw e refl) no_more) ∙ was
  fence_shows es k m (Probe r node) o was = still n es _ (more _ [] refl no_more) ∙ was
  fence_shows es k m (Operation op r node i h) o was = still n es _ (more _ [] refl no_more) ∙ was
  fence_shows es k m (MigrateTo r from to) o was = still n es _ (more _ [] refl no_more) ∙ was
  fence_shows es k m (MigrateFrom r from to) o was = still n es _ (more _ [] refl no_more) ∙ was

  pub fenced_offline : n < length t.cluster.nodes → is_to_be_fenced t.cluster n t.planned_at ≡ true → Done t since (Fence n)
      → node_state t.cluster n (journal t since) ≡ node.Offline
  fenced_offline low due succeeded = rw is_fenced refl
    where
      number : HasNumber t (Fence n)
      number = carries.numbered (Fence n) (fence_needed t targets n low due)

      is_fenced : IsFenced (journal t since)
      is_fenced =
          turned t IsFenced number.number (Fence n) number.is
          (λ es o m ok. signed n es (Ended number.number (Fence n) o m) was_fenced (rw (number_itself n) (rw (first_passes (is_code_among (0 ∷ []) o) false ok refl) refl)))
          (λ es j y is was. inr (still n es (Begin j y ∷ []) (more _ [] refl no_more) ∙ was))
          (λ es j m y o is ok was. inr (fence_shows es j m y o was))
          (λ es s was. still n es (Wait s ∷ []) (more _ [] refl no_more) ∙ was) since calm (succeeded number)
