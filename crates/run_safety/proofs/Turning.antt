-- Latches: what single events of a calm transition turn or keep. What an action turns stays turned, when each action that could turn it back has
-- succeeded before it; and what no action that has begun turns stays as it was.
use Rattle.std.proofs.Common.{inl, inr, ◌⊎◌, ◌≡◌, ◌<◌, ◌≤◌, ◌==◌, ℕ, Bool, true, false, List, [], ◌∷◌, ◌++◌, length, append-nil, eqb-true, refl, sym, subst, ◌∙◌}
use Rattle.std.specs.Prelude.{Some}
use Rattle.std.specs.List.{list_any}
use Rattle.std.proofs.lemmas.Bool.{both_ways, or_parts, or_right}
use Rattle.std.proofs.lemmas.List.{append_assoc}
use Rattle.std.proofs.lemmas.List.Folds.{list_any-append}
use Rattle.lemmas.proofs.Booleans.{sooner, number_itself}
use Rattle.cluster_types.specs.declared.journal.Action.{Action}
use Rattle.cluster_types.specs.declared.journal.Event.{Event}
use Rattle.cluster_types.specs.declared.journal.Event.TheVariants.{Wait, Begin, Ended}
use Rattle.cluster_types.specs.declared.journal.Outcome.{Outcome}
use Rattle.cluster_types.specs.Steps.{Transition, action_at, begins_number, has_begun, has_succeeded, is_success, journal, succeeds_number}
use Rattle.cluster_types.proofs.StepLaws.{not_begun}
use Rattle.run_safety.proofs.Calm.{Calm, none, begun, done, waited}
use Rattle.run_safety.proofs.InFlight.{number_within}
use Rattle.run_safety.proofs.Preceded.{any_split, in_flight_not_done, preceded, succeeded_begun}
use Rattle.run_safety.proofs.Truths.{refuse}

module _ (t : Transition) where
  same_action : (k j : ℕ) (a b : Action) → action_at t k ≡ Some a → action_at t j ≡ Some b → k ≡ j → a ≡ b
  same_action k j a b is ib same = let g : action_at t j ≡ Some a = subst (λ z. action_at t z ≡ Some a) same is in cc

  -- An action turns something by its success, and each other that could turn it back has succeeded before it begins: once it has succeeded, it is turned.
  module _ (P : List Event → Type 0) (k : ℕ) (x : Action) (is : action_at t k ≡ Some x) (Ahead : ℕ → Type 0)
      (ahead : (j : ℕ) → Ahead j → (since : List Event) → Calm t since → has_begun t since k ≡ true → has_succeeded t since j ≡ true)
      (turns : (es : List Event) (o : Outcome) (m : ℕ) → is_success t.cluster x o ≡ true → P (es ++ Ended k x o m ∷ []))
      (as_begun : (es : List Event) (j : ℕ) (y : Action) → action_at t j ≡ Some y → P es → Ahead j ⊎ P (es ++ Begin j y ∷ []))
      (as_done : (es : List Event) (j m : ℕ) (y : Action) (o : Outcome) → action_at t j ≡ Some y → is_success t.cluster y o ≡ true → P es
      → Ahead j ⊎ P (es ++ Ended j y o m ∷ []))
      (as_waited : (es : List Event) (s : ℕ) → P es → P (es ++ Wait s ∷ [])) where
    onward : (since : List Event) (e : Event) → P (journal t since ++ e ∷ []) → P (journal t (since ++ e ∷ []))
    onward since e p = subst P (append_assoc t.planned_at since (e ∷ [])) p

    -- the other one has succeeded long since
    long_since : (since : List Event) (j : ℕ) → Calm t since → Ahead j → has_succeeded t since k ≡ true → has_succeeded t since j ≡ true
    long_since since j calm before h = ahead j before since calm (succeeded_begun t since k calm h)

    pub turned_when : (since : List Event) → Calm t since → has_succeeded t since k ≡ true → P (journal t since)
    turned_when _ none h = absurd (let f : ⊥ = cc in f)
    turned_when _ (begun since j y calm begins) h =
        any_split (succeeds_number t.cluster k) since (Begin j y) h (λ g. onward since (Begin j y) (by g (as_begun (journal t since) j y begins.action (turned_when since calm g)))) (λ g. absurd (let f : ⊥ = cc in f))
      where
        by : has_succeeded t since k ≡ true → Ahead j ⊎ P (journal t since ++ Begin j y ∷ []) → P (journal t since ++ Begin j y ∷ [])
        by g (inl before) =
            refuse (has_begun t since j) (not_begun t since j begins.allowed) (succeeded_begun t since j calm (long_since since j calm before g))
        by g (inr p) = p
    turned_when _ (done since j m y o calm is_y flies ok) h =
        any_split (succeeds_number t.cluster k) since (Ended j y o m) h (λ g. onward since (Ended j y o m) (by g (as_done (journal t since) j m y o is_y ok (turned_when since calm g))))
        (λ g. let same = eqb-true j k (sooner (j == k) _ g) in
        let one = same_action j k y x is_y is same in
        onward since (Ended j y o m)
        (subst (λ z. P (journal t since ++ Ended z y o m ∷ [])) (sym same) (subst (λ z. P (journal t since ++ Ended k z o m ∷ [])) (sym one)
        (turns (journal t since) o m (subst (λ z. is_success t.cluster z o ≡ true) one ok)))))
      where
        by : has_succeeded t since k ≡ true → Ahead j ⊎ P (journal t since ++ Ended j y o m ∷ []) → P (journal t since ++ Ended j y o m ∷ [])
        by g (inl before) = in_flight_not_done t since j flies (long_since since j calm before g)
        by g (inr p) = p
    turned_when _ (waited since s calm) h =
        any_split (succeeds_number t.cluster k) since (Wait s) h (λ g. onward since (Wait s) (as_waited (journal t since) s (turned_when since calm g))) (λ g. absurd (let f : ⊥ = cc in f))

  -- the same where each of the others precedes it
  module _ (P : List Event → Type 0) (k : ℕ) (x : Action) (is : action_at t k ≡ Some x)
      (turns : (es : List Event) (o : Outcome) (m : ℕ) → is_success t.cluster x o ≡ true → P (es ++ Ended k x o m ∷ []))
      (as_begun : (es : List Event) (j : ℕ) (y : Action) → action_at t j ≡ Some y → P es → (t.precedes j k ≡ true) ⊎ P (es ++ Begin j y ∷ []))
      (as_done : (es : List Event) (j m : ℕ) (y : Action) (o : Outcome) → action_at t j ≡ Some y → is_success t.cluster y o ≡ true → P es
      → (t.precedes j k ≡ true) ⊎ P (es ++ Ended j y o m ∷ []))
      (as_waited : (es : List Event) (s : ℕ) → P es → P (es ++ Wait s ∷ [])) where
    abbrev Precedes : ℕ → Type 0
    Precedes j = (0 < j) × (j ≤ length t.actions) × (t.precedes j k ≡ true)

    numbered_too : {R : Type 0} (j : ℕ) (y : Action) → action_at t j ≡ Some y → (t.precedes j k ≡ true) ⊎ R → Precedes j ⊎ R
    numbered_too j y is_y (inl before) = let within = number_within t.actions j y is_y in inl (within.0, within.1, before)
    numbered_too j y is_y (inr p) = inr p

    pub turned : (since : List Event) → Calm t since → has_succeeded t since k ≡ true → P (journal t since)
    turned =
        turned_when P k x is Precedes (λ j before since calm h. preceded t since k j calm h before.0 before.1 before.2) turns
        (λ es j y is_y p. numbered_too j y is_y (as_begun es j y is_y p)) (λ es j m y o is_y ok p. numbered_too j y is_y (as_done es j m y o is_y ok p)) as_waited

  -- what had not begun before one more event
  not_before : (since : List Event) (e : Event) (i : ℕ) → has_begun t (since ++ e ∷ []) i ≡ false → has_begun t since i ≡ false
  not_before since e i h = (or_parts (has_begun t since i) _ (rw (list_any-append (begins_number i) since (e ∷ [])) at h)).0

  -- What no action that has begun turns stays as it was.
  module _ (P : List Event → Type 0) (late : ℕ → Bool)
      (as_begun : (es : List Event) (j : ℕ) (y : Action) → action_at t j ≡ Some y → P es → (late j ≡ true) ⊎ P (es ++ Begin j y ∷ []))
      (as_done : (es : List Event) (j m : ℕ) (y : Action) (o : Outcome) → action_at t j ≡ Some y → is_success t.cluster y o ≡ true → P es
      → (late j ≡ true) ⊎ P (es ++ Ended j y o m ∷ []))
      (as_waited : (es : List Event) (s : ℕ) → P es → P (es ++ Wait s ∷ [])) where
    pub kept : (since : List Event) → Calm t since → ((j : ℕ) → late j ≡ true → has_begun t since j ≡ false) → P t.planned_at → P (journal t since)
    kept _ none h p = subst P (sym (append-nil t.planned_at)) p
    kept _ (begun since j y calm begins) h p =
        subst P (append_assoc t.planned_at since _)
        (by (as_begun (journal t since) j y begins.action (kept since calm (λ i l. not_before since (Begin j y) i (h i l)) p)))
      where
        by : (late j ≡ true) ⊎ P (journal t since ++ Begin j y ∷ []) → P (journal t since ++ Begin j y ∷ [])
        by (inl l) =
            refuse _ (h j l) (list_any-append (begins_number j) since (Begin j y ∷ []) ∙ or_right (has_begun t since j) (list_any (begins_number j) (Begin j y ∷ [])) (rw (number_itself j) refl))
        by (inr q) = q
    kept _ (done since j m y o calm is_y flies ok) h p =
        subst P (append_assoc t.planned_at since _)
        (by (as_done (journal t since) j m y o is_y ok (kept since calm (λ i l. not_before since (Ended j y o m) i (h i l)) p)))
      where
        by : (late j ≡ true) ⊎ P (journal t since ++ Ended j y o m ∷ []) → P (journal t since ++ Ended j y o m ∷ [])
        by (inl l) = refuse _ (not_before since (Ended j y o m) j (h j l)) (sooner (has_begun t since j) _ flies)
        by (inr q) = q
    kept _ (waited since s calm) h p =
        subst P (append_assoc t.planned_at since _) (as_waited (journal t since) s (kept since calm (λ i l. not_before since (Wait s) i (h i l)) p))

  -- What no action turns stays as it was.
  module _ (P : List Event → Type 0) (as_begun : (es : List Event) (j : ℕ) (y : Action) → action_at t j ≡ Some y → P es → P (es ++ Begin j y ∷ []))
      (as_done : (es : List Event) (j m : ℕ) (y : Action) (o : Outcome) → action_at t j ≡ Some y → is_success t.cluster y o ≡ true → P es → P (es ++ Ended j y o m ∷ []))
      (as_waited : (es : List Event) (s : ℕ) → P es → P (es ++ Wait s ∷ [])) where
    pub unturned : (since : List Event) → Calm t since → P t.planned_at → P (journal t since)
    unturned since calm p =
        kept P (λ j. false) (λ es j y is q. inr (as_begun es j y is q)) (λ es j m y o is ok q. inr (as_done es j m y o is ok q)) as_waited since calm
        (λ j late. absurd (both_ways false refl late)) p
