-- Each step of a transition keeps its journal in order, also after an abort.
use Rattle.std.proofs.Common.{◌≡◌, ◌==◌, ◌&&◌, if◌then◌else◌, ℕ, Bool, true, false, List, [], ◌∷◌, ◌++◌, filter, eqb-true, append-nil, refl, sym, subst, ap, ◌∙◌}
use Rattle.std.specs.Prelude.{Some, None, map, cond}
use Rattle.std.specs.List.{list_any}
use Rattle.std.proofs.lemmas.Bool.{or_parts}
use Rattle.std.proofs.lemmas.List.{append_assoc}
use Rattle.std.proofs.lemmas.List.Folds.{list_any-append}
use Rattle.cluster_types.specs.declared.journal.Action.{Action}
use Rattle.cluster_types.specs.declared.journal.Action.TheVariants.{Fence, Probe, Operation, MigrateTo, MigrateFrom}
use Rattle.cluster_types.specs.declared.journal.Event.{Event}
use Rattle.cluster_types.specs.declared.journal.Event.TheVariants.{Up, Begin, Ended}
use Rattle.cluster_types.specs.declared.journal.Outcome.{Outcome}
use Rattle.cluster_types.specs.declared.journal.Outcome.TheVariants.{Gone}
use Rattle.cluster_types.specs.AnswersThatApply.{end_event}
use Rattle.cluster_types.specs.Journals.{joined, Orderly, is_on, last_sign, sign_of, needs_node, was_fenced}
use Rattle.cluster_types.specs.NodeStates.{is_online}
use Rattle.cluster_types.specs.Steps.{Transition, aborts, action_at, begins_number, in_flight_by_number, has_aborted, is_number_in_flight, journal}
use Rattle.cluster_types.proofs.StepLaws.{split}
use Rattle.cluster_types.proofs.EagerLaws.{at_only}
use Rattle.run_safety.proofs.Each.{Each, none, more}
use Rattle.run_safety.proofs.InFlight.{was_in_flight}
use Rattle.run_safety.proofs.Shapes.{Flies}
use Rattle.run_safety.proofs.Signs.{is_kept, stays}
use Rattle.run_safety.proofs.Standing.{KeepsToNodes, Stands}

-- more events behind a journal in order, of which each finds its node there
pub ordered : (es ys : List Event) → Orderly es
    → ((front after : List Event) (e : Event) (n : ℕ) → ys ≡ front ++ e ∷ after → needs_node n e ≡ true → last_sign n (es ++ front) ≡ Some joined) → Orderly (es ++ ys)
ordered es ys h g before after e n q w =
    split (last_sign n before ≡ Some joined) es ys before after e q (λ rest p. h before rest e n p w)
    (λ front p r. ap (last_sign n) p ∙ g front after e n r w)

-- an end shows nothing of a node that was online when the transition was planned
pub end_shows_nothing : (t : Transition) → KeepsToNodes t → (k n m : ℕ) (a : Action) (o : Outcome) → action_at t k ≡ Some a → is_online t.cluster n t.planned_at ≡ true
    → sign_of n (Ended k a o m) ≡ None
end_shows_nothing t keeps k n m (Fence node) o is on = by (node == n) refl
  where
    by : (b : Bool) → (node == n) ≡ b → sign_of n (Ended k (Fence node) o m) ≡ None
    by true e =
        let same = eqb-true node n e in
        let off : is_online t.cluster n t.planned_at ≡ false = keeps.fences k n (subst (λ z. action_at t k ≡ Some (Fence z)) same is) in
        absurd (let f : ⊥ = cc in f)
    by false e = rw e refl
end_shows_nothing t keeps k n m (Probe r node) o is on = refl
end_shows_nothing t keeps k n m (Operation op r node interval role) o is on = refl
end_shows_nothing t keeps k n m (MigrateTo r source to) o is on = refl
end_shows_nothing t keeps k n m (MigrateFrom r source to) o is on = refl

gone_shows_nothing : (k n m : ℕ) (a : Action) → sign_of n (Ended k a Gone m) ≡ None
gone_shows_nothing k n m (Fence node) = by (node == n)
  where
    by : (b : Bool) → (if b && false then Some was_fenced else None) ≡ None
    by true = refl
    by false = refl
gone_shows_nothing k n m (Probe r node) = refl
gone_shows_nothing k n m (Operation op r node interval role) = refl
gone_shows_nothing k n m (MigrateTo r source to) = refl
gone_shows_nothing k n m (MigrateFrom r source to) = refl

-- an action of a cell that is in flight on a node wanted it as it began
on_wants : (k n : ℕ) (a : Action) → is_on n a ≡ true → needs_node n (Begin k a) ≡ true
on_wants k n (Fence node) h = h
on_wants k n (Probe r node) h = h
on_wants k n (Operation op r node interval role) h = h
on_wants k n (MigrateTo r source to) h = rw h refl
on_wants k n (MigrateFrom r source to) h = h

pub aborted_before : (t : Transition) (since ys : List Event) → has_aborted t (since ++ ys) ≡ false → (has_aborted t since ≡ false) × (list_any (aborts t.cluster) ys ≡ false)
aborted_before t since ys h = or_parts (has_aborted t since) (list_any (aborts t.cluster) ys) (rw (list_any-append (aborts t.cluster) since ys) at h)

module _ (t : Transition) (keeps : KeepsToNodes t) (since : List Event) (stands : Stands t since) where
  -- one event that finds its node there, and leaves all nodes there that are asked for
  stands_one : (e : Event) → ((n : ℕ) → needs_node n e ≡ true → last_sign n (journal t since) ≡ Some joined)
      → ((k n : ℕ) (a : Action) → action_at t k ≡ Some a → is_number_in_flight t (since ++ e ∷ []) k ≡ true → is_on n a ≡ true → last_sign n (journal t since) ≡ Some joined)
      → ((n : ℕ) → is_online t.cluster n t.planned_at ≡ true → is_kept n (sign_of n e) ≡ true)
      → Stands t (since ++ e ∷ [])
  stands_one e wanted flown kept =
      let whole : journal t since ++ e ∷ [] ≡ journal t (since ++ e ∷ []) = append_assoc t.planned_at since (e ∷ []) in
      record {
        orderly = subst Orderly whole (ordered (journal t since) (e ∷ []) stands.orderly (λ front after d n q w.
            at_only (last_sign n (journal t since ++ front) ≡ Some joined) e d front after q (λ f same.
            subst (λ z. last_sign n (journal t since ++ z) ≡ Some joined) (sym f)
            (subst (λ z. last_sign n z ≡ Some joined) (sym (append-nil (journal t since))) (wanted n (subst (λ z. needs_node n z ≡ true) (sym same) w))))));
        there = λ k n a is flies on.
            ap (last_sign n) (sym whole) ∙ stays n (journal t since) e (kept n (keeps.online k n a is (on_wants k n a on))) (flown k n a is flies on);
        steady = λ unaborted n on.
            ap (last_sign n) (sym whole) ∙ stays n (journal t since) e (kept n on) (stands.steady (aborted_before t since (e ∷ []) unaborted).0 n on);
      }

  -- what begins nothing, and leaves nodes there
  pub stands_still : (e : Event) → ((k : ℕ) → begins_number k e ≡ false) → ((n : ℕ) → needs_node n e ≡ true → last_sign n (journal t since) ≡ Some joined)
      → ((n : ℕ) → is_online t.cluster n t.planned_at ≡ true → is_kept n (sign_of n e) ≡ true) → Stands t (since ++ e ∷ [])
  stands_still e fresh wanted kept =
      stands_one e wanted (λ k n a is flies on. stands.there k n a is (was_in_flight t since (e ∷ []) k (rw (fresh k) refl) flies).0 on) kept

  pub begin_stands : (k : ℕ) (a : Action) → action_at t k ≡ Some a → has_aborted t since ≡ false → Stands t (since ++ Begin k a ∷ [])
  begin_stands k a is unaborted =
      stands_one (Begin k a) (λ n w. stands.steady unaborted n (keeps.online k n a is w)) flown (λ n on. refl)
    where
      flown : (j n : ℕ) (b : Action) → action_at t j ≡ Some b → is_number_in_flight t (since ++ Begin k a ∷ []) j ≡ true → is_on n b ≡ true
          → last_sign n (journal t since) ≡ Some joined
      flown j n b ib flies on = stands.steady unaborted n (keeps.online j n b ib (on_wants j n b on))

  pub up_kept : (j n : ℕ) → is_kept n (sign_of n (Up j)) ≡ true
  up_kept j n = by (j == n)
    where
      by : (b : Bool) → is_kept n (if b then Some joined else None) ≡ true
      by true = refl
      by false = refl

  -- a loss: first ends what was in flight there, and then the node is gone
  pub gone_flies : (n : ℕ) (ps : List (ℕ × Action)) → Each (Flies t since) ps
      → Each (λ e. ((m : ℕ) → sign_of m e ≡ None) × ((m : ℕ) → needs_node m e ≡ true → last_sign m (journal t since) ≡ Some joined)
      × ((k : ℕ) → begins_number k e ≡ false)) (map (end_event t.cluster (journal t since) (in_flight_by_number t since) Gone) (filter (λ (p : ℕ × Action). is_on n p.1) ps))
  gone_flies n _ none = none
  gone_flies n _ (more p ps f rest) = by (is_on n p.1) (gone_flies n ps rest)
    where
      Fits : Event → Type 0
      Fits e = ((m : ℕ) → sign_of m e ≡ None) × ((m : ℕ) → needs_node m e ≡ true → last_sign m (journal t since) ≡ Some joined) × ((k : ℕ) → begins_number k e ≡ false)

      by : (b : Bool) → Each Fits (map (end_event t.cluster (journal t since) (in_flight_by_number t since) Gone) (filter (λ (p : ℕ × Action). is_on n p.1) ps))
          → Each Fits (map (end_event t.cluster (journal t since) (in_flight_by_number t since) Gone) (cond b (p ∷ filter (λ (p : ℕ × Action). is_on n p.1) ps) (filter (λ (p : ℕ × Action). is_on n p.1) ps)))
      by true after =
          more (end_event t.cluster (journal t since) (in_flight_by_number t since) Gone p) _
          ((λ m. gone_shows_nothing p.0 m _ p.1), (λ m w. stands.there p.0 m p.1 f.action f.in_flight w), (λ k. refl)) after
      by false after = after
