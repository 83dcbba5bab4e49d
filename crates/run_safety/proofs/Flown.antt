-- Where no number of a transition is in flight, nothing in its events is.
use Rattle.std.proofs.Common.{◌≡◌, ◌<◌, ◌||◌, if◌then◌else◌, ℕ, Bool, true, false, List, [], ◌∷◌, ◌++◌, refl, sym, subst, ap, ◌∙◌}
use Rattle.std.specs.List.{list_any, list_all}
use Rattle.std.proofs.lemmas.Bool.{both_ways, false_from_ne_true, not-true, not_from_false, or_left, or_right, and_from, or_from}
use Rattle.std.proofs.lemmas.List.Folds.{list_any-append}
use Rattle.lemmas.proofs.Booleans.{sooner, later, either, number_itself}
use Rattle.cluster_types.specs.declared.journal.Action.{Action}
use Rattle.cluster_types.specs.declared.journal.Event.{Event}
use Rattle.cluster_types.specs.declared.journal.Event.TheVariants.{Up, Down, Lost, Quorum, Wait, Cleanup, Begin, Ended}
use Rattle.cluster_types.specs.Journals.{ends_number, in_flight_by_begin}
use Rattle.cluster_types.specs.Steps.{Transition, Begins, begins_number, has_begun, has_number_ended}
use Rattle.cluster_types.proofs.StepLaws.{begins_nothing, not_begun}
use Rattle.cluster_types.proofs.JournalLaws.{nothing_begun}
use Rattle.run_safety.proofs.Each.{Each, more, none}
use Rattle.run_safety.proofs.InFlight.{number_within}
use Rattle.run_safety.proofs.Shapes.{Flies}

-- one begin more is in flight
begin_flies : (es : List Event) (k : ℕ) (a : Action) → in_flight_by_begin (es ++ Begin k a ∷ []) ≡ in_flight_by_begin es ++ (k, a) ∷ []
begin_flies [] k a = refl
begin_flies (Begin j b ∷ es) k a = by (list_any (ends_number j) es) refl (begin_flies es k a)
  where
    by : (x : Bool) → list_any (ends_number j) es ≡ x → in_flight_by_begin (es ++ Begin k a ∷ []) ≡ in_flight_by_begin es ++ (k, a) ∷ []
        → in_flight_by_begin (Begin j b ∷ (es ++ Begin k a ∷ [])) ≡ in_flight_by_begin (Begin j b ∷ es) ++ (k, a) ∷ []
    by true e rest = rw (list_any-append (ends_number j) es (Begin k a ∷ []), e) rest
    by false e rest = rw (list_any-append (ends_number j) es (Begin k a ∷ []), e) (ap (λ xs. (j, b) ∷ xs) rest)
begin_flies (Up n ∷ es) k a = begin_flies es k a
begin_flies (Down n ∷ es) k a = begin_flies es k a
begin_flies (Lost n ∷ es) k a = begin_flies es k a
begin_flies (Quorum now ∷ es) k a = begin_flies es k a
begin_flies (Wait s ∷ es) k a = begin_flies es k a
begin_flies (Cleanup r n ∷ es) k a = begin_flies es k a
begin_flies (Ended j b o m ∷ es) k a = begin_flies es k a

-- what is in flight after events that begin nothing was in flight, and doesn't end by them
module _ (P : ℕ × Action → Type 0) (Q : ℕ × Action → Type 0) (ys : List Event) (silent : list_all begins_nothing ys ≡ true)
    (kept : (p : ℕ × Action) → P p → list_any (ends_number p.0) ys ≡ false → Q p) where
  still_flying : (es : List Event) → Each P (in_flight_by_begin es) → Each Q (in_flight_by_begin (es ++ ys))
  still_flying [] h = subst (Each Q) (sym (nothing_begun ys silent)) none
  still_flying (Begin j b ∷ es) h = by (list_any (ends_number j) es) refl h (still_flying es) (list_any (ends_number j) ys) refl
    where
      first : Each P ((j, b) ∷ in_flight_by_begin es) → P (j, b) × Each P (in_flight_by_begin es)
      first (more _ _ p rest) = (p, rest)

      by : (x : Bool) → list_any (ends_number j) es ≡ x → Each P (if x then in_flight_by_begin es else (j, b) ∷ in_flight_by_begin es)
          → (Each P (in_flight_by_begin es) → Each Q (in_flight_by_begin (es ++ ys))) → (y : Bool) → list_any (ends_number j) ys ≡ y
          → Each Q (in_flight_by_begin (Begin j b ∷ (es ++ ys)))
      by true e h rest y f = rw (list_any-append (ends_number j) es ys, e) (rest h)
      by false e h rest true f = rw (list_any-append (ends_number j) es ys, e, f) (rest (first h).1)
      by false e h rest false f = rw (list_any-append (ends_number j) es ys, e, f) (more (j, b) _ (kept (j, b) (first h).0 f) (rest (first h).1))
  still_flying (Up n ∷ es) h = still_flying es h
  still_flying (Down n ∷ es) h = still_flying es h
  still_flying (Lost n ∷ es) h = still_flying es h
  still_flying (Quorum now ∷ es) h = still_flying es h
  still_flying (Wait s ∷ es) h = still_flying es h
  still_flying (Cleanup r n ∷ es) h = still_flying es h
  still_flying (Ended k a o m ∷ es) h = still_flying es h

module _ (t : Transition) where
  -- of some events of the transition: what is in flight has a number that is, and what has ended had begun
  pub record Flown (since : List Event) : Type 0 where
    pub all : Each (Flies t since) (in_flight_by_begin since)
    pub begun_first : (k : ℕ) → 0 < k → has_number_ended t since k ≡ true → has_begun t since k ≡ true

  module _ (since ys : List Event) (flown : Flown since) where
    kept_begun : (k : ℕ) → has_begun t since k ≡ true → has_begun t (since ++ ys) k ≡ true
    kept_begun k h = list_any-append (begins_number k) since ys ∙ or_left (has_begun t since k) _ h

    -- events that begin nothing, and end what had begun
    pub silent_flown : list_all begins_nothing ys ≡ true → ((k : ℕ) → 0 < k → list_any (ends_number k) ys ≡ true → has_begun t since k ≡ true) → Flown (since ++ ys)
    silent_flown silent known = record {
      all = still_flying (Flies t since) (Flies t (since ++ ys)) ys silent (λ p f none. record {
        action = f.action;
        in_flight = and_from (has_begun t (since ++ ys) p.0) _ (kept_begun p.0 (sooner (has_begun t since p.0) _ f.in_flight))
            (rw (list_any-append (ends_number p.0) since ys) (not_from_false (has_number_ended t since p.0 || list_any (ends_number p.0) ys)
            (or_from (has_number_ended t since p.0) _ (not-true (has_number_ended t since p.0) (later (has_begun t since p.0) _ f.in_flight)) none)));
      }) since flown.all;
      begun_first = λ k low h. kept_begun k (either _ _ (rw (list_any-append (ends_number k) since ys) at h) (flown.begun_first k low) (known k low));
    }

  pub begin_flown : (since : List Event) (k : ℕ) (a : Action) → Flown since → Begins t since k a → Flown (since ++ Begin k a ∷ [])
  begin_flown since k a flown begins = record {
    all = subst (Each (Flies t (since ++ Begin k a ∷ []))) (sym (begin_flies since k a)) (with_one_more (in_flight_by_begin since) flown.all);
    begun_first = λ j low h. kept_begun since (Begin k a ∷ []) flown j (flown.begun_first j low (ended_before j h));
  }
    where
      ended_before : (j : ℕ) → has_number_ended t (since ++ Begin k a ∷ []) j ≡ true → has_number_ended t since j ≡ true
      ended_before j h = either _ _ (rw (list_any-append (ends_number j) since (Begin k a ∷ [])) at h) (λ e. e) (λ e. cc)

      ended_after : (j : ℕ) → has_number_ended t since j ≡ false → has_number_ended t (since ++ Begin k a ∷ []) j ≡ false
      ended_after j h = list_any-append (ends_number j) since (Begin k a ∷ []) ∙ (rw h refl)

      fresh : has_number_ended t since k ≡ false
      fresh =
          false_from_ne_true (has_number_ended t since k) (λ e.
          both_ways (has_begun t since k) (not_begun t since k begins.allowed) (flown.begun_first k (number_within t.actions k a begins.action).0 e))

      new : Flies t (since ++ Begin k a ∷ []) (k, a)
      new = record {
        action = begins.action;
        in_flight = and_from (has_begun t (since ++ Begin k a ∷ []) k) _
            (list_any-append (begins_number k) since (Begin k a ∷ []) ∙ or_right (has_begun t since k) (list_any (begins_number k) (Begin k a ∷ [])) (rw (number_itself k) refl))
            (not_from_false _ (ended_after k fresh));
      }

      old : (p : ℕ × Action) → Flies t since p → Flies t (since ++ Begin k a ∷ []) p
      old p f = record {
        action = f.action;
        in_flight = and_from (has_begun t (since ++ Begin k a ∷ []) p.0) _ (kept_begun since (Begin k a ∷ []) flown p.0 (sooner (has_begun t since p.0) _ f.in_flight))
            (not_from_false _ (ended_after p.0 (not-true _ (later (has_begun t since p.0) _ f.in_flight))));
      }

      with_one_more : (ps : List (ℕ × Action)) → Each (Flies t since) ps → Each (Flies t (since ++ Begin k a ∷ [])) (ps ++ (k, a) ∷ [])
      with_one_more _ none = more (k, a) [] new none
      with_one_more _ (more p ps f rest) = more p (ps ++ (k, a) ∷ []) (old p f) (with_one_more ps rest)
