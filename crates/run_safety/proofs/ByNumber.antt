-- What is in flight by number is in flight by begin, and the other way round.
use Rattle.std.proofs.Common.{arith, ◌≡◌, ◌<◌, ◌≤◌, ◌+◌, ◌-◌, ◌==◌, ◌||◌, if◌then◌else◌, ℕ, zero, suc, Bool, true, false, cond, Option, Some, List, [], ◌∷◌, ◌++◌, length, map, filter, slice_index_or, eqb-true, refl, sym, ap, ◌∙◌, subst, ◌⊎◌, inl, inr, ◌↔◌}
use Rattle.std.specs.Prelude.{AllPairs, Contains}
use Rattle.std.specs.List.{flat_map, list_any, range_with_len}
use Rattle.std.specs.Option.{option_map_or}
use Rattle.std.proofs.lemmas.Bool.{ne_eqb, not-true, or_parts}
use Rattle.std.proofs.lemmas.List.{length-map, get_or-map}
use Rattle.std.proofs.lemmas.List.Kept.{AllPairs-filter}
use Rattle.std.proofs.lemmas.List.FromFn.{get_or-range_with_len, length-range_with_len}
use Rattle.std.proofs.lemmas.Option.{slice_get-get_or}
use Rattle.lemmas.proofs.Booleans.{sooner, later}
use Rattle.lemmas.proofs.Members.{head_or_rest, at_head, in_rest, in_none, in_filter, in_flat, in_range}
use Rattle.cluster_types.specs.declared.journal.Action.{Action}
use Rattle.cluster_types.specs.declared.journal.Action.TheVariants.{Fence}
use Rattle.cluster_types.specs.declared.journal.Answer.{Answer}
use Rattle.cluster_types.specs.declared.journal.Event.{Event}
use Rattle.cluster_types.specs.declared.journal.Event.TheVariants.{Up, Down, Lost, Quorum, Wait, Cleanup, Begin, Ended}
use Rattle.cluster_types.specs.AnswersThatApply.{is_number_of}
use Rattle.cluster_types.specs.Journals.{AreInFlightByNumber, ends_number, in_flight_by_begin}
use Rattle.cluster_types.specs.Steps.{GoesBySteps, Transition, action_at, begins_number, has_begun, in_flight_by_number, is_number_in_flight, numbered, numbers, numbers_in_flight}
use Rattle.cluster_types.proofs.SourceLaws.{none-in_flight}
use Rattle.run_safety.proofs.AtRest.{flown_always}
use Rattle.run_safety.proofs.Each.{Each, more, none}
use Rattle.run_safety.proofs.InFlight.{number_within}
use Rattle.run_safety.proofs.Shapes.{Flies, all_fly}

-- the action of a number that is there
abbrev pub action_of : List Action → ℕ → Action
action_of actions k = slice_index_or actions (k - 1) (Fence 0)

abbrev pub with_action : List Action → ℕ → ℕ × Action
with_action actions k = (k, action_of actions k)

pub numbered_is : (actions : List Action) (k : ℕ) → 0 < k → k ≤ length actions → numbered actions k ≡ Some (action_of actions k)
numbered_is actions k low high = rw (ne_eqb k 0 (λ e. let f : ⊥ = omega arith in f)) (slice_get-get_or actions (k - 1) (Fence 0) (omega arith))

-- the pair of a number, where there is an action of it
abbrev pub pair_of : List Action → ℕ → List (ℕ × Action)
pair_of actions k = option_map_or (λ a. (k, a) ∷ []) (numbered actions k) []

paired_is : (actions : List Action) (k : ℕ) → 0 < k → k ≤ length actions → pair_of actions k ≡ with_action actions k ∷ []
paired_is actions k low high = rw (numbered_is actions k low high) refl

flat_on : (actions : List Action) (k : ℕ) (ks : List ℕ) (b : Bool) → 0 < k → k ≤ length actions
    → flat_map (pair_of actions) ks ≡ map (with_action actions) ks
    → flat_map (pair_of actions) (cond b (k ∷ ks) ks) ≡ map (with_action actions) (cond b (k ∷ ks) ks)
flat_on actions k ks true low high rest = rw (paired_is actions k low high, rest) refl
flat_on actions k ks false low high rest = rest

pub flat_is : (actions : List Action) (p : ℕ → Bool) (a n : ℕ) → 0 < a → a + n ≤ length actions + 1
    → flat_map (pair_of actions) (filter p (range_with_len a n)) ≡ map (with_action actions) (filter p (range_with_len a n))
flat_is actions p a zero low high = refl
flat_is actions p a (suc n) low high =
    flat_on actions a (filter p (range_with_len (a + 1) n)) (p a) low (omega arith) (flat_is actions p (a + 1) n (omega arith) (omega arith))

-- what has begun and hasn't ended is in flight
named_next : (b : Bool) (ps : List (ℕ × Action)) (k : ℕ) (p : ℕ × Action) → list_any (is_number_of k) ps ≡ true
    → list_any (is_number_of k) (if b then ps else p ∷ ps) ≡ true
named_next true ps k p h = h
named_next false ps k p h = on (is_number_of k p) where
  on : (b : Bool) → (b || list_any (is_number_of k) ps) ≡ true
  on true = refl
  on false = h

named : (k : ℕ) (es : List Event) → list_any (begins_number k) es ≡ true → list_any (ends_number k) es ≡ false → list_any (is_number_of k) (in_flight_by_begin es) ≡ true
named k [] h n = cc
named k (Begin j a ∷ es) h n = on (j == k) refl h (named k es) where
  on : (b : Bool) → (j == k) ≡ b → (b || list_any (begins_number k) es) ≡ true
      → (list_any (begins_number k) es ≡ true → list_any (ends_number k) es ≡ false → list_any (is_number_of k) (in_flight_by_begin es) ≡ true)
      → list_any (is_number_of k) (if list_any (ends_number j) es then in_flight_by_begin es else (j, a) ∷ in_flight_by_begin es) ≡ true
  on true e h next =
      let open_still : list_any (ends_number j) es ≡ false = subst (λ z. list_any (ends_number z) es ≡ false) (sym (eqb-true j k e)) n in
      rw open_still (rw e refl)
  on false e h next = named_next (list_any (ends_number j) es) (in_flight_by_begin es) k (j, a) (next h n)
named k (Up m ∷ es) h n = named k es h n
named k (Down m ∷ es) h n = named k es h n
named k (Lost m ∷ es) h n = named k es h n
named k (Quorum now ∷ es) h n = named k es h n
named k (Wait s ∷ es) h n = named k es h n
named k (Cleanup r m ∷ es) h n = named k es h n
named k (Ended j b o m ∷ es) h n = named k es h (or_parts (j == k) _ n).1

each_member : {X : Type 0} (P : X → Type 0) (xs : List X) (x : X) → Each P xs → Contains xs x → P x
each_member P _ x none h = absurd (in_none x h)
each_member P _ x (more y ys p rest) h = on (head_or_rest y ys x h) (each_member P ys x rest) where
  on : (y ≡ x) ⊎ Contains ys x → (Contains ys x → P x) → P x
  on (inl e) next = subst P e p
  on (inr r) next = next r

pair_is : (p : ℕ × Action) (k : ℕ) (a : Action) → p.0 ≡ k → p.1 ≡ a → p ≡ (k, a)
pair_is (x, y) k a e f = rw (e, f) refl

module _ (t : Transition) (since : List Event) where
  -- the pair of a number that is in a list of such pairs
  of_number : (k : ℕ) (a : Action) → action_at t k ≡ Some a → (ps : List (ℕ × Action)) → Each (Flies t since) ps → list_any (is_number_of k) ps ≡ true → Contains ps (k, a)
  of_number k a at _ none h = cc
  of_number k a at _ (more p ps f rest) h = on (p.0 == k) refl h (of_number k a at ps rest) where
    on : (b : Bool) → (p.0 == k) ≡ b → (b || list_any (is_number_of k) ps) ≡ true → (list_any (is_number_of k) ps ≡ true → Contains ps (k, a)) → Contains (p ∷ ps) (k, a)
    on true e h next =
        let same : p.0 ≡ k = eqb-true p.0 k e in
        let found : action_at t k ≡ Some p.1 = subst (λ z. action_at t z ≡ Some p.1) same f.action in
        let action : p.1 ≡ a = ap (λ (o : Option Action). option_map_or (λ x. x) o a) (sym found ∙ at) in
        at_head p ps (k, a) (pair_is p k a same action)
    on false e h next = in_rest p ps (k, a) (next h)

  shown_flies : (k : ℕ) (a : Action) → Flies t since (k, a) → Contains (in_flight_by_number t since) (k, a)
  shown_flies k a f =
      let within = number_within t.actions k a f.action in
      in_flat (λ k. option_map_or (λ a. (k, a) ∷ []) (action_at t k) []) (numbers_in_flight t since) k (k, a)
      (in_filter (is_number_in_flight t since) (numbers t) k (in_range 1 (length t.actions) k (omega (arith, within.0)) (omega (arith, within.1))) f.in_flight)
      (rw f.action (at_head (k, a) [] (k, a) refl))

-- numbers with their actions, ascending
ranged : (n a : ℕ) → AllPairs (λ x y. x < y) (range_with_len a n)
ranged n a i j d lt within =
    let l = length-range_with_len a n in
    rw (get_or-range_with_len a n i d (omega arith), get_or-range_with_len a n j d (omega arith)) (omega arith)

in_order : (actions : List Action) (ks : List ℕ) → AllPairs (λ x y. x < y) ks → AllPairs (λ (x y : ℕ × Action). x.0 < y.0) (map (with_action actions) ks)
in_order actions ks h i j d lt within =
    let l = length-map ks (with_action actions) in
    rw (get_or-map (with_action actions) ks i 0 d (omega arith), get_or-map (with_action actions) ks j 0 d (omega arith)) (h i j 0 lt (omega arith))

module _ (t : Transition) (whole : Bool) (rest left : Option (List Answer)) (since : List Event) (idle : in_flight_by_begin t.planned_at ≡ [])
    (goes : GoesBySteps t whole [] rest since left) where
  all_flown : Each (Flies t since) (in_flight_by_begin since)
  all_flown = (flown_always t whole rest left since goes).all

  numbered_flight : in_flight_by_number t since ≡ map (with_action t.actions) (numbers_in_flight t since)
  numbered_flight = flat_is t.actions (is_number_in_flight t since) 1 (length t.actions) (omega arith) (omega arith)

  began : (k : ℕ) (a : Action) → Contains (in_flight_by_number t since) (k, a) → Contains (in_flight_by_begin since) (k, a)
  began k a h =
      let f = each_member (Flies t since) (in_flight_by_number t since) (k, a) (all_fly t since) h in
      of_number t since k a f.action (in_flight_by_begin since) all_flown
      (named k since (sooner (has_begun t since k) _ f.in_flight) (not-true _ (later (has_begun t since k) _ f.in_flight)))

  pub by_number : AreInFlightByNumber (t.planned_at ++ since) (in_flight_by_number t since)
  by_number = record {
    members = λ k a. subst (λ fs. Contains (in_flight_by_number t since) (k, a) ↔ Contains fs (k, a)) (sym (none-in_flight t.planned_at since idle))
        (began k a, λ h. shown_flies t since k a (each_member (Flies t since) (in_flight_by_begin since) (k, a) all_flown h));
    ascending = rw numbered_flight (in_order t.actions (numbers_in_flight t since)
        (AllPairs-filter (λ x y. x < y) (is_number_in_flight t since) (numbers t) (ranged (length t.actions) 1)));
  }
