-- A loss keeps the journal in order, and with it every step does.
use Rattle.std.proofs.Common.{◌≡◌, ◌==◌, ℕ, Bool, true, false, List, [], ◌∷◌, ◌++◌, filter, eqb-true, append-nil, refl, sym, subst, ap, ◌∙◌}
use Rattle.std.specs.Prelude.{Option, Some, None}
use Rattle.std.specs.List.{list_any, list_all}
use Rattle.std.proofs.lemmas.Bool.{both_ways, or_parts, or_right}
use Rattle.std.proofs.lemmas.List.{append_assoc}
use Rattle.std.proofs.lemmas.List.Folds.{list_any-append}
use Rattle.lemmas.proofs.Booleans.{sooner, later}
use Rattle.cluster_types.specs.declared.journal.Action.{Action}
use Rattle.cluster_types.specs.declared.journal.Answer.{Answer}
use Rattle.cluster_types.specs.declared.journal.Event.{Event}
use Rattle.cluster_types.specs.declared.journal.Event.TheVariants.{Up, Lost, Quorum, Wait, Ended}
use Rattle.cluster_types.specs.declared.journal.Outcome.TheVariants.{Code, Gone}
use Rattle.cluster_types.specs.AnswersThatApply.{end_event, monitor_action, tells_failure}
use Rattle.cluster_types.specs.Journals.{joined, Orderly, ends_number, is_on, last_sign, sign_of, needs_node}
use Rattle.cluster_types.specs.NodeStates.{is_online}
use Rattle.cluster_types.specs.Steps.{Transition, GoesBySteps, here, one_more, aborts, action_at, begins_number, in_flight_by_number, has_aborted, is_number_in_flight, journal}
use Rattle.cluster_types.proofs.StepLaws.{split, not_aborted, begins_nothing, joined_all, map_all}
use Rattle.cluster_types.proofs.EagerLaws.{at_only}
use Rattle.run_safety.proofs.Each.{Each, each_at, each_end, each_map, none_passes}
use Rattle.run_safety.proofs.InFlight.{was_in_flight, ends_with_node}
use Rattle.run_safety.proofs.InOrder.{ordered, end_shows_nothing, gone_flies, begin_stands, stands_still, up_kept}
use Rattle.run_safety.proofs.Shapes.{Adds, nothing, begun, over, reported, lost, up, quorum, wait, all_fly, gone_with, step_adds}
use Rattle.run_safety.proofs.Signs.{still, online_joined}
use Rattle.run_safety.proofs.Standing.{KeepsToNodes, Stands}

module _ (t : Transition) (since : List Event) where
  -- an end in a loss: it shows nothing of any node, finds its own there, and begins nothing
  abbrev Ends : Event → Type 0
  Ends e = ((m : ℕ) → sign_of m e ≡ None) × ((m : ℕ) → needs_node m e ≡ true → last_sign m (journal t since) ≡ Some joined) × ((k : ℕ) → begins_number k e ≡ false)

  module _ (keeps : KeepsToNodes t) (stands : Stands t since) (n : ℕ) where
    ends : Each Ends (gone_with t since n)
    ends = gone_flies t keeps since stands n (in_flight_by_number t since) (all_fly t since)

    nothing_begun : (k : ℕ) → list_any (begins_number k) (gone_with t since n ++ Lost n ∷ []) ≡ false
    nothing_begun k =
        none_passes (begins_number k) (gone_with t since n ++ Lost n ∷ [])
        (each_end (λ e. begins_number k e ≡ false) (gone_with t since n) (Lost n) (each_map Ends (λ e. begins_number k e ≡ false) (λ e h. h.2 k) (gone_with t since n) ends) refl)

    loss_in_order : Orderly (journal t since ++ (gone_with t since n ++ Lost n ∷ []))
    loss_in_order =
        ordered (journal t since) (gone_with t since n ++ Lost n ∷ []) stands.orderly (λ front after e m q w.
        split (last_sign m (journal t since ++ front) ≡ Some joined) (gone_with t since n) (Lost n ∷ []) front after e q
        (λ rest p.
        let parts = each_at Ends (gone_with t since n) front rest e ends p in
        still m (journal t since) front (each_map Ends (λ d. sign_of m d ≡ None) (λ d h. h.0 m) front parts.0) ∙ parts.1.1 m w)
        (λ f p r. at_only (last_sign m (journal t since ++ front) ≡ Some joined) (Lost n) e f after r (λ g same.
        let no : needs_node m (Lost n) ≡ true = subst (λ z. needs_node m z ≡ true) (sym same) w in
        absurd (let f : ⊥ = cc in f))))

    -- what is still in flight is on another node
    elsewhere : (k m : ℕ) (a : Action) → action_at t k ≡ Some a → is_number_in_flight t (since ++ (gone_with t since n ++ Lost n ∷ [])) k ≡ true → is_on m a ≡ true
        → last_sign m (journal t since ++ (gone_with t since n ++ Lost n ∷ [])) ≡ Some joined
    elsewhere k m a is flies on = by (n == m) refl
      where
        was : (is_number_in_flight t since k ≡ true) × (list_any (ends_number k) (gone_with t since n ++ Lost n ∷ []) ≡ false)
        was = was_in_flight t since (gone_with t since n ++ Lost n ∷ []) k (nothing_begun k) flies

        by : (b : Bool) → (n == m) ≡ b → last_sign m (journal t since ++ (gone_with t since n ++ Lost n ∷ [])) ≡ Some joined
        by true e =
            let same = eqb-true n m e in
            let here = ends_with_node t since k n a is was.0 (subst (λ z. is_on z a ≡ true) (sym same) on) in
            absurd (both_ways (list_any (ends_number k) (gone_with t since n))
            (or_parts (list_any (ends_number k) (gone_with t since n)) _ (rw (list_any-append (ends_number k) (gone_with t since n) (Lost n ∷ [])) at was.1)).0 here)
        by false e =
            still m (journal t since) (gone_with t since n ++ Lost n ∷ [])
            (each_end (λ d. sign_of m d ≡ None) (gone_with t since n) (Lost n) (each_map Ends (λ d. sign_of m d ≡ None) (λ d h. h.0 m) (gone_with t since n) ends) (rw e refl))
            ∙ stands.there k m a is was.0 on

    loss_aborts : has_aborted t (since ++ (gone_with t since n ++ Lost n ∷ [])) ≡ true
    loss_aborts =
        list_any-append (aborts t.cluster) since (gone_with t since n ++ Lost n ∷ [])
        ∙ or_right (has_aborted t since) _ (list_any-append (aborts t.cluster) (gone_with t since n) (Lost n ∷ []) ∙ or_right (list_any (aborts t.cluster) (gone_with t since n)) _ refl)

    loss_stands : Stands t (since ++ (gone_with t since n ++ Lost n ∷ []))
    loss_stands =
        let ys = gone_with t since n ++ Lost n ∷ [] in
        let whole : journal t since ++ ys ≡ journal t (since ++ ys) = append_assoc t.planned_at since ys in
        record {
          orderly = subst Orderly whole loss_in_order;
          there = λ k m a is flies on. ap (last_sign m) (sym whole) ∙ elsewhere k m a is flies on;
          steady = λ unaborted m on. absurd (let f : ⊥ = (let g = loss_aborts in cc) in f);
        }

pub gone_begins_nothing : (t : Transition) (since : List Event) (n : ℕ) → list_all begins_nothing (gone_with t since n ++ Lost n ∷ []) ≡ true
gone_begins_nothing t since n =
    joined_all begins_nothing (gone_with t since n) (Lost n ∷ [])
    (map_all begins_nothing (end_event t.cluster (journal t since) (in_flight_by_number t since) Gone) (λ p. refl) (filter (λ (p : ℕ × Action). is_on n p.1) (in_flight_by_number t since))) refl

module _ (t : Transition) (keeps : KeepsToNodes t) where
  news_online : (since : List Event) (r n interval code : ℕ) → tells_failure t.cluster (journal t since) (in_flight_by_number t since) n r interval code ≡ true
      → is_online t.cluster n (journal t since) ≡ true
  news_online since r n interval code h = later _ _ (sooner _ _ (sooner _ _ (sooner _ _ (sooner _ _ h))))

  pub add_stands : (since events : List Event) → Stands t since → Adds t since events → Stands t (since ++ events)
  add_stands since _ stands nothing = subst (Stands t) (sym (append-nil since)) stands
  add_stands since _ stands (begun k a allowed) = begin_stands t keeps since stands k a allowed.action (not_aborted t since k allowed.allowed)
  add_stands since _ stands (over k a o m flies h) =
      stands_still t keeps since stands (Ended k a o m) (λ j. refl) (λ n w. stands.there k n a flies.action flies.in_flight w)
      (λ n on. rw (end_shows_nothing t keeps k n m a o flies.action on) refl)
  add_stands since _ stands (reported r n interval code m h) =
      stands_still t keeps since stands (Ended 0 (monitor_action t.cluster r n interval) (Code code) m) (λ j. refl)
      (λ j w. subst (λ z. last_sign z (journal t since) ≡ Some joined) (eqb-true n j w) (online_joined t.cluster n (journal t since) (news_online since r n interval code h)))
      (λ n on. refl)
  add_stands since _ stands (lost n h) = loss_stands t since keeps stands n
  add_stands since _ stands (up n) = stands_still t keeps since stands (Up n) (λ j. refl) (λ m w. absurd (let f : ⊥ = cc in f)) (λ m on. up_kept t keeps since stands n m)
  add_stands since _ stands (quorum now) = stands_still t keeps since stands (Quorum now) (λ j. refl) (λ m w. absurd (let f : ⊥ = cc in f)) (λ m on. refl)
  add_stands since _ stands (wait seconds) = stands_still t keeps since stands (Wait seconds) (λ j. refl) (λ m w. absurd (let f : ⊥ = cc in f)) (λ m on. refl)

  stands_on : (whole : Bool) (since later : List Event) (rest left : Option (List Answer)) → GoesBySteps t whole since rest later left → Stands t since → Stands t later
  stands_on whole since _ rest _ (here _ _) stands = stands
  stands_on whole since after rest left (one_more _ events _ _ middle _ step next) stands =
      stands_on whole (since ++ events) after middle left next (add_stands since events stands (step_adds t since whole events rest middle step))

  pub at_first : Orderly t.planned_at → Stands t []
  at_first h = record {
    orderly = subst Orderly (sym (append-nil t.planned_at)) h;
    there = λ k n a is flies on. absurd (let f : ⊥ = cc in f);
    steady = λ unaborted n on. ap (last_sign n) (append-nil t.planned_at) ∙ online_joined t.cluster n t.planned_at on;
  }

  pub stands_always : (whole : Bool) (rest left : Option (List Answer)) (later : List Event) → Orderly t.planned_at → GoesBySteps t whole [] rest later left → Stands t later
  stands_always whole rest left after orderly goes = stands_on whole [] after rest left goes (at_first orderly)
