-- What runs stays among what may run, event by event.
use Rattle.std.proofs.Common.{◌≡◌, ℕ, suc, zero, ◌<◌, ◌≤◌, ◌==◌, Bool, true, false, if◌then◌else◌, is_none, Some, None, List, [], ◌∷◌, ◌++◌, length, map, filter, slice_get, ◌⊎◌, inl, inr, refl, sym, ap, ◌∙◌, arith, append-nil, append_assoc}
use Rattle.std.specs.Prelude.{find, AllPairs}
use Rattle.std.specs.List.{filter_map, last_or}
use Rattle.std.proofs.lemmas.Bool.{and_parts}
use Rattle.std.proofs.lemmas.List.Elements.{filter_map-append}
use Rattle.std.proofs.lemmas.Option.{get_or_from_slice_get, slice_get_within}
use Rattle.std.proofs.Math.Bool.{and-false, or-true}
use Rattle.lemmas.proofs.Ordered.{first_earlier, rest_in_order}
use Rattle.cluster_types.specs.declared.cluster.Cluster.{Cluster}
use Rattle.cluster_types.specs.declared.journal.Action.{Action}
use Rattle.cluster_types.specs.declared.journal.Action.TheVariants.{Fence, Probe, Operation, MigrateTo, MigrateFrom}
use Rattle.cluster_types.specs.declared.journal.Event.{Event}
use Rattle.cluster_types.specs.declared.journal.Event.TheVariants.{Up, Lost, Begin, Ended}
use Rattle.cluster_types.specs.declared.journal.Outcome.{Outcome}
use Rattle.cluster_types.specs.declared.journal.Outcome.TheVariants.{Code, TimedOut, Gone}
use Rattle.cluster_types.specs.AnswersThatApply.{added_by, end_event, end_events, is_number_of}
use Rattle.cluster_types.specs.Cells.{is_same_cell}
use Rattle.cluster_types.specs.CellStates.{last_outcome}
use Rattle.cluster_types.specs.Fields.{is_promotable}
use Rattle.cluster_types.specs.Journals.{AreInFlightByNumber, joined, was_fenced, was_lost, is_on, last_sign, moment_of, sign_of}
use Rattle.cluster_types.specs.May.{closes, closes_promoted, is_left_promoted, may_be_running, may_be_promoted, opens, opens_promoted}
use Rattle.cluster_types.proofs.MayLaws.{may-last, may-promoted, promoted-last}
use Rattle.cluster_types.proofs.LastSigns.{signed}
use Rattle.simulated.specs.declared.real.Real.{Real}
use Rattle.simulated.specs.declared.real.Real.TheVariants as real
use Rattle.simulated.specs.declared.real.Standing.TheVariants as standing
use Rattle.simulated.specs.declared.turn.Fate.{Fate}
use Rattle.simulated.specs.declared.turn.Fate.TheVariants as fate
use Rattle.simulated.specs.declared.turn.Turn.TheVariants as turn
use Rattle.simulated.specs.Lives.{IsWorldWithin, Lives, at_first, an_action_begins, leaves, joins, ends}
use Rattle.simulated.specs.Turns.{after_begin, after_end, after_joining, after_leaving, answer_by_fate, is_fault, nodes_after, next_turn, world_at_turn}
use Rattle.simulated.specs.RealWorlds.{RealWorld, begun, first_world, found_at, is_cell, is_really_promoted, is_there, risen, standing_by, true_code, with_changed_cell, without_node}
use Rattle.simulated.proofs.Quiet.{IsQuiet, failed, gone, late, quiet_closes, quiet_demotes}
use Rattle.simulated.proofs.Running as running
use Rattle.simulated.proofs.Running.{Stays}
use Rattle.simulated.proofs.Promoting as promoting
use Rattle.simulated.proofs.Promoting.{StaysPromoted}
use Rattle.simulated.proofs.NextTurn.{ending, joining, leaving}

-- the last sign of a node, with one more event
pub unsigned : (n : ℕ) (es : List Event) (e : Event) → sign_of n e ≡ None → last_sign n (es ++ e ∷ []) ≡ last_sign n es
unsigned n es e s = ap (last_or None) (filter_map-append (sign_of n) es (e ∷ [])) ∙ (rw s (ap (last_or None) (append-nil (filter_map (sign_of n) es))))

quiet_sign : (n k m : ℕ) (o : Outcome) → IsQuiet o → (a : Action) → sign_of n (Ended k a o m) ≡ None
quiet_sign n k m o q (Fence node) = rw (q.no_success, and-false (node == n)) refl
quiet_sign n k m o q (Probe leaf node) = refl
quiet_sign n k m o q (Operation op leaf node interval role) = refl
quiet_sign n k m o q (MigrateTo leaf source target) = refl
quiet_sign n k m o q (MigrateFrom leaf source target) = refl

risen_there : (x : Real) → is_there (risen x) ≡ is_there x
risen_there real.Off = refl
risen_there real.Rising = refl
risen_there real.Started = refl
risen_there real.Promoted = refl

risen_promoted : (x : Real) → is_really_promoted (risen x) ≡ is_really_promoted x
risen_promoted real.Off = refl
risen_promoted real.Rising = refl
risen_promoted real.Started = refl
risen_promoted real.Promoted = refl

-- the one action in flight of a number
found_first : (flight : List (ℕ × Action)) (place k : ℕ) (a : Action) → AllPairs (λ (x y : ℕ × Action). x.0 < y.0) flight
    → slice_get flight place ≡ Some (k, a) → find (is_number_of k) flight ≡ Some (k, a)
found_first [] place k a up at = cc
found_first (p ∷ ps) zero k a up at = let is : p ≡ (k, a) = cc in let same : (k == k) ≡ true = grind arith in rw is (rw same refl)
found_first (p ∷ ps) (suc place) k a up at =
    let earlier : p.0 < k = first_earlier (λ (x y : ℕ × Action). x.0 < y.0) p ps (k, a) up
    (place, slice_get_within ps place (k, a) at, get_or_from_slice_get ps place (k, a) (k, a) at) in
    let other : (p.0 == k) ≡ false = grind arith in
    rw other (found_first ps place k a (rest_in_order (λ (x y : ℕ × Action). x.0 < y.0) p ps up) at)

module _ (c : Cluster) where
  module _ (es : List Event) (e : Event) where
    runs_on : (r n : ℕ) (x y : Real) → (is_there x ≡ true → may_be_running c r n es ≡ true)
        → (is_there y ≡ true → (opens c r n e ≡ true) ⊎ ((is_there x ≡ true) × (closes c r n e ≡ false))) → is_there y ≡ true → may_be_running c r n (es ++ e ∷ []) ≡ true
    runs_on r n x y before stays h = on (stays h) where
      on : (opens c r n e ≡ true) ⊎ ((is_there x ≡ true) × (closes c r n e ≡ false)) → may_be_running c r n (es ++ e ∷ []) ≡ true
      on (inl o) = may-last c r n e es ∙ rw o refl
      on (inr p) = may-last c r n e es ∙ rw (before p.0, p.1) (or-true (opens c r n e))

    stays_promoted : (r n : ℕ) (x y : Real) → (is_really_promoted x ≡ true → may_be_promoted c r n es ≡ true)
        → (is_really_promoted y ≡ true → ((is_promotable c r ≡ true) × (opens_promoted c r n e ≡ true)) ⊎ ((is_really_promoted x ≡ true) × (closes_promoted c r n e ≡ false)))
        → is_really_promoted y ≡ true → may_be_promoted c r n (es ++ e ∷ []) ≡ true
    stays_promoted r n x y before stays h = on (stays h) where
      on : ((is_promotable c r ≡ true) × (opens_promoted c r n e ≡ true)) ⊎ ((is_really_promoted x ≡ true) × (closes_promoted c r n e ≡ false))
          → may_be_promoted c r n (es ++ e ∷ []) ≡ true
      on (inl o) = rw (o.0, promoted-last c r n e es, o.1) refl
      on (inr p) =
          let parts = and_parts (is_promotable c r) (is_left_promoted c r n es) (before p.0) in
          rw (parts.0, promoted-last c r n e es, parts.1, p.1) (or-true (opens_promoted c r n e))

    -- one more event
    within_more : (w next : RealWorld) → IsWorldWithin c es w → ((n : ℕ) → next.nodes n ≡ standing_by c (last_sign n (es ++ e ∷ [])))
        → ((r n : ℕ) → is_cell c r n ≡ true → is_there (next.cells r n) ≡ true → (opens c r n e ≡ true) ⊎ ((is_there (w.cells r n) ≡ true) × (closes c r n e ≡ false)))
        → ((r n : ℕ) → is_cell c r n ≡ true → is_really_promoted (next.cells r n) ≡ true
        → ((is_promotable c r ≡ true) × (opens_promoted c r n e ≡ true)) ⊎ ((is_really_promoted (w.cells r n) ≡ true) × (closes_promoted c r n e ≡ false)))
        → next.faults ≤ 16 → IsWorldWithin c (es ++ e ∷ []) next
    within_more w next within nodes runs promoted few = record {
      stands = nodes;
      runs = λ r n cell h. runs_on r n (w.cells r n) (next.cells r n) (within.runs r n cell) (runs r n cell) h;
      promoted = λ r n cell h. stays_promoted r n (w.cells r n) (next.cells r n) (within.promoted r n cell) (promoted r n cell) h;
      few = few;
    }

  -- at first
  pub within_first : (es : List Event) → IsWorldWithin c es (first_world c es)
  within_first es = record {
    stands = λ n. refl;
    runs = λ r n cell h. there r n (is_none (last_outcome c r n es)) (may_be_promoted c r n es) (may_be_running c r n es) refl refl h;
    promoted = λ r n cell h. up r n (is_none (last_outcome c r n es)) (may_be_promoted c r n es) (may_be_running c r n es) h;
    few = omega arith;
  }
    where
      there : (r n : ℕ) (none promoted runs : Bool) → may_be_promoted c r n es ≡ promoted → may_be_running c r n es ≡ runs
          → is_there (if none then real.Off else (if promoted then real.Promoted else (if runs then real.Started else real.Off))) ≡ true → may_be_running c r n es ≡ true
      there r n true promoted runs p m h = cc
      there r n false true runs p m h = may-promoted c r n es p
      there r n false false true p m h = m
      there r n false false false p m h = cc

      up : (r n : ℕ) (none promoted runs : Bool)
          → is_really_promoted (if none then real.Off else (if promoted then real.Promoted else (if runs then real.Started else real.Off))) ≡ true → promoted ≡ true
      up r n true promoted runs h = cc
      up r n false true runs h = refl
      up r n false false true h = cc
      up r n false false false h = cc

  -- once all has come up
  within_turned : (number : ℕ) (w : RealWorld) (es : List Event) → IsWorldWithin c es w → IsWorldWithin c es (world_at_turn c number w)
  within_turned number w es within = record {
    stands = within.stands;
    runs = λ r n cell h. within.runs r n cell (sym (risen_there (w.cells r n)) ∙ h);
    promoted = λ r n cell h. within.promoted r n cell (sym (risen_promoted (w.cells r n)) ∙ h);
    few = within.few;
  }

  -- what the end of an action adds
  pub one_end : (es : List Event) (flight : List (ℕ × Action)) (place k : ℕ) (a : Action) (o : Outcome) → AreInFlightByNumber es flight
      → slice_get flight place ≡ Some (k, a) → end_events c es flight k o ≡ Ended k a o (moment_of es) ∷ []
  one_end es flight place k a o is at = rw (found_first flight place k a is.ascending at) refl

  module _ (w : RealWorld) where
    -- an action begins
    pub within_begun : (es : List Event) (k : ℕ) (a : Action) → IsWorldWithin c es w → IsWorldWithin c (es ++ Begin k a ∷ []) (after_begin c w a)
    within_begun es k a within =
        within_more es (Begin k a) w (after_begin c w a) within (λ n. within.stands n ∙ ap (standing_by c) (sym (unsigned n es (Begin k a) refl)))
        (λ r n cell h. runs r n a h) (λ r n cell h. promoted r n a h) within.few
      where
        sent : (r n leaf source target : ℕ) (some same : Bool) → is_same_cell r n leaf target ≡ same
            → is_there ((if some then with_changed_cell leaf target (λ x. real.Started) w.cells else w.cells) r n) ≡ true
            → (opens c r n (Begin k (MigrateTo leaf source target)) ≡ true)
            ⊎ ((is_there (w.cells r n) ≡ true) × (closes c r n (Begin k (MigrateTo leaf source target)) ≡ false))
        sent r n leaf source target false same e h = inr (h, refl)
        sent r n leaf source target true true e h = inl (rw e refl)
        sent r n leaf source target true false e h = inr (rw e at h, refl)

        runs : (r n : ℕ) (a : Action) → is_there (begun c a w.cells r n) ≡ true
            → (opens c r n (Begin k a) ≡ true) ⊎ ((is_there (w.cells r n) ≡ true) × (closes c r n (Begin k a) ≡ false))
        runs r n (MigrateTo leaf source target) h = sent r n leaf source target (is_there (found_at c w.cells leaf source)) (is_same_cell r n leaf target) refl h
        runs r n (Fence node) h = inr (h, refl)
        runs r n (Probe leaf node) h = inr (h, refl)
        runs r n (Operation op leaf node interval role) h = inr (h, refl)
        runs r n (MigrateFrom leaf source target) h = inr (h, refl)

        kept : (r n leaf target : ℕ) (some same : Bool) → is_same_cell r n leaf target ≡ same
            → is_really_promoted ((if some then with_changed_cell leaf target (λ x. real.Started) w.cells else w.cells) r n) ≡ true → is_really_promoted (w.cells r n) ≡ true
        kept r n leaf target false same e h = h
        kept r n leaf target true true e h = let g = rw e at h in cc
        kept r n leaf target true false e h = rw e at h

        promoted : (r n : ℕ) (a : Action) → is_really_promoted (begun c a w.cells r n) ≡ true
            → ((is_promotable c r ≡ true) × (opens_promoted c r n (Begin k a) ≡ true)) ⊎ ((is_really_promoted (w.cells r n) ≡ true) × (closes_promoted c r n (Begin k a) ≡ false))
        promoted r n (MigrateTo leaf source target) h =
            inr (kept r n leaf target (is_there (found_at c w.cells leaf source)) (is_same_cell r n leaf target) refl h, refl)
        promoted r n (Fence node) h = inr (h, refl)
        promoted r n (Probe leaf node) h = inr (h, refl)
        promoted r n (Operation op leaf node interval role) h = inr (h, refl)
        promoted r n (MigrateFrom leaf source target) h = inr (h, refl)

    -- an action ends
    module _ (es : List Event) (k : ℕ) (a : Action) (within : IsWorldWithin c es w) where
      abbrev m : ℕ
      m = moment_of es

      quiet_stands : (n : ℕ) (o : Outcome) → IsQuiet o → w.nodes n ≡ standing_by c (last_sign n (es ++ Ended k a o m ∷ []))
      quiet_stands n o q = within.stands n ∙ ap (standing_by c) (sym (unsigned n es (Ended k a o m) (quiet_sign n k m o q a)))

      true_stands : (a : Action) (n : ℕ) → nodes_after c w fate.True a n ≡ standing_by c (last_sign n (es ++ Ended k a (Code (true_code c a w.cells)) m ∷ []))
      true_stands (Fence node) n = on (node == n) refl where
        on : (t : Bool) → (node == n) ≡ t → (if t then standing.Off else w.nodes n) ≡ standing_by c (last_sign n (es ++ Ended k (Fence node) (Code 0) m ∷ []))
        on true e = ap (standing_by c) (sym (signed n es (Ended k (Fence node) (Code 0) m) was_fenced (rw e refl)))
        on false e = within.stands n ∙ ap (standing_by c) (sym (unsigned n es (Ended k (Fence node) (Code 0) m) (rw e refl)))
      true_stands (Probe leaf node) n = within.stands n ∙ ap (standing_by c) (sym (unsigned n es (Ended k (Probe leaf node) (Code (true_code c (Probe leaf node) w.cells)) m) refl))
      true_stands (Operation op leaf node interval role) n =
          within.stands n
          ∙ ap (standing_by c) (sym (unsigned n es (Ended k (Operation op leaf node interval role) (Code (true_code c (Operation op leaf node interval role) w.cells)) m) refl))
      true_stands (MigrateTo leaf source target) n =
          within.stands n ∙ ap (standing_by c) (sym (unsigned n es (Ended k (MigrateTo leaf source target) (Code 0) m) refl))
      true_stands (MigrateFrom leaf source target) n =
          within.stands n ∙ ap (standing_by c) (sym (unsigned n es (Ended k (MigrateFrom leaf source target) (Code 0) m) refl))

      -- its outcome
      abbrev outcome_of : Fate → Outcome
      outcome_of fate.True = Code (true_code c a w.cells)
      outcome_of fate.DoneBadly = Code 1
      outcome_of fate.Undone = Code 1
      outcome_of fate.TimedOut = TimedOut

      within_end : (f : Fate) → (is_fault f ≡ true → w.faults < 16) → IsWorldWithin c (es ++ Ended k a (outcome_of f) m ∷ []) (after_end c w f a)
      within_end fate.True early =
          within_more es (Ended k a (Code (true_code c a w.cells)) m) w (after_end c w fate.True a) within (true_stands a)
          (λ r n cell. running.true_stays c w.cells r n k m cell a) (λ r n cell. promoting.true_stays c w.cells r n k m cell a) within.few
      within_end fate.DoneBadly early =
          within_more es (Ended k a (Code 1) m) w (after_end c w fate.DoneBadly a) within (λ n. quiet_stands n (Code 1) failed)
          (λ r n cell. running.bad_stays c w.cells r n k m cell a) (λ r n cell. promoting.bad_stays c w.cells r n k m cell a)
          (omega (arith, early refl))
      within_end fate.Undone early =
          within_more es (Ended k a (Code 1) m) w (after_end c w fate.Undone a) within (λ n. quiet_stands n (Code 1) failed)
          (λ r n cell. running.undone_stays c w.cells r n k m cell a) (λ r n cell. promoting.undone_stays c w.cells r n k m cell a)
          (omega (arith, early refl))
      within_end fate.TimedOut early =
          within_more es (Ended k a TimedOut m) w (after_end c w fate.TimedOut a) within (λ n. quiet_stands n TimedOut late)
          (λ r n cell. running.late_stays c w.cells r n k m cell a) (λ r n cell. promoting.late_stays c w.cells r n k m cell a)
          (omega (arith, early refl))

    -- actions are gone with their node
    within_gone : (ended : ℕ × Action → Event) → ((p : ℕ × Action) → (m : ℕ) × (ended p ≡ Ended p.0 p.1 Gone m)) → (ps : List (ℕ × Action)) (es : List Event)
        → IsWorldWithin c es w → IsWorldWithin c (es ++ map ended ps) w
    within_gone ended are [] es within = rw (append-nil es) within
    within_gone ended are (p ∷ ps) es within =
        let m = (are p).0 in
        let e = Ended p.0 p.1 Gone m in
        let here : IsWorldWithin c (es ++ e ∷ []) w =
        within_more es e w w within (λ n. within.stands n ∙ ap (standing_by c) (sym (unsigned n es e (quiet_sign n p.0 m Gone gone p.1))))
        (λ r n cell h. inr (h, quiet_closes c r n p.0 m Gone gone p.1)) (λ r n cell h. inr (h, quiet_demotes c r n p.0 m Gone gone p.1)) within.few in
        let on = within_gone ended are ps (es ++ e ∷ []) here in
        let same : (es ++ e ∷ []) ++ map ended ps ≡ es ++ ended p ∷ map ended ps = rw ((are p).1) (append_assoc es (e ∷ []) (map ended ps)) in
        rw same at on

    -- a node leaves
    within_left : (es : List Event) (node : ℕ) → w.faults < 16 → IsWorldWithin c es w → IsWorldWithin c (es ++ Lost node ∷ []) (after_leaving c w node)
    within_left es node early within =
        within_more es (Lost node) w (after_leaving c w node) within (λ n. stands n (node == n) refl)
        (λ r n cell h. runs r n c.properties.fencing (node == n) refl refl h) (λ r n cell h. promoted r n c.properties.fencing (node == n) refl refl h)
        (omega (arith, early))
      where
        stands : (n : ℕ) (t : Bool) → (node == n) ≡ t
            → (if t then (if c.properties.fencing then standing.Lost else standing.Off) else w.nodes n) ≡ standing_by c (last_sign n (es ++ Lost node ∷ []))
        stands n true e = ap (standing_by c) (sym (signed n es (Lost node) was_lost (rw e refl)))
        stands n false e = within.stands n ∙ ap (standing_by c) (sym (unsigned n es (Lost node) (rw e refl)))

        runs : (r n : ℕ) (fencing t : Bool) → c.properties.fencing ≡ fencing → (node == n) ≡ t
            → is_there ((if fencing then w.cells else without_node node w.cells) r n) ≡ true
            → (opens c r n (Lost node) ≡ true) ⊎ ((is_there (w.cells r n) ≡ true) × (closes c r n (Lost node) ≡ false))
        runs r n true t f e h = inr (h, rw (f, and-false (node == n)) refl)
        runs r n false true f e h = let g = rw e at h in cc
        runs r n false false f e h = inr (rw e at h, rw e refl)

        promoted : (r n : ℕ) (fencing t : Bool) → c.properties.fencing ≡ fencing → (node == n) ≡ t
            → is_really_promoted ((if fencing then w.cells else without_node node w.cells) r n) ≡ true
            → ((is_promotable c r ≡ true) × (opens_promoted c r n (Lost node) ≡ true))
            ⊎ ((is_really_promoted (w.cells r n) ≡ true) × (closes_promoted c r n (Lost node) ≡ false))
        promoted r n true t f e h = inr (h, rw (f, and-false (node == n)) refl)
        promoted r n false true f e h = let g = rw e at h in cc
        promoted r n false false f e h = inr (rw e at h, rw e refl)

    -- a node joins
    within_joined : (es : List Event) (node : ℕ) → w.faults < 16 → IsWorldWithin c es w → IsWorldWithin c (es ++ Up node ∷ []) (after_joining c w node)
    within_joined es node early within =
        within_more es (Up node) w (after_joining c w node) within (λ n. stands n (node == n) refl)
        (λ r n cell h. runs r n (node == n) refl h) (λ r n cell h. promoted r n (node == n) refl h) (omega (arith, early))
      where
        stands : (n : ℕ) (t : Bool) → (node == n) ≡ t → (if t then standing.Up else w.nodes n) ≡ standing_by c (last_sign n (es ++ Up node ∷ []))
        stands n true e = ap (standing_by c) (sym (signed n es (Up node) joined (rw e refl)))
        stands n false e = within.stands n ∙ ap (standing_by c) (sym (unsigned n es (Up node) (rw e refl)))

        runs : (r n : ℕ) (t : Bool) → (node == n) ≡ t → is_there (if t then real.Off else w.cells r n) ≡ true
            → (opens c r n (Up node) ≡ true) ⊎ ((is_there (w.cells r n) ≡ true) × (closes c r n (Up node) ≡ false))
        runs r n true e h = cc
        runs r n false e h = inr (h, refl)

        promoted : (r n : ℕ) (t : Bool) → (node == n) ≡ t → is_really_promoted (if t then real.Off else w.cells r n) ≡ true
            → ((is_promotable c r ≡ true) × (opens_promoted c r n (Up node) ≡ true))
            ⊎ ((is_really_promoted (w.cells r n) ≡ true) × (closes_promoted c r n (Up node) ≡ false))
        promoted r n true e h = cc
        promoted r n false e h = inr (h, refl)

  -- a turn
  module _ (number : ℕ) (w : RealWorld) where
    within_leaves : (es : List Event) (flight : List (ℕ × Action)) (node count : ℕ) → IsWorldWithin c es w → next_turn c number w count ≡ turn.Leaves node
        → IsWorldWithin c (es ++ (map (end_event c es flight Gone) (filter (λ (p : ℕ × Action). is_on node p.1) flight) ++ Lost node ∷ [])) (after_leaving c (world_at_turn c number w) node)
    within_leaves es flight node count within e =
        let so = leaving c number w count node e in
        let ps = filter (λ (p : ℕ × Action). is_on node p.1) flight in
        let after = within_gone (world_at_turn c number w) (end_event c es flight Gone) (λ p. (moment_of es, refl)) ps es (within_turned number w es within) in
        let left = within_left (world_at_turn c number w) (es ++ map (end_event c es flight Gone) ps) node so.early after in
        rw (append_assoc es (map (end_event c es flight Gone) ps) (Lost node ∷ [])) at left

    within_joins : (es : List Event) (node count : ℕ) → IsWorldWithin c es w → next_turn c number w count ≡ turn.Joins node
        → IsWorldWithin c (es ++ Up node ∷ []) (after_joining c (world_at_turn c number w) node)
    within_joins es node count within e = within_joined (world_at_turn c number w) es node (joining c number w count node e).early (within_turned number w es within)

    within_ends : (es : List Event) (flight : List (ℕ × Action)) (count place : ℕ) (f : Fate) (k : ℕ) (a : Action) → IsWorldWithin c es w → AreInFlightByNumber es flight
        → next_turn c number w count ≡ turn.Ends place f → slice_get flight place ≡ Some (k, a)
        → IsWorldWithin c (es ++ added_by c es flight (answer_by_fate c (world_at_turn c number w) f k a)) (after_end c (world_at_turn c number w) f a)
    within_ends es flight count place f k a within is e at = on f (ending c number w count place f e)
      where
        on : (f : Fate) → (is_fault f ≡ true → w.faults < 16)
            → IsWorldWithin c (es ++ added_by c es flight (answer_by_fate c (world_at_turn c number w) f k a)) (after_end c (world_at_turn c number w) f a)
        on fate.True early =
            rw (one_end es flight place k a (Code (true_code c a (world_at_turn c number w).cells)) is at)
            (within_end (world_at_turn c number w) es k a (within_turned number w es within) fate.True early)
        on fate.DoneBadly early =
            rw (one_end es flight place k a (Code 1) is at) (within_end (world_at_turn c number w) es k a (within_turned number w es within) fate.DoneBadly early)
        on fate.Undone early =
            rw (one_end es flight place k a (Code 1) is at) (within_end (world_at_turn c number w) es k a (within_turned number w es within) fate.Undone early)
        on fate.TimedOut early =
            rw (one_end es flight place k a TimedOut is at) (within_end (world_at_turn c number w) es k a (within_turned number w es within) fate.TimedOut early)

-- so at every moment
pub always : (c : Cluster) (number : ℕ) (first es : List Event) (w : RealWorld) → Lives c number first es w → IsWorldWithin c es w
always c number first _ _ at_first = within_first c first
always c number first _ _ (an_action_begins es w k a life) = within_begun c w es k a (always c number first es w life)
always c number first _ _ (leaves es w flight node life is busy e) = within_leaves c number w es flight node (length flight) (always c number first es w life) e
always c number first _ _ (joins es w flight node life is busy e) = within_joins c number w es node (length flight) (always c number first es w life) e
always c number first _ _ (ends es w flight place f k a life is e at) =
    within_ends c number w es flight (length flight) place f k a (always c number first es w life) is e at
