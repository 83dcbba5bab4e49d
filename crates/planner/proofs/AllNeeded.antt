-- What is listed is what has to be done.
use Rattle.std.proofs.Common.{arith, ◌≡◌, ◌≢◌, ◌<◌, ◌==◌, ◌&&◌, ◌||◌, ◌↔◌, not, ℕ, Bool, true, false, if◌then◌else◌, Option, Some, None, List, [], ◌∷◌, ◌++◌, length, map, filter, refl, sym, ◌∙◌, ap, subst, ◌⊎◌, inl, inr, Contains}
use Rattle.std.specs.List.{flat_map, range_with_len}
use Rattle.std.proofs.lemmas.Bool.{and_from, both_ways, eq-eqb, ne_eqb, not-true, not_from_false}
use Rattle.std.proofs.lemmas.List.Elements.{Contains-append_left, Contains-append_right, Contains-append_cases}
use Rattle.lemmas.proofs.Booleans.{later, sooner}
use Rattle.lemmas.proofs.Members.{at_head, head_or_rest, in_filter, in_flat, in_if, in_map, in_none, in_range, in_rest, of_filter, of_flat, of_map, of_range}
use Rattle.cluster_types.specs.declared.cluster.Cluster.{Cluster}
use Rattle.cluster_types.specs.declared.journal.Action.{Action}
use Rattle.cluster_types.specs.declared.journal.Action.TheVariants.{Fence, Probe, Operation, MigrateTo, MigrateFrom}
use Rattle.cluster_types.specs.declared.journal.Event.{Event}
use Rattle.cluster_types.specs.declared.leaf.Monitor.{Monitor as MonitorOf}
use Rattle.cluster_types.specs.declared.leaf.Op.{Op}
use Rattle.cluster_types.specs.declared.leaf.Op.TheVariants as op
use Rattle.cluster_types.specs.declared.leaf.Role.TheVariants as role
use Rattle.cluster_types.specs.CellStates.{cell_state, is_monitor_running}
use Rattle.cluster_types.specs.Fields.{monitors}
use Rattle.cluster_types.specs.NeededActions.{NeededBeforeMigration, GetsAnyStep, GetsStep, GetsStepAnywhere, Migrates, Needed, NeedsMonitor, fence, is_monitor_for, kept, monitor, probe, sent, step, steps_of, taken_in}
use Rattle.cluster_types.specs.Pins.{is_pinned, is_unprobed_state}
use Rattle.cluster_types.specs.Precedence.{is_same_op}
use Rattle.cluster_types.specs.Rights.{is_to_be_fenced}
use Rattle.cluster_types.specs.Tables.{Targets}
use Rattle.cluster_types.proofs.NeededLaws.{bounds_of_first}
use Rattle.loops.specs.FirstLoops.{AllJoin, AllOrder}
use Rattle.loops.proofs.StepPlaces.{same_op}
use Rattle.planner.specs.Inner.Actions.{cell_actions, free_leaf_actions, includes_op, is_elsewhere, is_filled, is_undisturbed, leaves_actions, migrations_of, migrations_to, leaf_monitor, monitors_in, probes_in, migration_source, stays_needed, step_action, steps_in, wanted}
use Rattle.planner.specs.CycledCells.{MarkedCells}
use Rattle.planner.specs.declared.needed_actions.steps.CellNeed.{CellNeed}
use Rattle.planner.proofs.Conditions.{in_unless, of_if, of_one, of_unless}
use Rattle.planner.proofs.Harmless.{free_of, is_free_where}
use Rattle.planner.proofs.SentFrom.{is_sent_from, sent_from}
use Rattle.planner.proofs.StepTests.{has_it, it_is}
use Rattle.planner.proofs.StepsGot.{Tells, any_got, gets, gets_any, got}
use Rattle.planner.proofs.Watches.{needs_it, runs, wanted_is}

abbrev leaf_of : Action → ℕ
leaf_of (Operation o r n interval role) = r
leaf_of _ = 0

abbrev node_of : Action → ℕ
node_of (Operation o r n interval role) = n
node_of _ = 0

abbrev word_of : Action → Op
word_of (Operation o r n interval role) = o
word_of _ = op.Monitor

-- a leaf that is sent to a node is sent from another
pub record Elsewhere (o : Option ℕ) (n : ℕ) : Type 0 where
  pub source : ℕ
  pub is : o ≡ Some source
  pub away : (source == n) ≡ false

elsewhere_of : (o : Option ℕ) (n : ℕ) → is_elsewhere o n ≡ true → Elsewhere o n
elsewhere_of None n h = cc
elsewhere_of (Some s) n h = record { source = s; is = refl; away = not-true (s == n) h }

waits : (any r : Bool) → (any || not r) ≡ true → (r ≡ false) ⊎ (any ≡ true)
waits true r h = inr refl
waits false true h = cc
waits false false h = inl refl

waiting : (any r : Bool) → (r ≡ false) ⊎ (any ≡ true) → (any || not r) ≡ true
waiting true r h = refl
waiting false true (inl e) = cc
waiting false true (inr e) = cc
waiting false false h = refl

module _ (c : Cluster) (es : List Event) (targets : Targets) where
  stop_of : (r n : ℕ) → NeededBeforeMigration c es targets (Operation op.Stop r n 0 role.Started) → GetsStep c es targets r n op.Stop
  stop_of r n (step _ _ _ h l g) = g

  start_of : (r n : ℕ) → NeededBeforeMigration c es targets (Operation op.Start r n 0 role.Started) → GetsStep c es targets r n op.Start
  start_of r n (step _ _ _ h l g) = g

  -- what gets a step isn't pinned
  managed_of : (r n : ℕ) (o : Op) → GetsStep c es targets r n o → is_pinned c es r ≡ false
  managed_of r n o (inl g) = (of_unless (is_pinned c es r) (steps_of (cell_state c r n es) (targets r n) true) o g.1).fails
  managed_of r n o (inr g) = (of_unless (is_pinned c es r) (steps_of (cell_state c r n es) (targets r n) false) o g.1).fails

  module _ (need : ℕ → ℕ → CellNeed) (marked : MarkedCells) (told : Tells c es targets need marked) (ordered : AllOrder c) (joined : AllJoin c)
      (touched free : ℕ → Bool) (known : (r : ℕ) → r < length c.leaves → touched r ≡ true ↔ GetsStepAnywhere c es targets r)
      (free_is : (r : ℕ) → r < length c.leaves → free r ≡ is_undisturbed c touched r) where
    abbrev source : ℕ → Option ℕ
    source r = migration_source c need marked (free r) r

    from_source : (r n m : ℕ) → Migrates c es targets r n m → source r ≡ Some n
    from_source r n m g =
        let b = bounds_of_first c es targets op.Stop r n 0 role.Started g.stopped in
        is_sent_from c es targets need marked told r b.0 n (free r) record {
          allowed = g.allowed;
          uncloned = g.uncloned;
          not_promotable = g.not_promotable;
          is_free =
              free_is r b.0
              ∙ is_free_where c es targets touched known r ordered joined record { orders = g.orders; colocations = g.colocations };
          within = b.1;
          running = g.running;
          nowhere_else = g.nowhere_else;
          stopped = stop_of r n g.stopped;
        }

    migrates : (r n m : ℕ) → r < length c.leaves → m < length c.nodes → source r ≡ Some n → (n == m) ≡ false → GetsStep c es targets r m op.Start
        → Migrates c es targets r n m
    migrates r n m lr lm e away start =
        let l = sent_from c es targets need marked told r lr n (free r) e in
        let f = free_of c es targets touched known r ordered joined (sym (free_is r lr) ∙ l.is_free) in
        record {
          allowed = l.allowed;
          uncloned = l.uncloned;
          not_promotable = l.not_promotable;
          not_pinned = managed_of r n op.Stop l.stopped;
          running = l.running;
          nowhere_else = l.nowhere_else;
          elsewhere = λ s. both_ways (n == m) away (eq-eqb n m (sym s));
          stopped = step r n op.Stop lr l.within l.stopped;
          started = step r m op.Start lr lm start;
          orders = f.orders;
          colocations = f.colocations;
        }

    -- the monitors of a cell
    watched_by : (r n : ℕ) → r < length c.leaves → n < length c.nodes → monitors_in c need marked r n
        ≡ (if is_pinned c es r then [] else filter (needs_it (targets r n) (is_filled (steps_in need marked r n)) (runs c es r n)) (monitors c r))
    watched_by r n lr ln =
        ap (λ (w : CellNeed). if w.pinned then [] else wanted w.target (is_filled (steps_in need marked r n)) w.running (monitors c r)) (told.needs r n lr ln)
        ∙ ap (λ ms. if is_pinned c es r then [] else ms) (wanted_is (targets r n) (is_filled (steps_in need marked r n)) (runs c es r n) (monitors c r))

    watch_in : (r n : ℕ) (m : MonitorOf) → r < length c.leaves → n < length c.nodes → Contains (monitors c r) m → NeedsMonitor c es targets r n m
        → Contains (monitors_in c need marked r n) m
    watch_in r n m lr ln h (free, of_role, why) =
        let any : Bool = is_filled (steps_in need marked r n) in
        let late : (is_monitor_running r n m.interval_ms es ≡ false) ⊎ (is_filled (steps_in need marked r n) ≡ true)
        = elim why [ inl e ↦ inl e | inr g ↦ inr (any_got c es targets need marked told r n lr ln g) ] in
        subst (λ (ms : List MonitorOf). Contains ms m) (sym (watched_by r n lr ln))
        (in_unless (is_pinned c es r) _ m free
        (in_filter (needs_it (targets r n) (is_filled (steps_in need marked r n)) (runs c es r n)) (monitors c r) m h
        (and_from (is_monitor_for m.role (targets r n)) _ of_role
        (waiting (is_filled (steps_in need marked r n)) (is_monitor_running r n m.interval_ms es) late))))

    watch_of : (r n : ℕ) (m : MonitorOf) → r < length c.leaves → n < length c.nodes → Contains (monitors_in c need marked r n) m
        → Contains (monitors c r) m × NeedsMonitor c es targets r n m
    watch_of r n m lr ln h =
        let u = of_unless (is_pinned c es r) _ m (subst (λ (ms : List MonitorOf). Contains ms m) (watched_by r n lr ln) h) in
        let f = of_filter (needs_it (targets r n) (is_filled (steps_in need marked r n)) (runs c es r n)) (monitors c r) m u.among in
        let why : (is_monitor_running r n m.interval_ms es ≡ false) ⊎ GetsAnyStep c es targets r n
        = elim (waits (is_filled (steps_in need marked r n)) (is_monitor_running r n m.interval_ms es)
        (later (is_monitor_for m.role (targets r n)) _ f.passes)) [
          | inl e ↦ inl e
          | inr g ↦ inr (gets_any c es targets need marked told r n lr ln g)
        ] in
        (f.among, (u.fails, sooner (is_monitor_for m.role (targets r n)) _ f.passes, why))

    -- where the listed ones stand
    abbrev all : List Action
    all = leaves_actions c need marked free

    in_leaf : (r : ℕ) (a : Action) → r < length c.leaves → Contains (free_leaf_actions c need marked (free r) r) a → Contains all a
    in_leaf r a lr h =
        in_flat (λ r. free_leaf_actions c need marked (free r) r) (range_with_len 0 (length c.leaves)) r a
        (in_range 0 (length c.leaves) r (omega arith) (omega arith)) h

    in_cell : (r n : ℕ) (a : Action) → r < length c.leaves → n < length c.nodes → Contains (cell_actions c need marked (source r) r n) a → Contains all a
    in_cell r n a lr ln h =
        in_leaf r a lr
        (Contains-append_left (flat_map (cell_actions c need marked (source r) r) (range_with_len 0 (length c.nodes))) (migrations_of c need marked (source r) r) a
        (in_flat (cell_actions c need marked (source r) r) (range_with_len 0 (length c.nodes)) n a
        (in_range 0 (length c.nodes) n (omega arith) (omega arith)) h))

    in_migrations : (r n m : ℕ) (a : Action) → Migrates c es targets r n m → Contains (MigrateTo r n m ∷ MigrateFrom r n m ∷ []) a → Contains all a
    in_migrations r n m a g h =
        let b = bounds_of_first c es targets op.Stop r n 0 role.Started g.stopped in
        let e = bounds_of_first c es targets op.Start r m 0 role.Started g.started in
        let lm : m < length c.nodes = e.1 in
        let here : not (n == m) && includes_op op.Start (steps_in need marked r m) ≡ true
        = and_from (not (n == m)) _ (not_from_false (n == m) (ne_eqb n m (λ s. g.elsewhere (sym s))))
        (has_it op.Start (steps_in need marked r m) (got c es targets need marked told r m op.Start b.0 lm (start_of r m g.started))) in
        let to : Contains (migrations_to need marked r n m) a = rw here h in
        let among : Contains (migrations_of c need marked (Some n) r) a
        = in_flat (migrations_to need marked r n) (range_with_len 0 (length c.nodes)) m a (in_range 0 (length c.nodes) m (omega arith) (omega arith)) to in
        in_leaf r a b.0
        (Contains-append_right (flat_map (cell_actions c need marked (source r) r) (range_with_len 0 (length c.nodes))) (migrations_of c need marked (source r) r) a
        (subst (λ (o : Option ℕ). Contains (migrations_of c need marked o r) a) (sym (from_source r n m g)) among))

    module _ (fences : List Action) (fenced : (n : ℕ) → n < length c.nodes → is_to_be_fenced c n es ≡ true → Contains fences (Fence n))
        (only : (a : Action) → Contains fences a → Needed c es targets a) where
      step_kept : (r n : ℕ) (o : Op) → r < length c.leaves → n < length c.nodes → GetsStep c es targets r n o
          → ((s t m : ℕ) → Migrates c es targets s t m → Operation o r n 0 role.Started ≢ Operation op.Start s m 0 role.Started)
          → stays_needed (is_elsewhere (source r) n) o ≡ true
      step_kept r n o lr ln g k = on (is_elsewhere (source r) n && is_same_op op.Start o) refl where
        on : (b : Bool) → (is_elsewhere (source r) n && is_same_op op.Start o) ≡ b → not b ≡ true
        on false e = refl
        on true e =
            let w = elsewhere_of (source r) n (sooner (is_elsewhere (source r) n) _ e) in
            let same : op.Start ≡ o = same_op op.Start o (later (is_elsewhere (source r) n) _ e) in
            let start : GetsStep c es targets r n op.Start = subst (GetsStep c es targets r n) (sym same) g in
            absurd (k r w.source n (migrates r w.source n lr ln w.is w.away start) (ap (λ (p : Op). Operation p r n 0 role.Started) (sym same)))

      first_there : (a : Action) → NeededBeforeMigration c es targets a → ((r n m : ℕ) → Migrates c es targets r n m → a ≢ Operation op.Start r m 0 role.Started)
          → Contains (fences ++ all) a
      first_there _ (fence n ln h) k = Contains-append_left fences all (Fence n) (fenced n ln h)
      first_there _ (probe r n lr ln h) k =
          let e : is_unprobed_state (need r n).state ≡ true = ap (λ (w : CellNeed). is_unprobed_state w.state) (told.needs r n lr ln) ∙ h in
          Contains-append_right fences all (Probe r n) (in_cell r n (Probe r n) lr ln
          (Contains-append_left (probes_in need r n) _ (Probe r n) (in_if (is_unprobed_state (need r n).state) (Probe r n) e)))
      first_there _ (step r n o lr ln g) k =
          let there : Contains (map (step_action r n) (filter (stays_needed (is_elsewhere (source r) n)) (steps_in need marked r n))) (step_action r n o)
          = in_map (step_action r n) (filter (stays_needed (is_elsewhere (source r) n)) (steps_in need marked r n)) o
          (in_filter (stays_needed (is_elsewhere (source r) n)) (steps_in need marked r n) o (got c es targets need marked told r n o lr ln g)
          (step_kept r n o lr ln g k)) in
          Contains-append_right fences all (step_action r n o) (in_cell r n (step_action r n o) lr ln
          (Contains-append_right (probes_in need r n) _ (step_action r n o)
          (Contains-append_left _ (map (leaf_monitor r n) (monitors_in c need marked r n)) (step_action r n o) there)))
      first_there _ (monitor r n m lr ln h g) k =
          Contains-append_right fences all (leaf_monitor r n m) (in_cell r n (leaf_monitor r n m) lr ln
          (Contains-append_right (probes_in need r n) _ (leaf_monitor r n m)
          (Contains-append_right (map (step_action r n) (filter (stays_needed (is_elsewhere (source r) n)) (steps_in need marked r n))) _ (leaf_monitor r n m)
          (in_map (leaf_monitor r n) (monitors_in c need marked r n) m (watch_in r n m lr ln h g)))))

      pub there : (a : Action) → Needed c es targets a → Contains (fences ++ all) a
      there a (kept _ f k) = first_there a f k
      there _ (sent r n m g) =
          Contains-append_right fences all (MigrateTo r n m)
          (in_migrations r n m (MigrateTo r n m) g (at_head (MigrateTo r n m) (MigrateFrom r n m ∷ []) (MigrateTo r n m) refl))
      there _ (taken_in r n m g) =
          Contains-append_right fences all (MigrateFrom r n m)
          (in_migrations r n m (MigrateFrom r n m) g
          (in_rest (MigrateTo r n m) (MigrateFrom r n m ∷ []) (MigrateFrom r n m) (at_head (MigrateFrom r n m) [] (MigrateFrom r n m) refl)))

      -- and each listed one is needed
      of_probe : (r n : ℕ) (a : Action) → r < length c.leaves → n < length c.nodes → Contains (probes_in need r n) a → Needed c es targets a
      of_probe r n a lr ln h =
          let t = of_if (is_unprobed_state (need r n).state) (Probe r n ∷ []) a h in
          let e : is_unprobed_state (cell_state c r n es) ≡ true
          = sym (ap (λ (w : CellNeed). is_unprobed_state w.state) (told.needs r n lr ln)) ∙ t.holds in
          subst (Needed c es targets) (of_one (Probe r n) a t.among) (kept (Probe r n) (probe r n lr ln e) (λ s t m g f. cc))

      of_step : (r n : ℕ) (a : Action) → r < length c.leaves → n < length c.nodes
          → Contains (map (step_action r n) (filter (stays_needed (is_elsewhere (source r) n)) (steps_in need marked r n))) a → Needed c es targets a
      of_step r n a lr ln h =
          let m = of_map (step_action r n) (filter (stays_needed (is_elsewhere (source r) n)) (steps_in need marked r n)) a h in
          let k = of_filter (stays_needed (is_elsewhere (source r) n)) (steps_in need marked r n) m.source m.among in
          subst (Needed c es targets) m.gives
          (kept (step_action r n m.source) (step r n m.source lr ln (gets c es targets need marked told r n m.source lr ln k.among))
          (λ s t u g e. (
          let word : m.source ≡ op.Start = ap word_of e in
          let leaf : r ≡ s = ap leaf_of e in
          let node : n ≡ u = ap node_of e in
          let from : source r ≡ Some t = rw (← leaf) at (from_source s t u g) in
          let away : (t == n) ≡ false = ne_eqb t n (λ q. g.elsewhere (sym node ∙ sym q)) in
          let sent : is_elsewhere (source r) n ≡ true = ap (λ (o : Option ℕ). is_elsewhere o n) from ∙ not_from_false (t == n) away in
          let start : is_same_op op.Start m.source ≡ true = ap (is_same_op op.Start) word in
          both_ways (is_elsewhere (source r) n && is_same_op op.Start m.source)
          (not-true (is_elsewhere (source r) n && is_same_op op.Start m.source) k.passes)
          (and_from (is_elsewhere (source r) n) _ sent start))))

      of_watch : (r n : ℕ) (a : Action) → r < length c.leaves → n < length c.nodes → Contains (map (leaf_monitor r n) (monitors_in c need marked r n)) a
          → Needed c es targets a
      of_watch r n a lr ln h =
          let m = of_map (leaf_monitor r n) (monitors_in c need marked r n) a h in
          let w = watch_of r n m.source lr ln m.among in
          subst (Needed c es targets) m.gives
          (kept (leaf_monitor r n m.source) (monitor r n m.source lr ln w.0 w.1) (λ s t u g e. (let f : op.Monitor ≡ op.Start = ap word_of e in cc)))

      of_cell : (r n : ℕ) (a : Action) → r < length c.leaves → n < length c.nodes → Contains (cell_actions c need marked (source r) r n) a → Needed c es targets a
      of_cell r n a lr ln h = elim (Contains-append_cases (probes_in need r n) _ a h) [
        | inl p ↦ of_probe r n a lr ln p
        | inr rest ↦ elim (Contains-append_cases (map (step_action r n) (filter (stays_needed (is_elsewhere (source r) n)) (steps_in need marked r n))) _ a rest) [
          | inl s ↦ of_step r n a lr ln s
          | inr w ↦ of_watch r n a lr ln w
        ]
      ]

      of_migrations : (r : ℕ) (a : Action) (o : Option ℕ) → r < length c.leaves → source r ≡ o → Contains (migrations_of c need marked o r) a → Needed c es targets a
      of_migrations r a None lr e h = absurd (in_none a h)
      of_migrations r a (Some n) lr e h =
          let f = of_flat (migrations_to need marked r n) (range_with_len 0 (length c.nodes)) a h in
          let w = of_range 0 (length c.nodes) f.source f.among in
          let lm : f.source < length c.nodes = omega arith in
          let t = of_if (not (n == f.source) && includes_op op.Start (steps_in need marked r f.source)) (MigrateTo r n f.source ∷ MigrateFrom r n f.source ∷ []) a f.gives in
          let start = it_is op.Start (steps_in need marked r f.source) (later (not (n == f.source)) _ t.holds) in
          let g = migrates r n f.source lr lm e (not-true (n == f.source) (sooner (not (n == f.source)) _ t.holds))
          (gets c es targets need marked told r f.source op.Start lr lm start) in
          elim (head_or_rest (MigrateTo r n f.source) (MigrateFrom r n f.source ∷ []) a t.among) [
            | inl s ↦ subst (Needed c es targets) s (sent r n f.source g)
            | inr rest ↦ subst (Needed c es targets) (of_one (MigrateFrom r n f.source) a rest) (taken_in r n f.source g)
          ]

      of_leaf : (r : ℕ) (a : Action) → r < length c.leaves → Contains (free_leaf_actions c need marked (free r) r) a → Needed c es targets a
      of_leaf r a lr h =
          elim (Contains-append_cases (flat_map (cell_actions c need marked (source r) r) (range_with_len 0 (length c.nodes))) (migrations_of c need marked (source r) r) a h) [
            | inl cells ↦
                let f = of_flat (cell_actions c need marked (source r) r) (range_with_len 0 (length c.nodes)) a cells in
                let w = of_range 0 (length c.nodes) f.source f.among in
                of_cell r f.source a lr (omega arith) f.gives
            | inr moves ↦ of_migrations r a (source r) lr refl moves
          ]

      pub all_needed : (a : Action) → Contains (fences ++ all) a → Needed c es targets a
      all_needed a h = elim (Contains-append_cases fences all a h) [
        | inl f ↦ only a f
        | inr rest ↦
            let f = of_flat (λ r. free_leaf_actions c need marked (free r) r) (range_with_len 0 (length c.leaves)) a rest in
            let w = of_range 0 (length c.leaves) f.source f.among in
            of_leaf f.source a (omega arith) f.gives
      ]
