-- The actions of a plan are of its cluster.
use Rattle.std.proofs.Common.{arith, ◌≡◌, ◌≢◌, ◌<◌, ◌==◌, if◌then◌else◌, ℕ, suc, Bool, true, false, Option, Some, None, List, [], ◌∷◌, length, Contains, inl, inr, ◌⊎◌, refl, sym, ap, slice_get}
use Rattle.std.specs.Prelude.{find}
use Rattle.std.specs.Option.{option_map_or}
use Rattle.std.proofs.lemmas.Bool.{eq-eqb, eqb-true}
use Rattle.lemmas.proofs.Members.{head_or_rest, in_none}
use Rattle.cluster_types.specs.declared.cluster.Cluster.{Cluster}
use Rattle.cluster_types.specs.declared.journal.Action.{Action}
use Rattle.cluster_types.specs.declared.journal.Action.TheVariants.{Operation}
use Rattle.cluster_types.specs.declared.journal.Event.{Event}
use Rattle.cluster_types.specs.declared.leaf.Leaf.{Leaf}
use Rattle.cluster_types.specs.declared.leaf.Monitor.{Monitor as MonitorOf}
use Rattle.cluster_types.specs.declared.leaf.Op.TheVariants as op
use Rattle.cluster_types.specs.declared.leaf.Role.TheVariants as role
use Rattle.cluster_types.specs.AnswersThatApply.{role_of_interval}
use Rattle.cluster_types.specs.Fields.{monitors}
use Rattle.cluster_types.specs.NeededActions.{NeededBeforeMigration, Migrates, Needed, fence, kept, monitor, probe, sent, step, taken_in}
use Rattle.cluster_types.specs.Tables.{Targets}
use Rattle.cluster_types.specs.Valid.{IsValid}
use Rattle.planner.proofs.ActionKinds.{AreApart}
use Rattle.plan_laws.proofs.CellSteps.{is_step}
use Rattle.written_runs.specs.Fitting.{IntervalsFit}
use Rattle.input_reading.specs.PrintedLines.{IsActionOf, IsCellOf, IsNumber}
use Rattle.written_runs.proofs.Each.{read_in}

-- of monitors of different intervals each is found by its own
role_found : (ms : List MonitorOf) (m : MonitorOf) → AreApart ms → Contains ms m → m.role ≡ role_of_interval ms m.interval_ms
role_found [] m apart h = absurd (in_none m h)
role_found (x ∷ ms) m apart h =
    on (x.interval_ms == m.interval_ms) refl (head_or_rest x ms m h) (role_found ms m (λ i j d l k. apart (suc i) (suc j) d (omega arith) (omega arith)))
  where
    later : Contains ms m → x.interval_ms ≢ m.interval_ms
    later (k, l, e) = rw e at (apart 0 (suc k) m (omega arith) (omega arith))

    on : (b : Bool) → (x.interval_ms == m.interval_ms) ≡ b → (x ≡ m) ⊎ Contains ms m → (Contains ms m → m.role ≡ role_of_interval ms m.interval_ms)
        → m.role ≡ option_map_or (λ (v : MonitorOf). v.role) (if b then Some x else find (λ v. v.interval_ms == m.interval_ms) ms) role.Started
    on true e (inl same) rest = ap (λ (v : MonitorOf). v.role) (sym same)
    on true e (inr among) rest = absurd (later among (eqb-true x.interval_ms m.interval_ms e))
    on false e (inl same) rest = let f : (x.interval_ms == m.interval_ms) ≡ true = eq-eqb x.interval_ms m.interval_ms (ap (λ (v : MonitorOf). v.interval_ms) same) in cc
    on false e (inr among) rest = rest among

-- what is said of a monitor of the cluster
record IsMonitorOf (ms : List MonitorOf) (m : MonitorOf) : Type 0 where
  interval : IsNumber m.interval_ms
  role : m.role ≡ role_of_interval ms m.interval_ms

module _ (c : Cluster) (valid : IsValid c) (fit : IntervalsFit c) where
  monitor_fits : (r : ℕ) (m : MonitorOf) → Contains (monitors c r) m → IsMonitorOf (monitors c r) m
  monitor_fits r m h = by (slice_get c.leaves r) refl h
    where
      by : (found : Option Leaf) → slice_get c.leaves r ≡ found → Contains (option_map_or (λ (leaf : Leaf). leaf.monitors) found []) m
          → IsMonitorOf (option_map_or (λ (leaf : Leaf). leaf.monitors) found []) m
      by None e h = absurd (in_none m h)
      by (Some leaf) e h =
          let among = read_in c.leaves r leaf e in
          let is = valid.leaves leaf among in
          record {
            interval = record { low = is.intervals m h; high = fit leaf m among h };
            role = role_found leaf.monitors m is.all_differ h;
          }

  module _ (es : List Event) (targets : Targets) where
    first_fits : (a : Action) → NeededBeforeMigration c es targets a → IsActionOf c a
    first_fits _ (fence n l unclean) = l
    first_fits _ (probe r n h l unprobed) = record { leaf = h; node = l }
    first_fits _ (step r n op.Start h l gets) = (record { leaf = h; node = l }, refl, refl)
    first_fits _ (step r n op.Stop h l gets) = (record { leaf = h; node = l }, refl, refl)
    first_fits _ (step r n op.Promote h l gets) = (record { leaf = h; node = l }, refl, refl)
    first_fits _ (step r n op.Demote h l gets) = (record { leaf = h; node = l }, refl, refl)
    first_fits _ (step r n op.Monitor h l gets) = let e : false ≡ true = (is_step c es targets r n op.Monitor gets).fitting in absurd (let f : ⊥ = cc in f)
    first_fits _ (monitor r n m h l among needs) = let is = monitor_fits r m among in (record { leaf = h; node = l }, is.interval, is.role)

    migrating_cells : (r n m : ℕ) → Migrates c es targets r n m → IsCellOf c r n × (m < length c.nodes)
    migrating_cells r n m is =
        let from = first_fits (Operation op.Stop r n 0 role.Started) is.stopped in
        let to = first_fits (Operation op.Start r m 0 role.Started) is.started in
        (from.0, (to.0).node)

    pub needed_fits : (a : Action) → Needed c es targets a → IsActionOf c a
    needed_fits a (kept _ first stays) = first_fits a first
    needed_fits _ (sent r n m is) = migrating_cells r n m is
    needed_fits _ (taken_in r n m is) = migrating_cells r n m is
