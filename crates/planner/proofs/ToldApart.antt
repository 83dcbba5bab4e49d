-- By leaf, node and kind a needed action is told from all others.
use Rattle.std.proofs.Common.{arith, ◌≡◌, ◌<◌, ◌+◌, ◌-◌, ◌==◌, ◌&&◌, nat_lt, if◌then◌else◌, ℕ, Bool, true, false, List, Some, ◌↔◌, Contains, refl, sym, ap, subst, ◌∙◌}
use Rattle.std.specs.List.{slice_get}
use Rattle.std.specs.Option.{option_map_or}
use Rattle.std.proofs.lemmas.Bool.{and_from, both_ways}
use Rattle.cluster_types.specs.declared.cluster.Cluster.{Cluster}
use Rattle.cluster_types.specs.declared.journal.Action.{Action}
use Rattle.cluster_types.specs.declared.journal.Action.TheVariants.{Fence, Probe, Operation, MigrateTo, MigrateFrom}
use Rattle.cluster_types.specs.declared.journal.Event.{Event}
use Rattle.cluster_types.specs.declared.journal.Promotion.{Promotion}
use Rattle.cluster_types.specs.declared.leaf.Monitor.{Monitor as MonitorOf}
use Rattle.cluster_types.specs.declared.leaf.Op.{Op}
use Rattle.cluster_types.specs.declared.leaf.Op.TheVariants as op
use Rattle.cluster_types.specs.declared.leaf.Role.TheVariants as role
use Rattle.cluster_types.specs.declared.placement.Placed.{Placed}
use Rattle.cluster_types.specs.Fields.{monitors}
use Rattle.cluster_types.specs.NeededActions.{NeededBeforeMigration, GetsStep, Migrates, Needed, fence, kept, monitor, probe, sent, step, taken_in}
use Rattle.cluster_types.specs.Plans.{IsPlaced}
use Rattle.cluster_types.specs.Precedence.{is_migrating}
use Rattle.cluster_types.specs.Tables.{Targets, targets_of}
use Rattle.cluster_types.specs.Valid.{IsValid}
use Rattle.planner.specs.Inner.Leaves.{action_leaf}
use Rattle.plan_laws.proofs.CellSteps.{is_step}
use Rattle.plan_laws.proofs.NeededActions.{migrating}
use Rattle.plan_laws.proofs.Phases.{sent_is_migrating}
use Rattle.planner.proofs.ActionKinds.{few_apart, index_by, kind, node_of, stands_at}
use Rattle.planner.proofs.OneTarget.{one_goal, one_source}

abbrev is_watch : ℕ → Bool
is_watch k = nat_lt 6 k && nat_lt k 15

-- the action of this kind, where its leaf migrates from one node to another, if it does
abbrev action_by : Cluster → ℕ → ℕ → ℕ → ℕ → ℕ → Action
action_by c source goal r n k =
    if is_watch k then option_map_or (λ (m : MonitorOf). Operation op.Monitor r n m.interval_ms m.role) (slice_get (monitors c r) (k - 7)) (Fence n)
    else (if k == 0 then Probe r n
    else (if k == 1 then Operation op.Start r n 0 role.Started
    else (if k == 2 then Operation op.Stop r n 0 role.Started
    else (if k == 3 then Operation op.Promote r n 0 role.Started
    else (if k == 4 then Operation op.Demote r n 0 role.Started
    else (if k == 5 then MigrateTo r n goal
    else (if k == 6 then MigrateFrom r source n
    else Fence n)))))))

module _ (c : Cluster) (es : List Event) (targets : Targets) (valid : IsValid c) (source goal : ℕ) where
  abbrev back : Action → Action
  back x = action_by c source goal (action_leaf x) (node_of x) (kind c x)

  watched : (r n k i : ℕ) (m : MonitorOf) → k ≡ 7 + i → i < 8 → slice_get (monitors c r) i ≡ Some m
      → action_by c source goal r n k ≡ Operation op.Monitor r n m.interval_ms m.role
  watched r n k i m e l at =
      let w : is_watch k ≡ true = and_from (nat_lt 6 k) (nat_lt k 15) (grind arith) (grind arith) in
      let d : k - 7 ≡ i = omega arith in
      rw w (rw d (rw at refl))

  of_monitor : (r n : ℕ) (m : MonitorOf) → Contains (monitors c r) m → back (Operation op.Monitor r n m.interval_ms m.role) ≡ Operation op.Monitor r n m.interval_ms m.role
  of_monitor r n m k =
      let ms = few_apart c valid r in
      let p = stands_at (monitors c r) m ms.apart k in
      let few = ms.few in
      let low = p.within in
      watched r n (7 + index_by (monitors c r) m.interval_ms) (index_by (monitors c r) m.interval_ms) m refl (omega arith) p.at

  of_step : (r n : ℕ) (o : Op) → GetsStep c es targets r n o → back (Operation o r n 0 role.Started) ≡ Operation o r n 0 role.Started
  of_step r n op.Start g = refl
  of_step r n op.Stop g = refl
  of_step r n op.Promote g = refl
  of_step r n op.Demote g = refl
  of_step r n op.Monitor g = let e : false ≡ true = (is_step c es targets r n op.Monitor g).fitting in cc

  of_first : (x : Action) → NeededBeforeMigration c es targets x → back x ≡ x
  of_first _ (fence n h e) = refl
  of_first _ (probe r n h l e) = refl
  of_first _ (step r n o h l g) = of_step r n o g
  of_first _ (monitor r n m h l k g) = of_monitor r n m k

  -- where the leaf of the action migrates, it is from this node to that one
  abbrev Only : ℕ → Type 0
  Only r = (n m : ℕ) → Migrates c es targets r n m → (source ≡ n) × (goal ≡ m)

  pub of_needed : (x : Action) → Needed c es targets x → Only (action_leaf x) → back x ≡ x
  of_needed x (kept _ f k) only = of_first x f
  of_needed _ (sent r n m g) only = ap (λ v. MigrateTo r n v) (only n m g).1
  of_needed _ (taken_in r n m g) only = ap (λ v. MigrateFrom r v m) (only n m g).0

module _ (c : Cluster) (es : List Event) (ps : List Promotion) (placed : Placed) (actions : List Action) (valid : IsValid c) (is : IsPlaced c es ps placed)
    (needed : (a : Action) → Contains actions a ↔ Needed c es (targets_of placed.table) a) where
  -- from where to where a leaf migrates, if it does
  record Way (r : ℕ) : Type 0 where
    source : ℕ
    goal : ℕ
    only : (n m : ℕ) → Migrates c es (targets_of placed.table) r n m → (source ≡ n) × (goal ≡ m)

  way_of : (r : ℕ) → Way r
  way_of r = on (is_migrating actions r) refl
    where
      on : (b : Bool) → is_migrating actions r ≡ b → Way r
      on true h =
          let one = migrating c es (targets_of placed.table) actions (λ a. (needed a).0) r h in
          record {
            source = one.source;
            goal = one.goal;
            only = λ n m k. (
              one_source c es ps placed valid is r one.source one.goal n m one.migrates k,
              one_goal c es ps placed valid is r one.source one.goal n m one.migrates k,
            );
          }
      on false h = record {
        source = 0;
        goal = 0;
        only = λ n m k. absurd (both_ways (is_migrating actions r) h (sent_is_migrating c actions r n m ((needed (MigrateTo r n m)).1 (sent r n m k))));
      }

  pub told_apart : (x y : Action) → Needed c es (targets_of placed.table) x → Needed c es (targets_of placed.table) y → action_leaf x ≡ action_leaf y → node_of x ≡ node_of y
      → kind c x ≡ kind c y → x ≡ y
  told_apart x y h k e f g =
      let way = way_of (action_leaf x) in
      let first = of_needed c es (targets_of placed.table) valid way.source way.goal x h way.only in
      let other = of_needed c es (targets_of placed.table) valid way.source way.goal y k
      (subst (λ r. (n m : ℕ) → Migrates c es (targets_of placed.table) r n m → (way.source ≡ n) × (way.goal ≡ m)) e way.only) in
      sym first
      ∙ (ap (λ r. action_by c way.source way.goal r (node_of x) (kind c x)) e
      ∙ (ap (λ n. action_by c way.source way.goal (action_leaf y) n (kind c x)) f
      ∙ (ap (action_by c way.source way.goal (action_leaf y) (node_of y)) g ∙ other)))
