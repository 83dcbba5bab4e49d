-- Each action is listed once.
use Rattle.std.proofs.Common.{arith, ◌≡◌, ◌≢◌, ◌<◌, ◌/◌, ◌==◌, ◌&&◌, ◌⊎◌, not, ℕ, Bool, true, false, if◌then◌else◌, Option, Some, None, List, [], ◌∷◌, ◌++◌, length, map, filter, refl, sym, ◌∙◌, ap, subst, inl, inr, AllPairs, Contains}
use Rattle.std.specs.List.{flat_map, range_with_len}
use Rattle.std.proofs.lemmas.List.Elements.{Contains-append_cases}
use Rattle.std.proofs.lemmas.List.Kept.{AllPairs-filter}
use Rattle.lemmas.proofs.Members.{at_head, head_or_rest, in_none, in_rest, of_filter, of_flat, of_map}
use Rattle.lemmas.proofs.Ordered.{first_earlier, rest_in_order}
use Rattle.cluster_types.specs.declared.cluster.Cluster.{Cluster}
use Rattle.cluster_types.specs.declared.journal.Action.{Action}
use Rattle.cluster_types.specs.declared.journal.Action.TheVariants.{Fence, Probe, Operation, MigrateTo, MigrateFrom}
use Rattle.cluster_types.specs.declared.leaf.Monitor.{Monitor as MonitorOf}
use Rattle.cluster_types.specs.declared.leaf.Op.{Op}
use Rattle.cluster_types.specs.declared.leaf.Op.TheVariants as op
use Rattle.cluster_types.specs.declared.placement.Target.{Target}
use Rattle.cluster_types.specs.declared.placement.Target.TheVariants as target
use Rattle.cluster_types.specs.declared.states.CellState.{CellState}
use Rattle.cluster_types.specs.declared.states.CellState.TheVariants as cell
use Rattle.cluster_types.specs.declared.states.NodeState.{NodeState}
use Rattle.cluster_types.specs.Fields.{monitors}
use Rattle.cluster_types.specs.NeededActions.{steps_of}
use Rattle.cluster_types.specs.Pins.{is_unprobed_state}
use Rattle.planner.specs.Inner.Actions.{all_fences, cell_actions, fences_in, free_leaf_actions, includes_op, is_elsewhere, is_filled, is_unclean_in, is_wanted, leaf_actions, leaves_actions, migrations_of, migrations_to, leaf_monitor, monitors_in, probes_in, migration_source, stays_needed, step_action, steps_in, wanted}
use Rattle.planner.specs.CycledCells.{MarkedCells}
use Rattle.planner.specs.Inner.Levels.{steps_by}
use Rattle.planner.specs.declared.needed_actions.steps.CellNeed.{CellNeed}
use Rattle.planner.proofs.Conditions.{of_if, of_one}
use Rattle.planner.proofs.PairsApart.{no_pairs, pair_more, pairs_if, pairs_joined, pairs_mapped, pairs_of_range, pairs_unless}

abbrev Differ : Action → Action → Type 0
Differ x y = x ≢ y

abbrev leaf_of : Action → ℕ
leaf_of (Fence n) = 0
leaf_of (Probe r n) = r
leaf_of (Operation o r n interval role) = r
leaf_of (MigrateTo r n m) = r
leaf_of (MigrateFrom r n m) = r

-- the node of a cell's action, and the target of a migration
abbrev node_of : Action → ℕ
node_of (Fence n) = n
node_of (Probe r n) = n
node_of (Operation o r n interval role) = n
node_of (MigrateTo r n m) = m
node_of (MigrateFrom r n m) = m

abbrev word_of : Action → Op
word_of (Operation o r n interval role) = o
word_of _ = op.Monitor

abbrev interval_of : Action → ℕ
interval_of (Operation o r n interval role) = interval
interval_of _ = 0

-- fences, probes, steps, monitors, migrations
abbrev sort_of : Action → ℕ
sort_of (Fence n) = 0
sort_of (Probe r n) = 1
sort_of (Operation op.Monitor r n interval role) = 3
sort_of (Operation o r n interval role) = 2
sort_of (MigrateTo r n m) = 4
sort_of (MigrateFrom r n m) = 4

one_alone : (x : Action) → AllPairs Differ (x ∷ [])
one_alone x = pair_more Differ x [] (λ y h. absurd (in_none y h)) (no_pairs Differ)

-- the steps of a cell stand in one order
abbrev four : List Op
four = op.Demote ∷ op.Stop ∷ op.Start ∷ op.Promote ∷ []

abbrev among_four : List Op → List Op
among_four steps = filter (λ o. includes_op o steps) four

in_order : (s : CellState) (t : Target) (b : Bool) → steps_of s t b ≡ among_four (steps_of s t b)
in_order cell.Unprobed target.Nowhere b = refl
in_order cell.Unprobed target.Started b = refl
in_order cell.Unprobed target.Promoted b = refl
in_order cell.Off target.Nowhere b = refl
in_order cell.Off target.Started b = refl
in_order cell.Off target.Promoted b = refl
in_order cell.On target.Nowhere b = refl
in_order cell.On target.Started true = refl
in_order cell.On target.Started false = refl
in_order cell.On target.Promoted true = refl
in_order cell.On target.Promoted false = refl
in_order cell.Promoted target.Nowhere b = refl
in_order cell.Promoted target.Started true = refl
in_order cell.Promoted target.Started false = refl
in_order cell.Promoted target.Promoted true = refl
in_order cell.Promoted target.Promoted false = refl
in_order cell.Failed target.Nowhere b = refl
in_order cell.Failed target.Started b = refl
in_order cell.Failed target.Promoted b = refl
in_order cell.Away t b = refl
in_order cell.Blocked t b = refl

four_apart : AllPairs (λ (x y : Op). x ≢ y) four
four_apart =
    pair_more (λ (x y : Op). x ≢ y) op.Demote (op.Stop ∷ op.Start ∷ op.Promote ∷ [])
    (λ y h e. elim (head_or_rest op.Stop (op.Start ∷ op.Promote ∷ []) y h) [
      | inl s ↦ cc
      | inr t ↦ elim (head_or_rest op.Start (op.Promote ∷ []) y t) [
        | inl s ↦ cc
        | inr u ↦ let s : op.Promote ≡ y = of_one op.Promote y u in cc
      ]
    ])
    (pair_more (λ (x y : Op). x ≢ y) op.Stop (op.Start ∷ op.Promote ∷ [])
    (λ y h e. elim (head_or_rest op.Start (op.Promote ∷ []) y h) [
      | inl s ↦ cc
      | inr u ↦ let s : op.Promote ≡ y = of_one op.Promote y u in cc
    ])
    (pair_more (λ (x y : Op). x ≢ y) op.Start (op.Promote ∷ [])
    (λ y h e. let s : op.Promote ≡ y = of_one op.Promote y h in cc)
    (pair_more (λ (x y : Op). x ≢ y) op.Promote [] (λ y h. absurd (in_none y h)) (no_pairs (λ (x y : Op). x ≢ y)))))

four_change : (o : Op) → Contains four o → o ≢ op.Monitor
four_change o h e =
    elim (head_or_rest op.Demote (op.Stop ∷ op.Start ∷ op.Promote ∷ []) o h) [
      | inl s ↦ cc
      | inr t ↦ elim (head_or_rest op.Stop (op.Start ∷ op.Promote ∷ []) o t) [
        | inl s ↦ cc
        | inr u ↦ elim (head_or_rest op.Start (op.Promote ∷ []) o u) [
          | inl s ↦ cc
          | inr v ↦ let s : op.Promote ≡ o = of_one op.Promote o v in cc
        ]
      ]
    ]

steps_apart : (w : CellNeed) (b : Bool) → AllPairs (λ (x y : Op). x ≢ y) (steps_by w b)
steps_apart w b =
    pairs_unless (λ (x y : Op). x ≢ y) w.pinned (steps_of w.state w.target b)
    (rw (← in_order w.state w.target b) at
    (AllPairs-filter (λ (x y : Op). x ≢ y) (λ o. includes_op o (steps_of w.state w.target b)) four four_apart))

steps_change : (w : CellNeed) (b : Bool) (o : Op) → Contains (steps_by w b) o → o ≢ op.Monitor
steps_change w b o h = on w.pinned h where
  on : (p : Bool) → Contains (if p then [] else steps_of w.state w.target b) o → o ≢ op.Monitor
  on true k = absurd (in_none o k)
  on false k =
      let k' : Contains (among_four (steps_of w.state w.target b)) o = subst (λ (os : List Op). Contains os o) (in_order w.state w.target b) k in
      four_change o (of_filter (λ p. includes_op p (steps_of w.state w.target b)) four o k').among

sort_of_step : (o : Op) (r n : ℕ) → o ≢ op.Monitor → sort_of (step_action r n o) ≡ 2
sort_of_step op.Start r n d = refl
sort_of_step op.Stop r n d = refl
sort_of_step op.Promote r n d = refl
sort_of_step op.Demote r n d = refl
sort_of_step op.Monitor r n d = absurd (d refl)

-- what is wanted of monitors that differ differs
module _ (R : MonitorOf → MonitorOf → Type 0) (t : Target) (any : Bool) where
  of_wanted : (left : ℕ) (ms : List MonitorOf) (m : MonitorOf) → Contains (wanted t any left ms) m → Contains ms m
  of_wanted left [] m h = absurd (in_none m h)
  of_wanted left (x ∷ ms) m h = on (is_wanted t any left x) (Contains-append_cases _ (wanted t any (left / 2) ms) m h) (of_wanted (left / 2) ms m) where
    on : (b : Bool) → Contains (if b then x ∷ [] else []) m ⊎ Contains (wanted t any (left / 2) ms) m → (Contains (wanted t any (left / 2) ms) m → Contains ms m)
        → Contains (x ∷ ms) m
    on b (inl own) next = at_head x ms m (of_one x m (of_if b (x ∷ []) m own).among)
    on b (inr rest) next = in_rest x ms m (next rest)

  pub wanted_apart : (left : ℕ) (ms : List MonitorOf) → AllPairs R ms → AllPairs R (wanted t any left ms)
  wanted_apart left [] h = h
  wanted_apart left (x ∷ ms) h =
      pairs_joined R (if is_wanted t any left x then x ∷ [] else []) (wanted t any (left / 2) ms)
      (pairs_if R (is_wanted t any left x) (x ∷ []) (pair_more R x [] (λ y k. absurd (in_none y k)) (no_pairs R)))
      (wanted_apart (left / 2) ms (rest_in_order R x ms h))
      (λ a b k l. (
      let own : x ≡ a = of_one x a (of_if (is_wanted t any left x) (x ∷ []) a k).among in
      rw own at (first_earlier R x ms b h (of_wanted (left / 2) ms b l))))

-- what an action is of
record IsOf (a : Action) (sort leaf node : ℕ) : Type 0 where
  kind : sort_of a ≡ sort
  leaf_is : leaf_of a ≡ leaf
  node_is : node_of a ≡ node

kinds_differ : (a b : Action) (s t : ℕ) → sort_of a ≡ s → sort_of b ≡ t → s < t → a ≢ b
kinds_differ a b s t e f lt same = let g : sort_of a ≡ sort_of b = ap sort_of same in let h : ⊥ = omega arith in h

module _ (c : Cluster) (need : ℕ → ℕ → CellNeed) (marked : MarkedCells) (source : Option ℕ) (r n : ℕ) where
  abbrev steps_listed : List Action
  steps_listed = map (step_action r n) (filter (stays_needed (is_elsewhere source n)) (steps_in need marked r n))

  abbrev watches_listed : List Action
  watches_listed = map (leaf_monitor r n) (monitors_in c need marked r n)

  of_probes : (a : Action) → Contains (probes_in need r n) a → IsOf a 1 r n
  of_probes a h =
      let e : Probe r n ≡ a = of_one (Probe r n) a (of_if (is_unprobed_state (need r n).state) (Probe r n ∷ []) a h).among in
      record { kind = ap sort_of (sym e); leaf_is = ap leaf_of (sym e); node_is = ap node_of (sym e) }

  of_steps : (a : Action) → Contains steps_listed a → IsOf a 2 r n
  of_steps a h =
      let m = of_map (step_action r n) (filter (stays_needed (is_elsewhere source n)) (steps_in need marked r n)) a h in
      let k = of_filter (stays_needed (is_elsewhere source n)) (steps_in need marked r n) m.source m.among in
      record {
        kind = ap sort_of (sym m.gives) ∙ sort_of_step m.source r n (steps_change (need r n) (marked r n) m.source k.among);
        leaf_is = ap leaf_of (sym m.gives);
        node_is = ap node_of (sym m.gives);
      }

  of_watches : (a : Action) → Contains watches_listed a → IsOf a 3 r n
  of_watches a h =
      let m = of_map (leaf_monitor r n) (monitors_in c need marked r n) a h in
      record { kind = ap sort_of (sym m.gives); leaf_is = ap leaf_of (sym m.gives); node_is = ap node_of (sym m.gives) }

  -- of each action of a cell
  record InCell (a : Action) : Type 0 where
    positive : 0 < sort_of a
    no_move : sort_of a < 4
    leaf_is : leaf_of a ≡ r
    node_is : node_of a ≡ n

  in_cell : (a : Action) → Contains (cell_actions c need marked source r n) a → InCell a
  in_cell a h = elim (Contains-append_cases (probes_in need r n) (steps_listed ++ watches_listed) a h) [
    | inl p ↦ let i = of_probes a p in let k = i.kind in record { positive = omega arith; no_move = omega arith; leaf_is = i.leaf_is; node_is = i.node_is }
    | inr rest ↦ elim (Contains-append_cases steps_listed watches_listed a rest) [
      | inl s ↦ let i = of_steps a s in let k = i.kind in record { positive = omega arith; no_move = omega arith; leaf_is = i.leaf_is; node_is = i.node_is }
      | inr w ↦ let i = of_watches a w in let k = i.kind in record { positive = omega arith; no_move = omega arith; leaf_is = i.leaf_is; node_is = i.node_is }
    ]
  ]

  cell_apart : AllPairs (λ (one other : MonitorOf). one.interval_ms ≢ other.interval_ms) (monitors c r)
      → AllPairs Differ (cell_actions c need marked source r n)
  cell_apart watched =
      pairs_joined Differ (probes_in need r n) (steps_listed ++ watches_listed)
      (pairs_if Differ (is_unprobed_state (need r n).state) (Probe r n ∷ []) (one_alone (Probe r n)))
      (pairs_joined Differ steps_listed watches_listed steps watches
      (λ a b h k. kinds_differ a b 2 3 (of_steps a h).kind (of_watches b k).kind (omega arith)))
      (λ a b h k. elim (Contains-append_cases steps_listed watches_listed b k) [
        | inl s ↦ kinds_differ a b 1 2 (of_probes a h).kind (of_steps b s).kind (omega arith)
        | inr w ↦ kinds_differ a b 1 3 (of_probes a h).kind (of_watches b w).kind (omega arith)
      ])
    where
      steps : AllPairs Differ steps_listed
      steps =
          pairs_mapped (λ (x y : Op). x ≢ y) Differ (step_action r n) (λ x y d e. d (ap word_of e))
          (filter (stays_needed (is_elsewhere source n)) (steps_in need marked r n))
          (AllPairs-filter (λ (x y : Op). x ≢ y) (stays_needed (is_elsewhere source n)) (steps_in need marked r n) (steps_apart (need r n) (marked r n)))

      watches : AllPairs Differ watches_listed
      watches =
          pairs_mapped (λ (one other : MonitorOf). one.interval_ms ≢ other.interval_ms) Differ (leaf_monitor r n) (λ x y d e. d (ap interval_of e))
          (monitors_in c need marked r n)
          (pairs_unless (λ (one other : MonitorOf). one.interval_ms ≢ other.interval_ms) (need r n).pinned _
          (wanted_apart (λ (one other : MonitorOf). one.interval_ms ≢ other.interval_ms) (need r n).target (is_filled (steps_in need marked r n))
          (need r n).running (monitors c r) watched))

module _ (c : Cluster) (need : ℕ → ℕ → CellNeed) (marked : MarkedCells)
    (watched : (r : ℕ) → AllPairs (λ (one other : MonitorOf). one.interval_ms ≢ other.interval_ms) (monitors c r)) where
  move_of : (r n m : ℕ) (a : Action) → Contains (migrations_to need marked r n m) a → IsOf a 4 r m
  move_of r n m a h =
      elim (head_or_rest (MigrateTo r n m) (MigrateFrom r n m ∷ []) a
      (of_if (not (n == m) && includes_op op.Start (steps_in need marked r m)) (MigrateTo r n m ∷ MigrateFrom r n m ∷ []) a h).among) [
        | inl e ↦ record { kind = ap sort_of (sym e); leaf_is = ap leaf_of (sym e); node_is = ap node_of (sym e) }
        | inr k ↦
            let e : MigrateFrom r n m ≡ a = of_one (MigrateFrom r n m) a k in
            record { kind = ap sort_of (sym e); leaf_is = ap leaf_of (sym e); node_is = ap node_of (sym e) }
      ]

  moves_apart : (r n m : ℕ) → AllPairs Differ (migrations_to need marked r n m)
  moves_apart r n m =
      pairs_if Differ (not (n == m) && includes_op op.Start (steps_in need marked r m)) (MigrateTo r n m ∷ MigrateFrom r n m ∷ [])
      (pair_more Differ (MigrateTo r n m) (MigrateFrom r n m ∷ []) (λ y k e. let s : MigrateFrom r n m ≡ y = of_one (MigrateFrom r n m) y k in cc)
      (one_alone (MigrateFrom r n m)))

  of_moves : (o : Option ℕ) (r : ℕ) (a : Action) → Contains (migrations_of c need marked o r) a → (sort_of a ≡ 4) × (leaf_of a ≡ r)
  of_moves None r a h = absurd (in_none a h)
  of_moves (Some n) r a h =
      let f = of_flat (migrations_to need marked r n) (range_with_len 0 (length c.nodes)) a h in
      let i = move_of r n f.source a f.gives in
      (i.kind, i.leaf_is)

  all_moves_apart : (o : Option ℕ) (r : ℕ) → AllPairs Differ (migrations_of c need marked o r)
  all_moves_apart None r = no_pairs Differ
  all_moves_apart (Some n) r =
      pairs_of_range (migrations_to need marked r n) node_of (λ m a h. (move_of r n m a h).node_is) (moves_apart r n) 0 (length c.nodes)

  module _ (o : Option ℕ) (r : ℕ) where
    abbrev cells : List Action
    cells = flat_map (cell_actions c need marked o r) (range_with_len 0 (length c.nodes))

    of_cells : (a : Action) → Contains cells a → (0 < sort_of a) × (sort_of a < 4) × (leaf_of a ≡ r)
    of_cells a h =
        let f = of_flat (cell_actions c need marked o r) (range_with_len 0 (length c.nodes)) a h in
        let i = in_cell c need marked o r f.source a f.gives in
        (i.positive, i.no_move, i.leaf_is)

    leaf_apart : AllPairs Differ (leaf_actions c need marked o r)
    leaf_apart =
        pairs_joined Differ cells (migrations_of c need marked o r)
        (pairs_of_range (cell_actions c need marked o r) node_of (λ n a h. (in_cell c need marked o r n a h).node_is)
        (λ n. cell_apart c need marked o r n (watched r)) 0 (length c.nodes))
        (all_moves_apart o r)
        (λ a b h k e. (
        let i = of_cells a h in
        let low = i.1 in
        let m = (of_moves o r b k).0 in
        let g : sort_of a ≡ sort_of b = ap sort_of e in
        let f : ⊥ = omega arith in f))

    of_leaf : (a : Action) → Contains (leaf_actions c need marked o r) a → (0 < sort_of a) × (leaf_of a ≡ r)
    of_leaf a h = elim (Contains-append_cases cells (migrations_of c need marked o r) a h) [
      | inl own ↦ let i = of_cells a own in (i.0, i.2)
      | inr move ↦ let i = of_moves o r a move in let k = i.0 in (omega arith, i.1)
    ]

  module _ (free : ℕ → Bool) where
    leaves_apart : AllPairs Differ (leaves_actions c need marked free)
    leaves_apart =
        pairs_of_range (λ r. free_leaf_actions c need marked (free r) r) leaf_of (λ r a h. (of_leaf (migration_source c need marked (free r) r) r a h).1)
        (λ r. leaf_apart (migration_source c need marked (free r) r) r) 0 (length c.leaves)

    of_leaves : (a : Action) → Contains (leaves_actions c need marked free) a → 0 < sort_of a
    of_leaves a h =
        let f = of_flat (λ r. free_leaf_actions c need marked (free r) r) (range_with_len 0 (length c.leaves)) a h in
        (of_leaf (migration_source c need marked (free f.source) f.source) f.source a f.gives).0

    module _ (may_fence : Bool) (states : List NodeState) where
      of_fence : (n : ℕ) (a : Action) → Contains (fences_in may_fence states n) a → IsOf a 0 0 n
      of_fence n a h =
          let e : Fence n ≡ a = of_one (Fence n) a (of_if (may_fence && is_unclean_in states n) (Fence n ∷ []) a h).among in
          record { kind = ap sort_of (sym e); leaf_is = ap leaf_of (sym e); node_is = ap node_of (sym e) }

      pub all_once : AllPairs (λ x y. x ≢ y) (all_fences c may_fence states ++ leaves_actions c need marked free)
      all_once =
          pairs_joined Differ (all_fences c may_fence states) (leaves_actions c need marked free)
          (pairs_of_range (fences_in may_fence states) node_of (λ n a h. (of_fence n a h).node_is)
          (λ n. pairs_if Differ (may_fence && is_unclean_in states n) (Fence n ∷ []) (one_alone (Fence n))) 0 (length c.nodes))
          leaves_apart
          (λ a b h k. (
          let f = of_flat (fences_in may_fence states) (range_with_len 0 (length c.nodes)) a h in
          kinds_differ a b 0 (sort_of b) (of_fence f.source a f.gives).kind refl (of_leaves b k)))
