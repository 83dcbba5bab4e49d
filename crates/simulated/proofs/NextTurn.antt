-- What is known of a simulated cluster by what comes next of it.
use Rattle.std.proofs.Common.{◌≡◌, ℕ, ◌<◌, ◌+◌, ◌==◌, ◌&&◌, nat_lt, Bool, true, false, if◌then◌else◌, Some, None, length, refl, arith}
use Rattle.std.proofs.lemmas.Bool.{and_parts}
use Rattle.std.proofs.lemmas.Bool.Decides.{nat_tests}
use Rattle.cluster_types.specs.declared.cluster.Cluster.{Cluster}
use Rattle.simulated.specs.declared.turn.Fate.{Fate}
use Rattle.simulated.specs.declared.turn.Fate.TheVariants as fate
use Rattle.simulated.specs.declared.turn.Turn.{Turn}
use Rattle.simulated.specs.declared.turn.Turn.TheVariants as turn
use Rattle.simulated.specs.Turns.{DrawnHappening, action_ends, number_drawn_next, fate_by, happening_behind, by_first_number, is_fault, node_joins, node_leaves, turn_at_place, next_turn}
use Rattle.simulated.specs.RealWorlds.{RealWorld, is_node_off, is_node_up}

-- what happens, by four tests
abbrev pub by_tests : Bool → Bool → Bool → Bool → ℕ → Fate → ℕ → DrawnHappening
by_tests zero one up off node f drawn =
    if zero then happening_behind (if up then node_leaves node else action_ends fate.True) (drawn + 1)
    else (if one then happening_behind (if off then node_joins node else action_ends fate.True) (drawn + 1)
    else happening_behind (action_ends f) drawn)

module _ (c : Cluster) (number : ℕ) (w : RealWorld) where
  -- a node that stands so, where a fault may be given yet
  pub record IsNodeSo (so : Bool) (node : ℕ) : Type 0 where
    pub early : w.faults < 16
    pub within : node < length c.nodes
    pub is_so : so ≡ true

  abbrev turn_at : DrawnHappening → ℕ → Turn
  turn_at h count = turn_at_place h.happens (number_drawn_next number h.drawn count)

  record IsDrawn (stands : Bool) (drawn node : ℕ) : Type 0 where
    pub same : drawn ≡ node
    pub is_so : stands ≡ true

  left : (zero one up off : Bool) (drawn : ℕ) (f : Fate) (at count node : ℕ) → turn_at (by_tests zero one up off drawn f at) count ≡ turn.Leaves node → IsDrawn up drawn node
  left true one true off drawn f at count node e = record { same = cc; is_so = refl }
  left true one false off drawn f at count node e = absurd (let g : ⊥ = cc in g)
  left false true up true drawn f at count node e = absurd (let g : ⊥ = cc in g)
  left false true up false drawn f at count node e = absurd (let g : ⊥ = cc in g)
  left false false up off drawn f at count node e = absurd (let g : ⊥ = cc in g)

  joined : (zero one up off : Bool) (drawn : ℕ) (f : Fate) (at count node : ℕ) → turn_at (by_tests zero one up off drawn f at) count ≡ turn.Joins node → IsDrawn off drawn node
  joined true one true off drawn f at count node e = absurd (let g : ⊥ = cc in g)
  joined true one false off drawn f at count node e = absurd (let g : ⊥ = cc in g)
  joined false true up true drawn f at count node e = record { same = cc; is_so = refl }
  joined false true up false drawn f at count node e = absurd (let g : ⊥ = cc in g)
  joined false false up off drawn f at count node e = absurd (let g : ⊥ = cc in g)

  abbrev die : ℕ
  die = number_drawn_next number w.drawn 20

  abbrev node_drawn : ℕ
  node_drawn = number_drawn_next number (w.drawn + 1) (length c.nodes)

  -- what is turned by the first number, where a fault may be given or not
  abbrev turn_where : Bool → ℕ → Turn
  turn_where may count = turn_at (by_first_number c number w (if may then Some die else None) (w.drawn + 1)) count

  early_by : nat_lt w.faults 16 ≡ true → w.faults < 16
  early_by t = grind (arith, nat_tests)

  pub leaving : (count node : ℕ) → next_turn c number w count ≡ turn.Leaves node → IsNodeSo (is_node_up (w.nodes node)) node
  leaving count node e = on (nat_lt w.faults 16) refl e
    where
      on : (may : Bool) → nat_lt w.faults 16 ≡ may → turn_where may count ≡ turn.Leaves node → IsNodeSo (is_node_up (w.nodes node)) node
      on false t i = absurd (let g : ⊥ = cc in g)
      on true t i =
          let d = left (die == 0) (die == 1) (nat_lt node_drawn (length c.nodes) && is_node_up (w.nodes node_drawn))
          (nat_lt node_drawn (length c.nodes) && is_node_off (w.nodes node_drawn)) node_drawn (fate_by (Some die)) (w.drawn + 1) count node i in
          let same = d.same in
          let parts = and_parts (nat_lt node_drawn (length c.nodes)) (is_node_up (w.nodes node_drawn)) d.is_so in
          record {
            early = early_by t;
            within = let low = rw same at parts.0 in grind (arith, nat_tests);
            is_so = rw same at parts.1;
          }

  pub joining : (count node : ℕ) → next_turn c number w count ≡ turn.Joins node → IsNodeSo (is_node_off (w.nodes node)) node
  joining count node e = on (nat_lt w.faults 16) refl e
    where
      on : (may : Bool) → nat_lt w.faults 16 ≡ may → turn_where may count ≡ turn.Joins node → IsNodeSo (is_node_off (w.nodes node)) node
      on false t i = absurd (let g : ⊥ = cc in g)
      on true t i =
          let d = joined (die == 0) (die == 1) (nat_lt node_drawn (length c.nodes) && is_node_up (w.nodes node_drawn))
          (nat_lt node_drawn (length c.nodes) && is_node_off (w.nodes node_drawn)) node_drawn (fate_by (Some die)) (w.drawn + 1) count node i in
          let same = d.same in
          let parts = and_parts (nat_lt node_drawn (length c.nodes)) (is_node_off (w.nodes node_drawn)) d.is_so in
          record {
            early = early_by t;
            within = let low = rw same at parts.0 in grind (arith, nat_tests);
            is_so = rw same at parts.1;
          }

  -- an action ends with a fault only where one may be given yet
  pub ending : (count place : ℕ) (f : Fate) → next_turn c number w count ≡ turn.Ends place f → is_fault f ≡ true → w.faults < 16
  ending count place f e fault = on (nat_lt w.faults 16) refl e
    where
      on : (may : Bool) → nat_lt w.faults 16 ≡ may → turn_where may count ≡ turn.Ends place f → w.faults < 16
      on false t i = let same : fate.True ≡ f = cc in absurd (let g : ⊥ = cc in g)
      on true t i = early_by t
