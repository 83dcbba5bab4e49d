-- Some marks have exactly the held cells.
use Rattle.std.proofs.Common.{arith, ◌≡◌, ◌<◌, ◌≤◌, ◌+◌, ◌&&◌, ◌||◌, not, nat_lt, ℕ, suc, zero, Bool, true, false, List, refl, length, map, count_by, Contains, Any}
use Rattle.std.specs.List.{flat_map, list_any, range_with_len}
use Rattle.std.proofs.lemmas.List.Folds.{Any-from_list_any}
use Rattle.std.proofs.lemmas.List.Sums.{count_by-le-length}
use Rattle.std.proofs.lemmas.Bool.{false_from_ne_true, ltb-true, not-true, or_left, or_right}
use Rattle.lemmas.proofs.Booleans.{sooner, later, unless}
use Rattle.lemmas.proofs.Counts.{count_one_more}
use Rattle.lemmas.proofs.Searches.{passes_by}
use Rattle.lemmas.proofs.Members.{in_flat, in_map, in_range}
use Rattle.loops.proofs.Needs.{decided_leaf, decision_there}
use Rattle.cluster_types.specs.declared.cluster.Cluster.{Cluster}
use Rattle.cluster_types.specs.declared.journal.Event.{Event}
use Rattle.cluster_types.specs.declared.leaf.Role.{Role}
use Rattle.cluster_types.specs.declared.leaf.Role.TheVariants as role
use Rattle.cluster_types.specs.declared.placement.Decision.{Decision}
use Rattle.cluster_types.specs.declared.placement.Target.TheVariants as target
use Rattle.cluster_types.specs.Decisions.{all_decisions, decision_of, leaf_of}
use Rattle.cluster_types.specs.Held.{Held, by_colocation, by_order, by_place}
use Rattle.cluster_types.specs.LeastSets.{IsClosedUnderHolding}
use Rattle.cluster_types.specs.Tables.{Targets, holds_role}
use Rattle.plan_laws.specs.Inner.HeldMarks.{MarkedDecisions, is_held_by}
use Rattle.plan_laws.proofs.HeldRounds.{rules_give, stable_is_closed}
use Rattle.plan_laws.proofs.MadeOnes.{never_both}
use Rattle.plan_laws.proofs.StayHeld.{has, holds_is, nowhere_has_none}
use Rattle.plan_laws.proofs.TablesWithin.{StaysWithin, is_cell}
use Rattle.cluster_types.specs.Precedence.{role_given}

-- a leaf or its promote, on a node
record Spot : Type 0 where
  pub decision : Decision
  pub node : ℕ

module _ (c : Cluster) (es : List Event) (table : Targets) (inside : StaysWithin c table) where
  abbrev spots : List Spot
  spots = flat_map (λ d. map (λ n. record { decision = d; node = n }) (range_with_len 0 (length c.nodes))) (all_decisions c)

  in_spots : (d : Decision) (n : ℕ) → leaf_of d < length c.leaves → n < length c.nodes → Contains spots (record { decision = d; node = n })
  in_spots d n low within =
      in_flat (λ (d : Decision). map (λ n. record { decision = d; node = n }) (range_with_len 0 (length c.nodes))) (all_decisions c) d (record { decision = d; node = n })
      (decision_there c d low) (in_map (λ n. record { decision = d; node = n }) (range_with_len 0 (length c.nodes)) n (in_range 0 (length c.nodes) n (omega arith) (omega arith)))

  -- what is held is of the cluster
  pub record IsWithin (d : Decision) (n : ℕ) : Type 0 where
    pub leaf : leaf_of d < length c.leaves
    pub node : n < length c.nodes

  role_within : (r : ℕ) (given : Role) (n : ℕ) → holds_role table r given n ≡ true → IsWithin (decision_of r given) n
  role_within r given n h = go (is_cell c r n) refl
    where
      go : (b : Bool) → is_cell c r n ≡ b → IsWithin (decision_of r given) n
      go true e = record {
        leaf = rw (decided_leaf r given) (ltb-true r (length c.leaves) (sooner (nat_lt r (length c.leaves)) (nat_lt n (length c.nodes)) e));
        node = ltb-true n (length c.nodes) (later (nat_lt r (length c.leaves)) (nat_lt n (length c.nodes)) e);
      }
      go false e =
          let there : has given (table r n) ≡ true = rw (← holds_is table r given n) h in
          let none : has given target.Nowhere ≡ true = rw (← inside r n e) there in
          absurd (never_both (has given target.Nowhere) none (nowhere_has_none given))

  held_within : (d : Decision) (n : ℕ) → Held c es table d n → IsWithin d n
  held_within _ _ (by_order o n may lacks) = role_within o.then_leaf (role_given o.then_op) n may.chosen
  held_within _ _ (by_colocation col n may lacks) = role_within col.dependent col.dependent_role n may.chosen
  held_within _ _ (by_place r n promoted held) = role_within r role.Promoted n promoted

  abbrev round : MarkedDecisions → MarkedDecisions
  round marks d n = marks d n || is_held_by c es table marks d n

  round_sound : (marks : MarkedDecisions) → ((d : Decision) (n : ℕ) → marks d n ≡ true → Held c es table d n) → (d : Decision) (n : ℕ) → round marks d n ≡ true → Held c es table d n
  round_sound marks sound d n h = go (marks d n) refl h
    where
      go : (b : Bool) → marks d n ≡ b → b || is_held_by c es table marks d n ≡ true → Held c es table d n
      go true e h = sound d n e
      go false e h = rules_give c es table marks sound d n h

  abbrev is_new : MarkedDecisions → Spot → Bool
  is_new marks x = is_held_by c es table marks x.decision x.node && not (marks x.decision x.node)

  -- marks that have exactly the held cells
  pub record HeldCells : Type 0 where
    pub marks : MarkedDecisions
    pub sound : (d : Decision) (n : ℕ) → marks d n ≡ true → Held c es table d n
    pub closed : IsClosedUnderHolding c es table (λ d n. marks d n ≡ true)

  none_new : (marks : MarkedDecisions) → ((d : Decision) (n : ℕ) → marks d n ≡ true → Held c es table d n) → list_any (is_new marks) spots ≡ false → HeldCells
  none_new marks sound none = record {
    marks = marks;
    sound = sound;
    closed = stable_is_closed c es table marks (λ d n h.
        let w : IsWithin d n = held_within d n (rules_give c es table marks sound d n h) in
        unless (is_held_by c es table marks d n) (marks d n) h
        (false_from_ne_true (is_held_by c es table marks d n && not (marks d n)) (λ new.
        never_both (list_any (is_new marks) spots) (passes_by (is_new marks) spots (record { decision = d; node = n }) (in_spots d n w.leaf w.node) new) none)));
  }

  more_marked : (marks : MarkedDecisions) → Any (λ x. is_new marks x ≡ true) spots
      → count_by (λ x. marks x.decision x.node) spots < count_by (λ (x : Spot). round marks x.decision x.node) spots
  more_marked marks (k, x, lt, there, h) =
      count_one_more (λ (x : Spot). marks x.decision x.node) (λ (x : Spot). round marks x.decision x.node)
      (λ y e. or_left (marks y.decision y.node) (is_held_by c es table marks y.decision y.node) e) spots k x lt there
      (not-true (marks x.decision x.node) (later (is_held_by c es table marks x.decision x.node) (not (marks x.decision x.node)) h))
      (or_right (marks x.decision x.node) (is_held_by c es table marks x.decision x.node) (sooner (is_held_by c es table marks x.decision x.node) (not (marks x.decision x.node)) h))

  search_on : (room : ℕ) (marks : MarkedDecisions) → ((d : Decision) (n : ℕ) → marks d n ≡ true → Held c es table d n)
      → length spots ≤ count_by (λ (x : Spot). marks x.decision x.node) spots + room → HeldCells
  search_on zero marks sound enough = go (list_any (is_new marks) spots) refl
    where
      go : (b : Bool) → list_any (is_new marks) spots ≡ b → HeldCells
      go false e = none_new marks sound e
      go true e =
          let more = more_marked marks (Any-from_list_any (is_new marks) spots e) in
          let most = count_by-le-length (λ (x : Spot). round marks x.decision x.node) spots in
          absurd (let f : ⊥ = omega arith in f)
  search_on (suc room) marks sound enough = go (list_any (is_new marks) spots) refl (search_on room (round marks) (round_sound marks sound))
    where
      go : (b : Bool) → list_any (is_new marks) spots ≡ b → (length spots ≤ count_by (λ (x : Spot). round marks x.decision x.node) spots + room → HeldCells) → HeldCells
      go false e on = none_new marks sound e
      go true e on = let more = more_marked marks (Any-from_list_any (is_new marks) spots e) in on (omega arith)

  pub held_cells : HeldCells
  held_cells = search_on (length spots) (λ d n. false) (λ d n h. absurd (let no : false ≡ true = h in cc)) (omega arith)
