-- No cell is left to mark, where no order has as its then the first of one that stands before it.
use Rattle.std.proofs.Common.{arith, ◌≡◌, ◌≢◌, ◌<◌, ◌==◌, ◌&&◌, ◌||◌, nat_lt, ℕ, true, false, List, [], ◌∷◌, length, refl, sym, ◌∙◌, ap, inl, inr, Contains}
use Rattle.std.specs.List.{list_any, range_with_len}
use Rattle.std.proofs.Math.Bool.{or-false}
use Rattle.std.proofs.lemmas.Bool.{eq-eqb, lt-ltb, ne_eqb, and_from, or_right, or_left}
use Rattle.lemmas.proofs.Searches.{passes_by}
use Rattle.lemmas.proofs.Members.{at_head, head_or_rest, in_none, in_range, in_rest}
use Rattle.cluster_types.specs.declared.cluster.Cluster.{Cluster}
use Rattle.cluster_types.specs.declared.journal.Event.{Event}
use Rattle.cluster_types.specs.declared.rules.Order.{Order}
use Rattle.cluster_types.specs.NeededActions.{OrderCanCycle, can_cycle, has_disturbing, steps_at}
use Rattle.cluster_types.specs.LeastSets.{IsClosedUnderCycling}
use Rattle.cluster_types.specs.Tables.{Targets, is_in_scope}
use Rattle.planner.specs.CycledCells.{MarkedCells, NoneComesBack, first_marks, is_cycling, is_disturbed, can_be_marked, with_order, with_orders}
use Rattle.planner.proofs.OrderWords.{cycling_of}

module _ (c : Cluster) (es : List Event) (targets : Targets) where
  -- what is marked stays so
  pub stays_marked : (os : List Order) (marks : MarkedCells) (r n : ℕ) → marks r n ≡ true → with_orders c es targets marks os r n ≡ true
  stays_marked [] marks r n h = h
  stays_marked (o ∷ os) marks r n h = stays_marked os (with_order c es targets marks o) r n (or_left (marks r n) _ h)

  -- an order adds marks of its then alone
  order_elsewhere : (marks : MarkedCells) (o : Order) (r n : ℕ) → o.then_leaf ≢ r → with_order c es targets marks o r n ≡ marks r n
  order_elsewhere marks o r n differ =
      let other : (r == o.then_leaf) ≡ false = ne_eqb r o.then_leaf (λ e. differ (sym e)) in
      rw other (or-false (marks r n))

  pub elsewhere : (os : List Order) (marks : MarkedCells) (r n : ℕ) → ((o : Order) → Contains os o → o.then_leaf ≢ r)
      → with_orders c es targets marks os r n ≡ marks r n
  elsewhere [] marks r n each = refl
  elsewhere (o ∷ os) marks r n each =
      elsewhere os (with_order c es targets marks o) r n (λ p h. each p (in_rest o os p h))
      ∙ order_elsewhere marks o r n (each o (at_head o os o refl))

  -- the first of the order is disturbed on some node in scope, by these marks
  pub record Reaches (marks : MarkedCells) (o : Order) (n : ℕ) : Type 0 where
    pub may : can_be_marked c es targets o n ≡ true
    pub node : ℕ
    pub within : node < length c.nodes
    pub scope : is_in_scope o n node ≡ true
    pub disturbed : is_disturbed c es targets marks o node ≡ true

  marked_at_once : (marks : MarkedCells) (o : Order) (n : ℕ) → Reaches marks o n → with_order c es targets marks o o.then_leaf n ≡ true
  marked_at_once marks o n h =
      let same : (o.then_leaf == o.then_leaf) ≡ true = eq-eqb o.then_leaf o.then_leaf refl in
      let found : list_any (λ m. is_in_scope o n m && is_disturbed c es targets marks o m) (range_with_len 0 (length c.nodes)) ≡ true
      = passes_by (λ m. is_in_scope o n m && is_disturbed c es targets marks o m) (range_with_len 0 (length c.nodes)) h.node
      (in_range 0 (length c.nodes) h.node (omega arith) (let w = h.within in omega arith))
      (and_from (is_in_scope o n h.node) _ h.scope h.disturbed) in
      or_right (marks o.then_leaf n) _
      (and_from (o.then_leaf == o.then_leaf) _ same (and_from (can_be_marked c es targets o n) _ h.may found))

  -- what the last marks say of the first of an order, the marks at its turn said
  back_to : (marks : MarkedCells) (o : Order) (os : List Order) (n : ℕ) → ((p : Order) → Contains (o ∷ os) p → p.then_leaf ≢ o.first)
      → Reaches (with_orders c es targets marks (o ∷ os)) o n → Reaches marks o n
  back_to marks o os n apart h =
      let same : with_orders c es targets marks (o ∷ os) o.first h.node ≡ marks o.first h.node
      = elsewhere (o ∷ os) marks o.first h.node apart in
      record {
        may = h.may;
        node = h.node;
        within = h.within;
        scope = h.scope;
        disturbed = ap (λ b. has_disturbing o.first_op (steps_at c es targets o.first h.node false)
            || b && has_disturbing o.first_op (steps_at c es targets o.first h.node true)) (sym same) ∙ h.disturbed;
      }

  pub all_marked : (os : List Order) (marks : MarkedCells) → NoneComesBack os → (o : Order) (n : ℕ) → Contains os o
      → Reaches (with_orders c es targets marks os) o n → with_orders c es targets marks os o.then_leaf n ≡ true
  all_marked [] marks apart o n h reaches = absurd (in_none o h)
  all_marked (p ∷ os) marks apart o n h reaches = elim (head_or_rest p os o h) [
    | inl e ↦ first o e reaches
    | inr r ↦ all_marked os (with_order c es targets marks p) apart.1 o n r reaches
  ] where
    first : (o : Order) → p ≡ o → Reaches (with_orders c es targets marks (p ∷ os)) o n
        → with_orders c es targets marks (p ∷ os) o.then_leaf n ≡ true
    first o e reaches =
        let own : Reaches (with_orders c es targets marks (p ∷ os)) p n = rw (← e) at reaches in
        rw (← e) (stays_marked os (with_order c es targets marks p) p.then_leaf n (marked_at_once marks p n (back_to marks p os n apart.0 own)))

  module _ (os : List Order) (all : (o : Order) → Contains c.orders o → is_cycling o ≡ true → Contains os o) (apart : NoneComesBack os) where
    abbrev last_marks : MarkedCells
    last_marks = with_orders c es targets (first_marks c es targets) os

    reached : (o : Order) (n m : ℕ) → OrderCanCycle c es targets o n m
        → is_disturbed c es targets last_marks o m ≡ true → last_marks o.then_leaf n ≡ true
    reached o n m may h =
        let there = all o may.present
        (cycling_of o may.mandatory may.both_ways may.first_gives may.then_gives) in
        all_marked os (first_marks c es targets) apart o n there (record {
          may =
              and_from (nat_lt n (length c.nodes) && can_cycle c es targets o.then_leaf n) _
              (and_from (nat_lt n (length c.nodes)) _ (lt-ltb _ _ may.within) may.can_be_cycled) may.in_role;
          node = m;
          within = may.first_within;
          scope = may.in_scope;
          disturbed = h;
        })

    pub last_closed : IsClosedUnderCycling c es targets (λ r n. last_marks r n ≡ true)
    last_closed = record {
      by_copies = λ r n lr ln can more.
          stays_marked os (first_marks c es targets) r n
          (and_from (nat_lt r (length c.leaves) && nat_lt n (length c.nodes) && can_cycle c es targets r n) _
          (and_from (nat_lt r (length c.leaves) && nat_lt n (length c.nodes)) _
          (and_from (nat_lt r (length c.leaves)) _ (lt-ltb _ _ lr) (lt-ltb _ _ ln)) can) more);
      by_order = λ o n m may h. reached o n m may (or_left _ _ h);
      by_cycled = λ o n m may set h.
          reached o n m may
          (or_right (has_disturbing o.first_op (steps_at c es targets o.first m false)) _ (and_from (last_marks o.first m) _ set h));
    }
