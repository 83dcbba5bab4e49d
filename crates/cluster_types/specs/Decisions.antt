-- In which order the places of the leaves are decided (Pacemaker Explained, "priority" and colocation; the keys are a rule of this project).
use Rattle.std.specs.Prelude.{◌≡◌, ◌≢◌, ℕ, suc, zero, nat_lt, ◌==◌, ◌&&◌, ◌||◌, Bool, true, false, not, if◌then◌else◌, ℤ, int_lt, List, [], ◌∷◌, ◌++◌, length, map, filter, fold, Contains}
use Rattle.std.specs.List.{list_any, list_all, flat_map, range_with_len}
use Rattle.std.specs.Int.{int_max}
use Rattle.std.specs.Ordering.{int_eq}
use Rattle.edges.specs.Chains.{Chain, LinksHaveNoLoop, leads_through}
use Rattle.score.specs.Total.{minus_infinity}
use Rattle.cluster_types.specs.declared.cluster.Cluster.{Cluster}
use Rattle.cluster_types.specs.declared.journal.Event.{Event}
use Rattle.cluster_types.specs.declared.journal.Promotion.{Promotion}
use Rattle.cluster_types.specs.declared.leaf.Role.{Role}
use Rattle.cluster_types.specs.declared.leaf.Role.TheVariants as role
use Rattle.cluster_types.specs.declared.placement.Decision.{Decision}
use Rattle.cluster_types.specs.declared.placement.Decision.TheVariants.{Place, Promote}
use Rattle.cluster_types.specs.declared.rules.Colocation.{Colocation}
use Rattle.cluster_types.specs.declared.states.CellState.{CellState}
use Rattle.cluster_types.specs.declared.states.CellState.TheVariants as cell
use Rattle.cluster_types.specs.CellStates.{cell_state}
use Rattle.cluster_types.specs.Each.{implies}
use Rattle.cluster_types.specs.Fields.{is_promotable, priority}
use Rattle.cluster_types.specs.NodeStates.{is_usable}
use Rattle.cluster_types.specs.Pins.{is_pinned}
use Rattle.cluster_types.specs.Terms.{is_active, base}

abbrev pub leaf_of : Decision → ℕ
leaf_of (Place r) = r
leaf_of (Promote r) = r

abbrev pub is_place : Decision → Bool
is_place (Place r) = true
is_place (Promote r) = false

abbrev pub is_same_decision : Decision → Decision → Bool
is_same_decision (Place r) (Place s) = r == s
is_same_decision (Promote r) (Promote s) = r == s
is_same_decision _ _ = false

-- the decision is among these
abbrev pub is_among : List Decision → Decision → Bool
is_among ds d = list_any (is_same_decision d) ds

-- the decision that gives the leaf its role
abbrev pub decision_of : ℕ → Role → Decision
decision_of r role.Started = Place r
decision_of r role.Promoted = Promote r

-- by what decisions are compared: the priority of the leaf, the greatest base where it is active (for Promote, where it is promoted), the greatest base on a
-- usable node
pub record Key : Type 0 where
  pub priority : ℤ
  pub active : ℤ
  pub usable : ℤ

abbrev pub is_less : Key → Key → Bool
is_less a b =
    int_lt a.priority b.priority
    || int_eq a.priority b.priority && (int_lt a.active b.active || int_eq a.active b.active && int_lt a.usable b.usable)

abbrev pub greater_key : Key → Key → Key
greater_key a b = if is_less a b then b else a

-- the greatest of some totals, and -INFINITY of none
abbrev pub greatest_of : List ℤ → ℤ
greatest_of totals = fold int_max minus_infinity totals

-- where the totals of a decision count as those of what runs: for Promote only where the leaf is promoted
abbrev pub is_active_for : Decision → CellState → Bool
is_active_for (Place r) state = is_active state
is_active_for (Promote r) cell.Promoted = true
is_active_for (Promote r) _ = false

-- the colocation makes the decision of its dependent need that of its primary
abbrev pub makes_need : Decision → Decision → Colocation → Bool
makes_need d e col =
    is_same_decision d (decision_of col.dependent col.dependent_role) && is_same_decision e (decision_of col.primary col.primary_role)

-- the decision needs the other: a leaf is placed before it is promoted, and a primary is decided before its dependent
abbrev pub needs : Cluster → Decision → Decision → Bool
needs c d e = not (is_place d) && is_same_decision e (Place (leaf_of d)) || list_any (makes_need d e) c.colocations

-- all decisions that there may be, of whatever leaf
abbrev pub all_decisions : Cluster → List Decision
all_decisions c = flat_map (λ r. Place r ∷ Promote r ∷ []) (range_with_len 0 (length c.leaves))

-- the one decision needs the other, which is among these
pub record IsNeedLink (c : Cluster) (among : List Decision) (d e : Decision) : Type 0 where
  pub there : Contains among e
  pub needed : needs c d e ≡ true

-- the needs have no loop: no chain of them leads from a decision back to it
abbrev pub NeedsHaveNoLoop : Cluster → Type 0
NeedsHaveNoLoop c = LinksHaveNoLoop (IsNeedLink c (all_decisions c))

-- the one decision needs the other through a chain of needs among these
abbrev pub NeedsByChain : Cluster → List Decision → Decision → Decision → Type 0
NeedsByChain c among d e = Chain (IsNeedLink c among) d e

-- the one decision needs the other, which is among these, as a test
abbrev pub needs_at_once : Cluster → List Decision → Decision → Decision → Bool
needs_at_once c among d e = is_among among e && needs c d e

-- the one decision needs the other through a chain of needs among these, as a test: at once, or through decisions that need one another in turn
-- (`needs_are_computed` of crate `loops`)
abbrev pub needs_through : Cluster → List Decision → Decision → Decision → Bool
needs_through c among d e = leads_through (needs_at_once c among) among d e

module _ (c : Cluster) (es : List Event) where
  -- of a leaf that isn't pinned its place is decided, and of a promotable one its promotion
  abbrev pub decisions_of : ℕ → List Decision
  decisions_of r = if is_pinned c es r then [] else Place r ∷ (if is_promotable c r then Promote r ∷ [] else [])

  abbrev pub decisions : List Decision
  decisions = flat_map decisions_of (range_with_len 0 (length c.leaves))

  abbrev pub is_decision : Decision → Bool
  is_decision d = is_among decisions d

  -- the decision can be made now: it hasn't been, and each that it needs has been. A pinned leaf has no decision, so none waits for it
  abbrev pub is_ready : List Decision → Decision → Bool
  is_ready made d = is_decision d && not (is_among made d) && list_all (λ e. implies (needs c d e) (is_among made e)) decisions

module _ (c : Cluster) (es : List Event) (promotions : List Promotion) where
  -- the bases of a decision on the nodes that pass
  abbrev pub bases_where : (ℕ → Bool) → Decision → List ℤ
  bases_where passes d = map (base c es promotions d) (filter passes (range_with_len 0 (length c.nodes)))

  abbrev pub key_of : Decision → Key
  key_of d = record {
    priority = priority c (leaf_of d);
    active = greatest_of (bases_where (λ n. is_active_for d (cell_state c (leaf_of d) n es)) d);
    usable = greatest_of (bases_where (λ n. is_usable c n es) d);
  }

  -- the greatest key among the decision and all that need it through a chain of needs
  abbrev pub effective_key : Decision → Key
  effective_key d =
      fold greater_key (key_of d) (map key_of (filter (λ e. needs_through c (decisions c es) e d) (decisions c es)))

  -- which of two decisions is made first: the greater effective key, then the earlier leaf, then Place
  abbrev pub is_made_before : Decision → Decision → Bool
  is_made_before d e =
      is_less (effective_key e) (effective_key d)
      || not (is_less (effective_key d) (effective_key e)) && (nat_lt (leaf_of d) (leaf_of e) || leaf_of d == leaf_of e && is_place d && not (is_place e))

  -- the one that is made next: it is ready, and before each other that is
  pub record IsMadeNext (made : List Decision) (d : Decision) : Type 0 where
    pub ready : is_ready c es made d ≡ true
    pub first : (e : Decision) → is_ready c es made e ≡ true → e ≢ d → is_made_before d e ≡ true

  -- from the decisions made so far one after another is made, until none is ready
  pub data Decides : List Decision → List Decision → Type 0 where
    all_made : (made : List Decision) → ((d : Decision) → is_ready c es made d ≡ false) → Decides made made
    one_more : (made all : List Decision) (d : Decision) → IsMadeNext made d → Decides (made ++ d ∷ []) all → Decides made all
