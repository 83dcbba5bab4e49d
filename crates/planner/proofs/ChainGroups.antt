-- A chain leads from each of its first kind to each of its other kind behind it, and nowhere else.
use Rattle.std.proofs.Common.{arith, ◌≡◌, ◌<◌, ◌≤◌, ◌+◌, ◌⊎◌, inl, inr, ℕ, Bool, true, List, [], ◌∷◌, ◌++◌, Contains, refl, sym, subst}
use Rattle.std.proofs.lemmas.List.Elements.{Contains-append_cases}
use Rattle.edges.specs.declared.edge.Edge.{Edge}
use Rattle.cluster_types.specs.Graphs.{LeadsByGates}
use Rattle.planner.specs.Inner.Gates.{chain_edges, chain_step, last_gate, next_gate, then_step}
use Rattle.planner.specs.Chains.{InChain, StandsBefore, here, later}
use Rattle.lemmas.proofs.Members.{head_or_rest, in_rest}
use Rattle.planner.specs.Inner.Groups.{IsGroup}
use Rattle.planner.proofs.Groups.{none_leads, own_ends}
use Rattle.planner.proofs.ChainEdges.{IsHeadEdge, to_then, into, onward, chain_edge, is_head, lower, next_is, next_of}
use Rattle.planner.proofs.ChainWays.{FromAction, itself_on, only_rest, FromStart, to_itself, onwards, action_on, from_action, from_start, in_tail, start_on, to_place}

module _ (actions : ℕ) (is_first is_then : ℕ → Bool) where
  abbrev chain : ℕ → List ℕ → List Edge
  chain from places = chain_edges is_first is_then from places

  abbrev head : ℕ → ℕ → List Edge
  head from place = then_step is_first is_then from place ++ chain_step is_first is_then from place

  abbrev AllWithin : List ℕ → Type 0
  AllWithin places = (i : ℕ) → Contains places i → i < actions

  rest_within : (p : ℕ) (ps : List ℕ) → AllWithin (p ∷ ps) → AllWithin ps
  rest_within p ps l i m = l i (in_rest p ps i m)

  later_enough : (from p : ℕ) → actions ≤ from → actions ≤ next_gate is_first is_then from p
  later_enough from p le = let n = next_of actions is_first is_then from p in omega arith

  start_only : (from : ℕ) (places : List ℕ) → actions ≤ from → AllWithin places → (y : ℕ) → y < actions → LeadsByGates actions (chain from places) from y
      → (is_then y ≡ true) × Contains places y
  start_only from [] le l y m h = absurd (none_leads actions from y h)
  start_only from (p ∷ ps) le l y m h =
      go (from_start actions is_first is_then from p ps le (l p (0, omega arith, refl)) (rest_within p ps l) from y h refl m)
      (start_only (next_gate is_first is_then from p) ps (later_enough from p le) (rest_within p ps l) y m)
    where
      go : FromStart actions is_first is_then from p ps le (l p (0, omega arith, refl)) (rest_within p ps l) y
          → (LeadsByGates actions (chain (next_gate is_first is_then from p) ps) (next_gate is_first is_then from p) y → (is_then y ≡ true) × Contains ps y)
          → (is_then y ≡ true) × Contains (p ∷ ps) y
      go (to_itself h q) f = (rw q h, (0, omega arith, sym q))
      go (onwards h) f = let r = f h in (r.0, in_rest p ps y r.1)

  start_all : (from : ℕ) (places : List ℕ) → actions ≤ from → AllWithin places → (y : ℕ) → is_then y ≡ true → Contains places y
      → LeadsByGates actions (chain from places) from y
  start_all from [] le l y h (k, m, n) = absurd (omega arith)
  start_all from (p ∷ ps) le l y h c =
      go (head_or_rest p ps y c) (start_all (next_gate is_first is_then from p) ps (later_enough from p le) (rest_within p ps l) y h)
    where
      go : (p ≡ y) ⊎ Contains ps y → (Contains ps y → LeadsByGates actions (chain (next_gate is_first is_then from p) ps) (next_gate is_first is_then from p) y)
          → LeadsByGates actions (chain from (p ∷ ps)) from y
      go (inl q) f =
          subst (λ v. LeadsByGates actions (chain from (p ∷ ps)) from v) q
          (to_place actions is_first is_then from p ps le (l p (0, omega arith, refl)) (rest_within p ps l) (rw q h))
      go (inr k) f = start_on actions is_first is_then from p ps le (l p (0, omega arith, refl)) (rest_within p ps l) y (f k)

  action_only : (from : ℕ) (places : List ℕ) → actions ≤ from → AllWithin places → (x y : ℕ) → x < actions → y < actions → LeadsByGates actions (chain from places) x y
      → InChain is_first is_then places x y
  action_only from [] le l x y m n h = absurd (none_leads actions x y h)
  action_only from (p ∷ ps) le l x y m n h =
      go (from_action actions is_first is_then from p ps le (l p (0, omega arith, refl)) (rest_within p ps l) x y h m n)
      (action_only (next_gate is_first is_then from p) ps (later_enough from p le) (rest_within p ps l) x y m n)
    where
      go : FromAction actions is_first is_then from p ps le (l p (0, omega arith, refl)) (rest_within p ps l) x y
          → (LeadsByGates actions (chain (next_gate is_first is_then from p) ps) x y → InChain is_first is_then ps x y) → InChain is_first is_then (p ∷ ps) x y
      go (itself_on h q k) f =
          let r = start_only (next_gate is_first is_then from p) ps (later_enough from p le) (rest_within p ps l) y n k in
          record { first = rw q h; then_is = r.0; before = subst (λ v. StandsBefore v y (p ∷ ps)) (sym q) (here ps r.1) }
      go (only_rest k) f = let r = f k in record { first = r.first; then_is = r.then_is; before = later p ps r.before }

  action_all : (x y from : ℕ) (places : List ℕ) → actions ≤ from → AllWithin places → is_first x ≡ true → is_then y ≡ true → StandsBefore x y places
      → LeadsByGates actions (chain from places) x y
  action_all x y from _ le l h k (here ps c) =
      action_on actions is_first is_then from x ps le (l x (0, omega arith, refl)) (rest_within x ps l) h y
      (start_all (next_gate is_first is_then from x) ps (later_enough from x le) (rest_within x ps l) y k c)
  action_all x y from _ le l h k (later p ps b) =
      in_tail actions is_first is_then from p ps le (l p (0, omega arith, refl)) (rest_within p ps l) x y
      (action_all x y (next_gate is_first is_then from p) ps (later_enough from p le) (rest_within p ps l) h k b)

  -- no gate lies behind the last one
  last_up : (from : ℕ) (places : List ℕ) → from ≤ last_gate is_first is_then from places
  last_up from [] = omega arith
  last_up from (p ∷ ps) =
      let n = next_of actions is_first is_then from p in
      let r = last_up (next_gate is_first is_then from p) ps in
      omega arith

  head_below : (from place most : ℕ) → actions ≤ from → place < actions → next_gate is_first is_then from place ≤ most → (e : Edge) → IsHeadEdge actions is_first is_then from place e
      → (e.before < most + 1) × (e.after < most + 1)
  head_below from place most le l m _ (to_then h) = let n = next_of actions is_first is_then from place in (omega arith, omega arith)
  head_below from place most le l m _ (into h) = let n = next_is actions is_first is_then from place h in (omega arith, omega arith)
  head_below from place most le l m _ (onward h) = let n = next_is actions is_first is_then from place h in (omega arith, omega arith)

  chain_below : (from : ℕ) (places : List ℕ) → actions ≤ from → AllWithin places → (e : Edge) → Contains (chain from places) e
      → (e.before < last_gate is_first is_then from places + 1) × (e.after < last_gate is_first is_then from places + 1)
  chain_below from [] le l e (k, m, n) = absurd (omega arith)
  chain_below from (p ∷ ps) le l e c =
      go (Contains-append_cases (head from p) (chain (next_gate is_first is_then from p) ps) e c)
      (chain_below (next_gate is_first is_then from p) ps (later_enough from p le) (rest_within p ps l) e)
    where
      go : Contains (head from p) e ⊎ Contains (chain (next_gate is_first is_then from p) ps) e
          → (Contains (chain (next_gate is_first is_then from p) ps) e
          → (e.before < last_gate is_first is_then (next_gate is_first is_then from p) ps + 1) × (e.after < last_gate is_first is_then (next_gate is_first is_then from p) ps + 1))
          → (e.before < last_gate is_first is_then (next_gate is_first is_then from p) ps + 1) × (e.after < last_gate is_first is_then (next_gate is_first is_then from p) ps + 1)
      go (inl h) f =
          head_below from p (last_gate is_first is_then (next_gate is_first is_then from p) ps) le (l p (0, omega arith, refl))
          (last_up (next_gate is_first is_then from p) ps) e (is_head actions is_first is_then from p e h)
      go (inr h) f = f h

  pub chain_group : (from : ℕ) (places : List ℕ) → actions ≤ from → AllWithin places
      → IsGroup actions from (last_gate is_first is_then from places + 1) (chain from places) (InChain is_first is_then places)
  chain_group from places le l = record {
    enough = le;
    ordered = let u = last_up from places in omega arith;
    own = λ e c. let r = chain_edge actions is_first is_then from places le l e c in own_ends actions from e (r.before, lower actions is_first is_then from (from + 1) e.after (omega arith) r.after);
    below = chain_below from places le l;
    upward = λ e c. (chain_edge actions is_first is_then from places le l e c).upward;
    only = action_only from places le l;
    all = λ x y m n h. action_all x y from places le l h.first h.then_is h.before;
  }
