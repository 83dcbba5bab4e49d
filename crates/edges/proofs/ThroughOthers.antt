-- What leads through others, computed, is a chain of links; and a chain of any length is found, where all that it passes is among those others.
use Rattle.std.proofs.Common.{arith, ◌≡◌, ◌==◌, ◌&&◌, ℕ, Bool, true, List, [], ◌∷◌, ◌⊎◌, inl, inr, refl, Contains, Any}
use Rattle.std.specs.Prelude.{◌↔◌, ⊤}
use Rattle.std.specs.List.{range_with_len}
use Rattle.std.proofs.lemmas.Bool.{and_from, or_left, or_right}
use Rattle.std.proofs.lemmas.List.Folds.{Any-from_list_any}
use Rattle.lemmas.proofs.Booleans.{either, later, number_itself, sooner}
use Rattle.lemmas.proofs.Members.{at_head, head_or_rest, in_none, in_range, in_rest}
use Rattle.lemmas.proofs.Searches.{passes_by}
use Rattle.edges.specs.declared.edge.Edge.{Edge}
use Rattle.edges.specs.Chains.{ChainThrough, leads_through, link_then, linked, one_link}
use Rattle.edges.specs.Loops.{EndsWithin, IsEdge, Leads, is_edge}

-- a chain, and one that begins where it ends, are one chain
pub chain_then : {X : Type 0} (Between : X → Type 0) (Linked : X → X → Type 0) (x y z : X) → ChainThrough Between Linked x y → Between y
    → ChainThrough Between Linked y z → ChainThrough Between Linked x z
chain_then Between Linked x y z (one_link _ _ l) at rest = link_then x y z l at rest
chain_then Between Linked x y z (link_then _ via _ l there more) at rest =
    link_then x via z l there (chain_then Between Linked via y z more at rest)

module _ {X : Type 0} (is_linked : X → X → Bool) where
  abbrev leads : List X → X → X → Bool
  leads = leads_through is_linked

  pub at_once : (others : List X) (x y : X) → is_linked x y ≡ true → leads others x y ≡ true
  at_once [] x y h = h
  at_once (via ∷ others) x y h = or_left _ _ (at_once others x y h)

  -- on to the one that is passed first, which is led through once at most
  to_first : (others : List X) (x via : X) → leads (via ∷ others) x via ≡ true → leads others x via ≡ true
  to_first others x via h =
      either (leads others x via) (leads others x via && leads others via via) h (λ on. on) (λ twice. sooner (leads others x via) _ twice)

  from_first : (others : List X) (via y : X) → leads (via ∷ others) via y ≡ true → leads others via y ≡ true
  from_first others via y h =
      either (leads others via y) (leads others via via && leads others via y) h (λ on. on) (λ twice. later (leads others via via) _ twice)

  by_first : (others : List X) (x via y : X) → leads others x via ≡ true → leads others via y ≡ true → leads (via ∷ others) x y ≡ true
  by_first others x via y to on = or_right (leads others x y) _ (and_from (leads others x via) _ to on)

  -- what leads on to one of these, and on from it, leads all the way
  pub led_on : (others : List X) (x via y : X) → Contains others via → leads others x via ≡ true → leads others via y ≡ true
      → leads others x y ≡ true
  led_on [] x via y there to on = absurd (in_none via there)
  led_on (first ∷ others) x via y there to on = at (head_or_rest first others via there) (led_on others) where
    at : (first ≡ via) ⊎ Contains others via
        → ((x via y : X) → Contains others via → leads others x via ≡ true → leads others via y ≡ true → leads others x y ≡ true)
        → leads (first ∷ others) x y ≡ true
    at (inl same) next =
        by_first others x first y (to_first others x first (rw (← same) at to)) (from_first others first y (rw (← same) at on))
    at (inr rest) next =
        either (leads others x via) (leads others x first && leads others first via) to
        (λ a. either (leads others via y) (leads others via first && leads others first y) on
        (λ b. or_left _ _ (next x via y rest a b))
        (λ b. by_first others x first y (next x via first rest a (sooner (leads others via first) _ b)) (later (leads others via first) _ b)))
        (λ a. either (leads others via y) (leads others via first && leads others first y) on
        (λ b. by_first others x first y (sooner (leads others x first) _ a) (next first via y rest (later (leads others x first) _ a) b))
        (λ b. by_first others x first y (sooner (leads others x first) _ a) (later (leads others via first) _ b)))

  module _ (Linked : X → X → Type 0) (tested : (x y : X) → Linked x y ↔ (is_linked x y ≡ true)) (Between : X → Type 0) where
    abbrev Through : X → X → Type 0
    Through = ChainThrough Between Linked

    pub chain_of_led : (others : List X) → ((via : X) → Contains others via → Between via) → (x y : X) → leads others x y ≡ true → Through x y
    chain_of_led [] allowed x y h = one_link x y ((tested x y).1 h)
    chain_of_led (via ∷ others) allowed x y h = on (chain_of_led others (λ v there. allowed v (in_rest via others v there))) where
      on : ((x y : X) → leads others x y ≡ true → Through x y) → Through x y
      on next =
          either (leads others x y) (leads others x via && leads others via y) h (λ one. next x y one)
          (λ two. chain_then Between Linked x via y (next x via (sooner (leads others x via) _ two)) (allowed via (at_head via others via refl))
          (next via y (later (leads others x via) _ two)))

    -- whatever a chain passes is among these
    abbrev PassesAmong : List X → Type 0
    PassesAmong others = (x via y : X) → Linked x via → Linked via y → Between via → Contains others via

    first_passed : (others : List X) → PassesAmong others → (x via y : X) → Linked x via → Between via → Through via y → Contains others via
    first_passed others among x via _ l at (one_link _ y m) = among x via y l m at
    first_passed others among x via _ l at (link_then _ z _ m there rest) = among x via z l m at

    pub chain_is_led : (others : List X) → PassesAmong others → (x y : X) → Through x y → leads others x y ≡ true
    chain_is_led others among x y (one_link _ _ l) = at_once others x y ((tested x y).0 l)
    chain_is_led others among x y (link_then _ via _ l at rest) =
        led_on others x via y (first_passed others among x via y l at rest) (at_once others x via ((tested x via).0 l))
        (chain_is_led others among via y rest)

    -- through what may be between, where that is these, or all of these that a chain can pass
    pub chains_computed : (others : List X) → ((via : X) → Contains others via → Between via) → PassesAmong others → (x y : X)
        → Through x y ↔ (leads others x y ≡ true)
    chains_computed others allowed among x y = (chain_is_led others among x y, chain_of_led others allowed x y)

-- ways along edges

pub edge_passes : (edges : List Edge) (x y : ℕ) → IsEdge edges x y → is_edge edges x y ≡ true
edge_passes edges _ _ (linked e h) =
    passes_by (λ (f : Edge). f.before == e.before && f.after == e.after) edges e h
    (and_from (e.before == e.before) _ (number_itself e.before) (number_itself e.after))

found_edge : (edges : List Edge) (x y : ℕ) → Any (λ (e : Edge). e.before == x && e.after == y ≡ true) edges → IsEdge edges x y
found_edge edges x y (k, e, lt, there, h) =
    let s = sooner (e.before == x) _ h in
    let t = later (e.before == x) _ h in
    let from : e.before ≡ x = grind (arith, s) in
    let to : e.after ≡ y = grind (arith, t) in
    rw (← from) (rw (← to) (linked e (k, lt, there)))

pub edge_tested : (edges : List Edge) (x y : ℕ) → IsEdge edges x y ↔ (is_edge edges x y ≡ true)
edge_tested edges x y =
    (edge_passes edges x y, λ h. found_edge edges x y (Any-from_list_any (λ (e : Edge). e.before == x && e.after == y) edges h))

begins_at_position : (positions : ℕ) (edges : List Edge) → EndsWithin positions edges → (x y : ℕ) → IsEdge edges x y
    → Contains (range_with_len 0 positions) x
begins_at_position positions edges ends _ _ (linked e h) =
    let w = (ends e h).0 in
    in_range 0 positions e.before (omega arith) (omega arith)

pub ways_computed : (positions : ℕ) (edges : List Edge) → EndsWithin positions edges
    → (x y : ℕ) → Leads edges x y ↔ (leads_through (is_edge edges) (range_with_len 0 positions) x y ≡ true)
ways_computed positions edges ends =
    chains_computed (is_edge edges) (IsEdge edges) (edge_tested edges) (λ via. ⊤) (range_with_len 0 positions) (λ via there. tt)
    (λ x via y l m at. begins_at_position positions edges ends via y m)

-- through these positions alone
pub ways_through_computed : (edges : List Edge) (others : List ℕ) (x y : ℕ)
    → ChainThrough (Contains others) (IsEdge edges) x y ↔ (leads_through (is_edge edges) others x y ≡ true)
ways_through_computed edges others =
    chains_computed (is_edge edges) (IsEdge edges) (edge_tested edges) (Contains others) others (λ via there. there) (λ x via y l m at. at)
