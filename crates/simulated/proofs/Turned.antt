-- What comes next is what is drawn, number by number.
use Rattle.std.proofs.Common.{◌≡◌, ℕ, ◌+◌, ◌<◌, ◌==◌, ◌&&◌, nat_lt, Bool, true, false, if◌then◌else◌, Option, Some, None, IfSome, length, refl, sym, ap, subst, ◌∙◌, eqb-true, arith}
use Rattle.std.proofs.lemmas.Bool.Decides.{nat_tests}
use Rattle.cluster_types.specs.declared.cluster.Cluster.{Cluster}
use Rattle.simulated.specs.declared.turn.Fate.{Fate}
use Rattle.simulated.specs.declared.turn.Fate.TheVariants as fate
use Rattle.simulated.specs.declared.turn.Turn.{Turn}
use Rattle.simulated.specs.declared.turn.Turn.TheVariants as turn
use Rattle.cases.specs.Draws.{draw}
use Rattle.simulated.specs.Inner.NodeTurns.{IsForNode, IsOfNode, draws_for_node, node_turn}
use Rattle.simulated.specs.KeptReality.{RealityOf, ShowsWorld}
use Rattle.simulated.specs.Turns.{DrawnHappening, MayCome, action_ends, count_drawn, fate_by, first_number, next_happening, by_first_number, turn_at_place, next_turn, world_at_turn}
use Rattle.simulated.specs.Inner.Turns.{calm, with_draws}
use Rattle.simulated.specs.RealWorlds.{RealWorld, is_node_off, is_node_up}
use Rattle.simulated.proofs.NextTurn.{by_tests}
use Rattle.simulated.proofs.Showing.{redrawn}

-- what comes of a node, by four tests
abbrev of_tests : Bool → Bool → Bool → Bool → ℕ → Option Turn
of_tests zero one up off node = if zero && up then Some (turn.Leaves node) else (if one && off then Some (turn.Joins node) else None)

record SomeHappens (t : Turn) (h : DrawnHappening) (drawn : ℕ) : Type 0 where
  pub is : (place : ℕ) → t ≡ turn_at_place h.happens place
  pub drawn_is : count_drawn h.happens h.drawn ≡ drawn + 1

some_happens : (zero one up off : Bool) (node : ℕ) (f : Fate) (drawn : ℕ) (t : Turn) → (zero ≡ true → one ≡ false) → Some t ≡ of_tests zero one up off node
    → SomeHappens t (by_tests zero one up off node f drawn) drawn
some_happens true one true off node f drawn t apart e = record { is = λ place. cc; drawn_is = refl }
some_happens true true false off node f drawn t apart e = let no = apart refl in absurd (let g : ⊥ = cc in g)
some_happens true false false off node f drawn t apart e = absurd (let g : ⊥ = cc in g)
some_happens false true up true node f drawn t apart e = record { is = λ place. cc; drawn_is = refl }
some_happens false true up false node f drawn t apart e = absurd (let g : ⊥ = cc in g)
some_happens false false up off node f drawn t apart e = absurd (let g : ⊥ = cc in g)

-- how many numbers are drawn for a node
abbrev drawn_for : Bool → Bool → ℕ
drawn_for zero one = if zero then 1 else (if one then 1 else 0)

record NoneHappens (zero one : Bool) (f : Fate) (h : DrawnHappening) (drawn : ℕ) : Type 0 where
  pub is : h.happens ≡ action_ends (if zero then fate.True else (if one then fate.True else f))
  pub drawn_is : h.drawn ≡ drawn + drawn_for zero one

none_happens : (zero one up off : Bool) (node : ℕ) (f : Fate) (drawn : ℕ) → None ≡ of_tests zero one up off node
    → NoneHappens zero one f (by_tests zero one up off node f drawn) drawn
none_happens true one true off node f drawn e = absurd (let g : ⊥ = cc in g)
none_happens true one false off node f drawn e = record { is = refl; drawn_is = refl }
none_happens false true up true node f drawn e = absurd (let g : ⊥ = cc in g)
none_happens false true up false node f drawn e = record { is = refl; drawn_is = refl }
none_happens false false up off node f drawn e = record { is = refl; drawn_is = omega arith }

-- a number isn't 0 and 1
apart : (die : ℕ) → (die == 0) ≡ true → (die == 1) ≡ false
apart die zero = rw (eqb-true die 0 zero) refl

-- an action of which nothing is said ends truly
true_fate : (die : ℕ) → (if die == 0 then fate.True else (if die == 1 then fate.True else fate_by (Some die))) ≡ fate_by (Some die)
true_fate die = on (die == 0) (die == 1) refl refl
  where
    on : (zero one : Bool) → (die == 0) ≡ zero → (die == 1) ≡ one → (if zero then fate.True else (if one then fate.True else fate_by (Some die))) ≡ fate_by (Some die)
    on true one a b = rw (eqb-true die 0 a) refl
    on false true a b = rw (eqb-true die 1 b) refl
    on false false a b = refl

for_node_is : (die : ℕ) → drawn_for (die == 0) (die == 1) ≡ draws_for_node (Some die)
for_node_is die = on (die == 0) (die == 1) refl refl
  where
    on : (zero one : Bool) → (die == 0) ≡ zero → (die == 1) ≡ one → drawn_for zero one ≡ draws_for_node (Some die)
    on true one a b = rw (eqb-true die 0 a) refl
    on false true a b = rw (eqb-true die 1 b) refl
    on false false a b = let high : nat_lt die 2 ≡ false = grind (arith, nat_tests) in rw high refl

one_for_node : (d : Option ℕ) → IsForNode d → draws_for_node d ≡ 1
one_for_node None low = absurd low
one_for_node (Some die) low = let here : nat_lt die 2 ≡ true = grind (arith, nat_tests) in rw here refl

module _ (c : Cluster) (number : ℕ) (w : RealWorld) where
  -- the simulated cluster of which one number was drawn, and has settled
  abbrev pub once : RealWorld
  once = with_draws (calm w) 1

  abbrev node_drawn : ℕ
  node_drawn = draw number (w.drawn + 1 + 1) (length c.nodes)

  abbrev up : Bool
  up = nat_lt node_drawn (length c.nodes) && is_node_up (w.nodes node_drawn)

  abbrev off : Bool
  off = nat_lt node_drawn (length c.nodes) && is_node_off (w.nodes node_drawn)

  some_by : (d : Option ℕ) (t : Turn) → Some t ≡ node_turn c number once d → SomeHappens t (by_first_number c number w d (w.drawn + 1)) (w.drawn + 1)
  some_by None t e = absurd (let g : ⊥ = cc in g)
  some_by (Some die) t e = some_happens (die == 0) (die == 1) up off node_drawn (fate_by (Some die)) (w.drawn + 1) t (apart die) e

  record EndsBy (d : Option ℕ) (h : DrawnHappening) : Type 0 where
    pub is : h.happens ≡ action_ends (fate_by d)
    pub drawn_is : h.drawn ≡ w.drawn + 1 + draws_for_node d

  none_by : (d : Option ℕ) → None ≡ node_turn c number once d → EndsBy d (by_first_number c number w d (w.drawn + 1))
  none_by None e = record { is = refl; drawn_is = omega arith }
  none_by (Some die) e =
      let n = none_happens (die == 0) (die == 1) up off node_drawn (fate_by (Some die)) (w.drawn + 1) e in
      record { is = n.is ∙ ap action_ends (true_fate die); drawn_is = n.drawn_is ∙ ap (λ (k : ℕ). w.drawn + 1 + k) (for_node_is die) }

  module _ (count : ℕ) (d : Option ℕ) (same : d ≡ first_number number w) where
    some_here : (t : Turn) → Some t ≡ node_turn c number once d → SomeHappens t (next_happening c number w) (w.drawn + 1)
    some_here t e = subst (λ (x : Option ℕ). SomeHappens t (by_first_number c number w x (w.drawn + 1)) (w.drawn + 1)) same (some_by d t e)

    pub some_turn : (t : Turn) → Some t ≡ node_turn c number once d → t ≡ next_turn c number w count
    some_turn t e = (some_here t e).is _

    pub some_shows : (k : RealityOf) (t : Turn) → Some t ≡ node_turn c number once d → IsForNode d → ShowsWorld k (with_draws once (draws_for_node d)) → ShowsWorld k (world_at_turn c number w)
    some_shows k t e low s =
        redrawn k (with_draws once (draws_for_node d)) (count_drawn (next_happening c number w).happens (next_happening c number w).drawn) s
        ((some_here t e).drawn_is ∙ ap (λ (n : ℕ). w.drawn + 1 + n) (sym (one_for_node d low)))

    none_here : None ≡ node_turn c number once d → EndsBy d (next_happening c number w)
    none_here e = subst (λ (x : Option ℕ). EndsBy d (by_first_number c number w x (w.drawn + 1))) same (none_by d e)

    pub none_turn : (place : ℕ) (f : Fate) → None ≡ node_turn c number once d → place ≡ draw number (w.drawn + 1 + draws_for_node d + 1) count → f ≡ fate_by d
        → turn.Ends place f ≡ next_turn c number w count
    none_turn place f e p is =
        let n = none_here e in
        ap (λ (x : ℕ). turn.Ends x f) (p ∙ ap (λ (x : ℕ). draw number (x + 1) count) (sym n.drawn_is))
        ∙ (ap (λ (x : Fate). turn.Ends (draw number ((next_happening c number w).drawn + 1) count) x) is
        ∙ ap (λ h. turn_at_place h (draw number ((next_happening c number w).drawn + 1) count)) (sym n.is))

    pub none_shows : (k : RealityOf) → None ≡ node_turn c number once d → ShowsWorld k (with_draws (with_draws once (draws_for_node d)) 1) → ShowsWorld k (world_at_turn c number w)
    none_shows k e s =
        let n = none_here e in
        redrawn k (with_draws (with_draws once (draws_for_node d)) 1) (count_drawn (next_happening c number w).happens (next_happening c number w).drawn) s
        (ap (λ h. count_drawn h (next_happening c number w).drawn) n.is ∙ ap (λ (x : ℕ). x + 1) n.drawn_is)

-- a fault comes only early
pub of_node_may : (count faults : ℕ) (t : Turn) → IsOfNode t → faults < 16 → MayCome count faults t
of_node_may count faults (turn.Leaves node) is early = early
of_node_may count faults (turn.Joins node) is early = early
of_node_may count faults (turn.Ends place f) is early = absurd is

pub low_early : (faults : ℕ) (d : Option ℕ) → IsForNode d → IfSome d (λ die. faults < 16) → faults < 16
low_early faults None low early = absurd low
low_early faults (Some die) low early = early

pub ends_may : (count faults : ℕ) (d : Option ℕ) (place : ℕ) (f : Fate) → f ≡ fate_by d → place < count → IfSome d (λ die. faults < 16) → MayCome count faults (turn.Ends place f)
ends_may count faults None place f is low early = (low, λ h. let no = rw is at h in absurd (let g : ⊥ = cc in g))
ends_may count faults (Some die) place f is low early = (low, λ h. early)
