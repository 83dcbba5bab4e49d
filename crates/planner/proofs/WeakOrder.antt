-- The order of numbers is an order in which any two actions compare, and places that are apart come one before the other.
use Rattle.std.proofs.Common.{arith, ◌≡◌, ◌==◌, ◌&&◌, ◌||◌, nat_lt, ℕ, Bool, true, false, refl}
use Rattle.cluster_types.specs.Numbers.{ActionPlace, is_place_before}
use Rattle.cluster_types.proofs.NumberLaws.{by_leaf, by_node, by_rank}

chain_first : (x y z : ℕ) (p q r : Bool) → (p ≡ false → q ≡ false → r ≡ false) → nat_lt x y || x == y && p ≡ false → nat_lt y z || y == z && q ≡ false
    → nat_lt x z || x == z && r ≡ false
chain_first x y z true true r f h k = grind arith
chain_first x y z true false r f h k = grind arith
chain_first x y z false true r f h k = grind arith
chain_first x y z false false true f h k = let e : true ≡ false = f refl refl in cc
chain_first x y z false false false f h k = grind arith

chain_less : (x y z : ℕ) → nat_lt x y ≡ false → nat_lt y z ≡ false → nat_lt x z ≡ false
chain_less x y z h k = grind arith

chain_node : (a b d : ActionPlace) → by_node a b ≡ false → by_node b d ≡ false → by_node a d ≡ false
chain_node a b d h k =
    chain_first a.node b.node d.node (nat_lt a.interval b.interval) (nat_lt b.interval d.interval) (nat_lt a.interval d.interval)
    (chain_less a.interval b.interval d.interval) h k

chain_leaf : (a b d : ActionPlace) → by_leaf a b ≡ false → by_leaf b d ≡ false → by_leaf a d ≡ false
chain_leaf a b d h k = chain_first a.leaf b.leaf d.leaf (by_node a b) (by_node b d) (by_node a d) (chain_node a b d) h k

chain_rank : (a b d : ActionPlace) → by_rank a b ≡ false → by_rank b d ≡ false → by_rank a d ≡ false
chain_rank a b d h k = chain_first a.ranked b.ranked d.ranked (by_leaf a b) (by_leaf b d) (by_leaf a d) (chain_leaf a b d) h k

pub chain_places : (a b d : ActionPlace) → is_place_before a b ≡ false → is_place_before b d ≡ false → is_place_before a d ≡ false
chain_places a b d h k = chain_first a.phase b.phase d.phase (by_rank a b) (by_rank b d) (by_rank a d) (chain_rank a b d) h k

-- where neither of two numbers is less, they are the same, and the rest decides
record Same (x y : ℕ) (p q : Bool) : Type 0 where
  same : x ≡ y
  forth : p ≡ false
  back : q ≡ false

neither : (x y : ℕ) (p q : Bool) → nat_lt x y || x == y && p ≡ false → nat_lt y x || y == x && q ≡ false → Same x y p q
neither x y true true h k = let e : false ≡ true = grind arith in cc
neither x y true false h k = let e : false ≡ true = grind arith in cc
neither x y false true h k = let e : false ≡ true = grind arith in cc
neither x y false false h k = record { same = let e : x ≡ y = grind arith in e; forth = refl; back = refl }

same_numbers : (x y : ℕ) → nat_lt x y ≡ false → nat_lt y x ≡ false → x ≡ y
same_numbers x y h k = grind arith

same_place : (a b : ActionPlace) → is_place_before a b ≡ false → is_place_before b a ≡ false → a ≡ b
same_place a b h k =
    let phase = neither a.phase b.phase (by_rank a b) (by_rank b a) h k in
    let ranked = neither a.ranked b.ranked (by_leaf a b) (by_leaf b a) phase.forth phase.back in
    let leaf = neither a.leaf b.leaf (by_node a b) (by_node b a) ranked.forth ranked.back in
    let node = neither a.node b.node (nat_lt a.interval b.interval) (nat_lt b.interval a.interval) leaf.forth leaf.back in
    let interval = same_numbers a.interval b.interval node.forth node.back in
    λ i. record { phase = phase.same i; ranked = ranked.same i; leaf = leaf.same i; node = node.same i; interval = interval i }

pub one_first : (a b : ActionPlace) → (a ≡ b → ⊥) → is_place_before a b || is_place_before b a ≡ true
one_first a b apart = on (is_place_before a b) (is_place_before b a) refl refl
  where
    on : (p q : Bool) → is_place_before a b ≡ p → is_place_before b a ≡ q → p || q ≡ true
    on true q e f = refl
    on false true e f = refl
    on false false e f = absurd (apart (same_place a b e f))
