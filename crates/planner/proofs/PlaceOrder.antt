-- Places compare in the order of numbers.
use Rattle.std.proofs.Common.{◌≡◌, ◌==◌, ◌&&◌, ◌||◌, nat_lt, nat_cmp, ℕ, Bool, true, false, cond, Ordering, is_lt, refl, ap, ◌∙◌}
use Rattle.std.specs.declared.cmp.Ordering.TheVariants.{Less, Equal, Greater}
use Rattle.std.specs.Ordering.{ordering_then}
use Rattle.cluster_types.specs.Numbers.{ActionPlace, is_place_before}

by_tests : (less same : Bool) (o : Ordering) → is_lt (ordering_then (cond less Less (cond same Equal Greater)) o) ≡ less || same && is_lt o
by_tests true same o = refl
by_tests false true o = refl
by_tests false false o = refl

alone : (less same : Bool) → is_lt (cond less Less (cond same Equal Greater)) ≡ less
alone true same = refl
alone false true = refl
alone false false = refl

first_then : (x y : ℕ) (o : Ordering) (rest : Bool) → is_lt o ≡ rest → is_lt (ordering_then (nat_cmp x y) o) ≡ nat_lt x y || x == y && rest
first_then x y o rest h = by_tests (nat_lt x y) (x == y) o ∙ ap (λ v. nat_lt x y || x == y && v) h

-- the lexicographic comparison of places
abbrev pub place_cmp : ActionPlace → ActionPlace → Ordering
place_cmp a b =
    ordering_then (nat_cmp a.phase b.phase) (ordering_then (nat_cmp a.ranked b.ranked) (ordering_then (nat_cmp a.leaf b.leaf)
    (ordering_then (nat_cmp a.node b.node) (nat_cmp a.interval b.interval))))

pub place_less : (a b : ActionPlace) → is_lt (place_cmp a b) ≡ is_place_before a b
place_less a b =
    first_then a.phase b.phase _ _ (first_then a.ranked b.ranked _ _ (first_then a.leaf b.leaf _ _ (first_then a.node b.node _ _
    (alone (nat_lt a.interval b.interval) (a.interval == b.interval)))))
