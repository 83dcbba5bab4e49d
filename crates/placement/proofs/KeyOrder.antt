-- Keys are in an order, in which the greater of two is their least bound; and so is the greatest of some.
use Rattle.std.proofs.Common.{arith, ◌≡◌, ◌&&◌, ◌||◌, int_lt, ℤ, Bool, true, false, if◌then◌else◌, Option, Some, None, List, [], ◌∷◌, fold, inl, inr, refl, sym, subst, Contains}
use Rattle.std.proofs.lemmas.Bool.{false_from_ne_true}
use Rattle.std.proofs.lemmas.Int.{ints}
use Rattle.std.specs.Ordering.{int_eq}
use Rattle.lemmas.proofs.Members.{at_head, head_or_rest, in_none, in_rest}
use Rattle.cluster_types.specs.Decisions.{Key, greater_key, is_less}
use Rattle.plan_laws.proofs.MadeBefore.{less_somewhere}
use Rattle.plan_laws.proofs.OneOrder.{less_one_way}
use Rattle.placement.specs.Inner.Lending.{greater_by}

-- number by number

same_number : (x y : ℤ) (p q : Bool) → int_lt x y || int_eq x y && p ≡ false → int_lt y x || int_eq y x && q ≡ false → x ≡ y
same_number x y true true h k = grind (arith, ints)
same_number x y true false h k = grind (arith, ints)
same_number x y false true h k = grind (arith, ints)
same_number x y false false h k = grind (arith, ints)

later_number : (x y : ℤ) (p : Bool) → x ≡ y → int_lt x y || int_eq x y && p ≡ false → p ≡ false
later_number x y true e h = let f : true ≡ false = grind (arith, ints) in f
later_number x y false e h = refl

last_number : (x y : ℤ) → int_lt x y ≡ false → int_lt y x ≡ false → x ≡ y
last_number x y h k = grind (arith, ints)

-- no key is less than itself, and of two that aren't less than one another the one is the other
pub not_itself : (a : Key) → is_less a a ≡ false
not_itself a = false_from_ne_true (is_less a a) (λ h. less_one_way a a h h)

pub one_key : (a b : Key) → is_less a b ≡ false → is_less b a ≡ false → a ≡ b
one_key a b h k =
    let rank : a.priority ≡ b.priority = same_number a.priority b.priority (int_lt a.active b.active || int_eq a.active b.active && int_lt a.usable b.usable)
    (int_lt b.active a.active || int_eq b.active a.active && int_lt b.usable a.usable) h k in
    let h1 = later_number a.priority b.priority (int_lt a.active b.active || int_eq a.active b.active && int_lt a.usable b.usable) rank h in
    let k1 = later_number b.priority a.priority (int_lt b.active a.active || int_eq b.active a.active && int_lt b.usable a.usable) (sym rank) k in
    let active : a.active ≡ b.active = same_number a.active b.active (int_lt a.usable b.usable) (int_lt b.usable a.usable) h1 k1 in
    let h2 = later_number a.active b.active (int_lt a.usable b.usable) active h1 in
    let k2 = later_number b.active a.active (int_lt b.usable a.usable) (sym active) k1 in
    let usable : a.usable ≡ b.usable = last_number a.usable b.usable h2 k2 in
    λ i. record { priority = rank i; active = active i; usable = usable i }

neither : (p q : Bool) → p || q ≡ true → p ≡ false → q ≡ false → ⊥
neither true q h e f = cc
neither false q h e f = cc

-- what is at most a key is at most each that this one is at most
pub at_most_onward : (a b d : Key) → is_less b a ≡ false → is_less d b ≡ false → is_less d a ≡ false
at_most_onward a b d h k = false_from_ne_true (is_less d a) (λ l. neither (is_less d b) (is_less b a) (less_somewhere d a b l) k h)

-- the greater of two

module _ (a b : Key) where
  first_kept : (less : Bool) → is_less a b ≡ less → is_less (if less then b else a) a ≡ false
  first_kept true e = false_from_ne_true (is_less b a) (λ h. less_one_way a b e h)
  first_kept false e = not_itself a

  pub second_kept : (less : Bool) → is_less a b ≡ less → is_less (if less then b else a) b ≡ false
  second_kept true e = not_itself b
  second_kept false e = e

  pub least_bound : (u : Key) (less : Bool) → is_less u a ≡ false → is_less u b ≡ false → is_less u (if less then b else a) ≡ false
  least_bound u true h k = k
  least_bound u false h k = h

-- the greatest of a key and some lent ones

pub own_kept : (own : Key) (lent : Option Key) → is_less (greater_by own lent) own ≡ false
own_kept own None = not_itself own
own_kept own (Some lent) = first_kept own lent (is_less own lent) refl

pub greatest_keeps_own : (own : Key) (lent : List (Option Key)) → is_less (fold greater_by own lent) own ≡ false
greatest_keeps_own own [] = not_itself own
greatest_keeps_own own (x ∷ xs) = at_most_onward own (greater_by own x) (fold greater_by (greater_by own x) xs) (own_kept own x) (greatest_keeps_own (greater_by own x) xs)

pub greatest_keeps_each : (own : Key) (lent : List (Option Key)) (k : Key) → Contains lent (Some k) → is_less (fold greater_by own lent) k ≡ false
greatest_keeps_each own [] k h = absurd (in_none (Some k) h)
greatest_keeps_each own (x ∷ xs) k h = elim (head_or_rest x xs (Some k) h) [
  | inl e ↦ subst (λ (o : Option Key). is_less (fold greater_by (greater_by own o) xs) k ≡ false) (sym e)
      (at_most_onward k (greater_key own k) (fold greater_by (greater_key own k) xs) (second_kept own k (is_less own k) refl) (greatest_keeps_own (greater_key own k) xs))
  | inr rest ↦ greatest_keeps_each (greater_by own x) xs k rest
]

pub greatest_is_least : (own : Key) (lent : List (Option Key)) (u : Key) → is_less u own ≡ false
    → ((k : Key) → Contains lent (Some k) → is_less u k ≡ false) → is_less u (fold greater_by own lent) ≡ false
greatest_is_least own [] u h each = h
greatest_is_least own (x ∷ xs) u h each =
    greatest_is_least (greater_by own x) xs u (with_one x refl) (λ k there. each k (in_rest x xs (Some k) there))
  where
    with_one : (y : Option Key) → x ≡ y → is_less u (greater_by own y) ≡ false
    with_one None e = h
    with_one (Some k) e = least_bound own k u (is_less own k) h (each k (at_head x xs (Some k) e))
