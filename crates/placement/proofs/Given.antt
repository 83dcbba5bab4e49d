-- What locations give, with one location more, and how much it is.
use Rattle.std.proofs.Common.{◌≡◌, ℕ, ◌+◌, ◌<◌, ◌≤◌, ◌==◌, ℤ, pos, Bool, true, false, ◌&&◌, if◌then◌else◌, List, [], ◌∷◌, ◌++◌, length, map, filter, take, get_or, replicate, count_by, refl, sym, ap, ◌∙◌, arith}
use Rattle.std.proofs.lemmas.Int.{ints}
use Rattle.std.proofs.lemmas.List.{length-take, map-append, append_assoc, length-replicate, get_or-replicate, ext_get_or}
use Rattle.std.proofs.lemmas.List.Elements.{filter_more}
use Rattle.std.proofs.lemmas.List.Sums.{count_by-le-length}
use Rattle.std.proofs.lemmas.List.FromFn.{get_or-map-range_with_len, length-map-range_with_len}
use Rattle.lemmas.proofs.Booleans.{first_of_three}
use Rattle.lemmas.proofs.Counts.{count_more}
use Rattle.score.specs.Row.{Tally, score_tally_of, Stands, finite_at}
use Rattle.cluster_types.specs.declared.cluster.Cluster.{Cluster}
use Rattle.cluster_types.specs.declared.leaf.Role.{Role}
use Rattle.cluster_types.specs.declared.rules.Location.{Location}
use Rattle.cluster_types.specs.declared.rules.RuleLocation.{RuleLocation}
use Rattle.placement.specs.Locations.{located, ruled, scores_given, rule_holds_by}
use Rattle.placement.specs.Rows.{each_of, few, IsRow, more_where}
use Rattle.placement.proofs.FewTerms.{few-kept, few-append}
use Rattle.placement.proofs.Tests.{swap}

-- no terms
abbrev pub nothing : ℕ → List ℤ
nothing n = []

none-each : (nodes : ℕ) → replicate nodes [] ≡ each_of nodes nothing
none-each nodes =
    let none : List (List ℤ) = replicate nodes [] in
    ext_get_or [] none (each_of nodes nothing) (length-replicate nodes [] ∙ sym (length-map-range_with_len nothing 0 nodes))
    (λ n within. let low : n < nodes = omega (arith, within, length-replicate {A = List ℤ} nodes []) in
    get_or-replicate nodes n [] [] low ∙ sym (get_or-map-range_with_len nothing 0 nodes n n [] low (omega arith)))

-- a list without terms for each node
pub zero-row : (nodes : ℕ) (row : List Tally) → Stands row (replicate nodes []) → ((n : ℕ) → finite_at row n ≡ pos 0) → IsRow nodes nothing row
zero-row nodes row is zeros = record {
  stands = is ∙ ap (map score_tally_of) (none-each nodes);
  least = λ n low. let e = zeros n in omega (arith, ints, e);
  most = λ n low. let e = zeros n in omega (arith, ints, e);
}

pub map-one : {X : Type 0} (f : X → ℤ) (x : X) (b : Bool) → map f (if b then x ∷ [] else []) ≡ (if b then f x ∷ [] else [])
map-one f x true = refl
map-one f x false = refl

-- one element more of those that pass
pub kept-more : {X : Type 0} (f : X → ℤ) (p : X → Bool) (xs : List X) (i : ℕ) (x : X) → i < length xs → x ≡ get_or xs i x
    → map f (filter p (take (i + 1) xs)) ≡ map f (filter p (take i xs)) ++ (if p x then f x ∷ [] else [])
kept-more f p xs i x low is =
    ap (map f) (filter_more p xs i x low) ∙ (map-append f (filter p (take i xs)) _
    ∙ (ap (λ y. map f (filter p (take i xs)) ++ map f (if p y then y ∷ [] else [])) (sym is) ∙ ap (λ ys. map f (filter p (take i xs)) ++ ys) (map-one f x (p x))))

pub located-more : (passes : Role → Bool) (r : ℕ) (ls : List Location) (i : ℕ) (l : Location) → i < length ls → l ≡ get_or ls i l → (n : ℕ)
    → more_where (λ n. (l.leaf == r && passes l.role) && l.node == n) l.score (located passes r (take i ls)) n ≡ located passes r (take (i + 1) ls) n
located-more passes r ls i l low is n =
    ap (λ b. located passes r (take i ls) n ++ (if b then l.score ∷ [] else [])) (swap (l.leaf == r) (passes l.role) (l.node == n))
    ∙ sym (kept-more (λ (l : Location). l.score) (λ l. l.leaf == r && l.node == n && passes l.role) ls i l low is)

pub given-more : (c : Cluster) (moment : ℕ) (passes : Role → Bool) (r : ℕ) (ls : List Location) (rls : List RuleLocation) (i : ℕ) (rl : RuleLocation) → i < length rls → rl ≡ get_or rls i rl → (n : ℕ)
    → more_where (λ n. (rl.leaf == r && passes rl.role) && rule_holds_by c moment rl n) rl.score (scores_given c moment passes r ls (take i rls)) n ≡ scores_given c moment passes r ls (take (i + 1) rls) n
given-more c moment passes r ls rls i rl low is n =
    append_assoc (located passes r ls n) (ruled c moment passes r (take i rls) n) _
    ∙ ap (λ ts. located passes r ls n ++ ts)
    (sym (kept-more (λ (rl : RuleLocation). rl.score) (λ rl. rl.leaf == r && passes rl.role && rule_holds_by c moment rl n) rls i rl low is))

pub few-located : (passes : Role → Bool) (r : ℕ) (ls : List Location) (n : ℕ) → few (located passes r ls n) ≤ count_by (λ (l : Location). l.leaf == r) ls
few-located passes r ls n =
    let a = few-kept (λ (l : Location). l.score) (λ l. l.leaf == r && l.node == n && passes l.role) ls in
    let b = count_more (λ (l : Location). l.leaf == r && l.node == n && passes l.role) (λ l. l.leaf == r) (λ l e. first_of_three (l.leaf == r) (l.node == n) (passes l.role) e) ls in
    omega (arith, a, b)

pub few-given : (c : Cluster) (moment : ℕ) (passes : Role → Bool) (r : ℕ) (ls : List Location) (rls : List RuleLocation) (n : ℕ)
    → few (scores_given c moment passes r ls rls n) ≤ count_by (λ (l : Location). l.leaf == r) ls + count_by (λ (rl : RuleLocation). rl.leaf == r) rls
few-given c moment passes r ls rls n =
    let a = few-located passes r ls n in
    let b = few-kept (λ (rl : RuleLocation). rl.score) (λ rl. rl.leaf == r && passes rl.role && rule_holds_by c moment rl n) rls in
    let d = count_more (λ (rl : RuleLocation). rl.leaf == r && passes rl.role && rule_holds_by c moment rl n) (λ rl. rl.leaf == r)
    (λ rl e. first_of_three (rl.leaf == r) (passes rl.role) (rule_holds_by c moment rl n) e) rls in
    let e = few-append (located passes r ls n) (ruled c moment passes r rls n) in
    omega (arith, a, b, d, e)

-- so many locations at most
pub taken : {X : Type 0} (p : X → Bool) (xs : List X) (i : ℕ) → count_by p (take i xs) ≤ length xs
taken p xs i =
    let a = count_by-le-length p (take i xs) in
    let b = length-take i xs in
    omega (arith, a, b)
