-- Which nodes locations name, with one location more.
use Rattle.std.proofs.Common.{◌≡◌, ℕ, ◌+◌, ◌<◌, ◌==◌, Bool, true, false, ◌&&◌, ◌||◌, List, length, take, get_or, refl, sym, ap, ◌∙◌, arith}
use Rattle.std.proofs.lemmas.List.Folds.{list_any_more}
use Rattle.std.proofs.Math.Bool.{or_assoc}
use Rattle.cluster_types.specs.declared.cluster.Cluster.{Cluster}
use Rattle.cluster_types.specs.declared.rules.Location.{Location}
use Rattle.cluster_types.specs.declared.rules.RuleLocation.{RuleLocation}
use Rattle.placement.specs.Locations.{is_named, is_named_by_rule, rule_holds_by}

turned : (new old before : Bool) → (new || (old || before)) ≡ (old || (before || new))
turned true true before = refl
turned true false true = refl
turned true false false = refl
turned false true before = refl
turned false false true = refl
turned false false false = refl

-- a location without a rule
pub named-more : (r : ℕ) (ls : List Location) (i : ℕ) (l : Location) → i < length ls → l ≡ get_or ls i l → (old : Bool) (n : ℕ)
    → ((l.leaf == r) && n == l.node || (old || is_named r (take i ls) n)) ≡ (old || is_named r (take (i + 1) ls) n)
named-more r ls i l low is old n =
    turned ((l.leaf == r) && n == l.node) old (is_named r (take i ls) n)
    ∙ ap (λ b. old || b)
    (ap (λ b. is_named r (take i ls) n || (l.leaf == r && b)) (let same : (n == l.node) ≡ (l.node == n) = grind arith in same)
    ∙ (ap (λ (x : Location). is_named r (take i ls) n || (x.leaf == r && x.node == n)) is
    ∙ sym (list_any_more (λ (x : Location). x.leaf == r && x.node == n) ls i l low)))

-- a location with one
pub ruled-more : (c : Cluster) (moment r : ℕ) (rls : List RuleLocation) (i : ℕ) (rl : RuleLocation) → i < length rls → rl ≡ get_or rls i rl → (old : Bool) (n : ℕ)
    → ((old || is_named_by_rule c moment r (take i rls) n) || (rl.leaf == r && rule_holds_by c moment rl n)) ≡ (old || is_named_by_rule c moment r (take (i + 1) rls) n)
ruled-more c moment r rls i rl low is old n =
    or_assoc old (is_named_by_rule c moment r (take i rls) n) (rl.leaf == r && rule_holds_by c moment rl n)
    ∙ ap (λ b. old || b)
    (ap (λ (x : RuleLocation). is_named_by_rule c moment r (take i rls) n || (x.leaf == r && rule_holds_by c moment x n)) is
    ∙ sym (list_any_more (λ (x : RuleLocation). x.leaf == r && rule_holds_by c moment x n) rls i rl low))
