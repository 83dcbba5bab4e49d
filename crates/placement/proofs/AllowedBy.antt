-- Where colocations allow a decision, with one colocation more.
use Rattle.std.proofs.Common.{◌≡◌, ℕ, ◌+◌, ◌<◌, Bool, true, false, not, ◌&&◌, ◌||◌, List, [], ◌∷◌, length, take, get_or, refl, sym, ap, ◌∙◌}
use Rattle.std.specs.List.{list_all}
use Rattle.std.proofs.lemmas.List.Folds.{list_all_more}
use Rattle.std.proofs.Math.Bool.{and_assoc}
use Rattle.cluster_types.specs.declared.placement.Decision.{Decision}
use Rattle.cluster_types.specs.declared.rules.Colocation.{Colocation}
use Rattle.cluster_types.specs.Choice.{is_dependent, is_mandatory, is_primary, is_separation}
use Rattle.cluster_types.specs.Tables.{Targets, holds_role}
use Rattle.placement.specs.Tests.{has_primary, keeps_apart}
use Rattle.placement.specs.Inner.AllowedNodes.{allows, is_strict}

free : (m s d p h k : Bool) → (m && d || s && (d || p)) ≡ false → ((not (m && d) || h) && (not s || not (d && h) && not (p && k))) ≡ true
free true s true p h k e = cc
free true true false true h k e = cc
free true true false false h k e = refl
free true false false p h k e = refl
free false true true p h k e = cc
free false true false true h k e = cc
free false true false false h k e = refl
free false false d p h k e = refl

-- a colocation that may not forbid a node allows all
pub free-allows : (table : Targets) (d : Decision) (n : ℕ) (col : Colocation) → is_strict d col ≡ false → allows table d n col ≡ true
free-allows table d n col e =
    free (is_mandatory col) (is_separation col) (is_dependent d col) (is_primary d col) (holds_role table col.primary col.primary_role n)
    (holds_role table col.dependent col.dependent_role n) e

-- one colocation more
pub allowed-more : (table : Targets) (d : Decision) (n : ℕ) (cols : List Colocation) (i : ℕ) (col : Colocation) → i < length cols → col ≡ get_or cols i col → (among : Bool)
    → ((among && list_all (allows table d n) (take i cols)) && allows table d n col) ≡ (among && list_all (allows table d n) (take (i + 1) cols))
allowed-more table d n cols i col low is among =
    and_assoc among (list_all (allows table d n) (take i cols)) (allows table d n col)
    ∙ ap (λ b. among && b)
    (ap (λ x. list_all (allows table d n) (take i cols) && allows table d n x) is ∙ sym (list_all_more (allows table d n) cols i col low))

crossed : (a b d e : Bool) → ((a && b) && (d && e)) ≡ ((a && d) && (b && e))
crossed true true true e = refl
crossed true true false e = refl
crossed true false true e = refl
crossed true false false e = refl
crossed false b d e = refl

both-pass : {X : Type 0} (p q : X → Bool) (xs : List X) → list_all (λ x. p x && q x) xs ≡ (list_all p xs && list_all q xs)
both-pass p q [] = refl
both-pass p q (x ∷ xs) = ap (λ b. (p x && q x) && b) (both-pass p q xs) ∙ crossed (p x) (q x) (list_all p xs) (list_all q xs)

-- each colocation allows where each has its primary and each keeps apart
pub allowed-by-both : (table : Targets) (d : Decision) (n : ℕ) (cols : List Colocation)
    → list_all (allows table d n) cols ≡ (list_all (has_primary table d n) cols && list_all (keeps_apart table d n) cols)
allowed-by-both table d n cols = both-pass (has_primary table d n) (keeps_apart table d n) cols
