-- Rows of the scores of the colocations that count, with one colocation and one node more.
use Rattle.std.proofs.Common.{◌≡◌, ℕ, ◌+◌, ◌<◌, ◌≤◌, ◌==◌, ℤ, Bool, false, not, ◌&&◌, nat_lt, if◌then◌else◌, List, [], ◌∷◌, ◌++◌, length, take, get_or, sym, ap, ◌∙◌, append-nil, arith}
use Rattle.std.proofs.lemmas.Bool.{and_left, and_right}
use Rattle.score.specs.Row.{Tally}
use Rattle.cluster_types.specs.declared.placement.Decision.{Decision}
use Rattle.cluster_types.specs.declared.rules.Colocation.{Colocation}
use Rattle.cluster_types.specs.Choice.{is_dependent, is_mandatory, is_separation}
use Rattle.cluster_types.specs.Tables.{Targets, holds_role}
use Rattle.placement.specs.Tests.{counts}
use Rattle.placement.specs.Rows.{few, IsRow, more_where}
use Rattle.placement.proofs.EachNode.{each-more}
use Rattle.placement.proofs.FewTerms.{few-kept}
use Rattle.placement.proofs.Given.{taken, kept-more}
use Rattle.placement.proofs.TermRows.{row-same}
use Rattle.placement.specs.Inner.CountedScores.{counted_scores}

-- one more node of those that pass
pub one-node : (nodes : ℕ) (p : ℕ → Bool) (k : ℕ) (here : Bool) (term : ℤ) (terms : ℕ → List ℤ) (row : List Tally) → p k ≡ here
    → IsRow nodes (more_where (λ n. here && k == n) term (more_where (λ n. nat_lt n k && p n) term terms)) row
    → IsRow nodes (more_where (λ n. nat_lt n (k + 1) && p n) term terms) row
one-node nodes p k here term terms row e is =
    row-same nodes (more_where (λ n. here && k == n) term (more_where (λ n. nat_lt n k && p n) term terms)) (more_where (λ n. nat_lt n (k + 1) && p n) term terms) row
    (λ n low. ap (λ b. more_where (λ m. b && k == m) term (more_where (λ m. nat_lt m k && p m) term terms) n) (sym e) ∙ each-more p k term terms n) is

-- a colocation of another dependent gives nothing
pub not-counted : (table : Targets) (d : Decision) (col : Colocation) (nodes : ℕ) (terms : ℕ → List ℤ) (row : List Tally) → is_dependent d col ≡ false
    → IsRow nodes terms row → IsRow nodes (more_where (λ n. counts table d n col) col.score terms) row
not-counted table d col nodes terms row e is =
    row-same nodes terms (more_where (λ n. counts table d n col) col.score terms) row
    (λ n low. sym (ap (λ b. terms n ++ (if b then col.score ∷ [] else []))
    (and_left (not (is_mandatory col) && not (is_separation col) && is_dependent d col) (holds_role table col.primary col.primary_role n)
    (and_right (not (is_mandatory col) && not (is_separation col)) (is_dependent d col) e))
    ∙ append-nil (terms n))) is

-- one colocation more
pub counted-more : (table : Targets) (d : Decision) (cols : List Colocation) (i : ℕ) (col : Colocation) → i < length cols → col ≡ get_or cols i col → (n : ℕ)
    → more_where (λ m. counts table d m col) col.score (counted_scores table d (take i cols)) n ≡ counted_scores table d (take (i + 1) cols) n
counted-more table d cols i col low is n = sym (kept-more (λ (x : Colocation). x.score) (counts table d n) cols i col low is)

-- they are few
pub few-counted : (table : Targets) (d : Decision) (cols : List Colocation) (i n : ℕ) → few (counted_scores table d (take i cols) n) ≤ length cols
few-counted table d cols i n =
    let a = few-kept (λ (x : Colocation). x.score) (counts table d n) (take i cols) in
    let b = taken (counts table d n) cols i in
    omega (arith, a, b)
