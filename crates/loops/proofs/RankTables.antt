-- What the table of a list of ranks gives each step.
use Rattle.std.proofs.Common.{arith, ◌≡◌, ◌≤◌, ◌+◌, ◌*◌, ◌==◌, ℕ, suc, zero, Bool, true, false, if◌then◌else◌, List, length, refl, sym, ap, ◌∙◌}
use Rattle.std.proofs.lemmas.Bool.{eqb-true, eqb-false}
use Rattle.std.proofs.lemmas.List.{get_or_past}
use Rattle.cluster_types.specs.declared.leaf.Op.{Op}
use Rattle.cluster_types.specs.declared.leaf.Op.TheVariants.{Start, Stop, Promote, Demote, Monitor}
use Rattle.cluster_types.specs.Numbers.{step_of}
use Rattle.loops.specs.Ranks.{rank_of}
use Rattle.loops.specs.Inner.RankList.{all_ranked, rank_in, ranked_steps}

-- a leaf's own row, or what the rows behind it give
own_or_later : (height : ℕ → ℕ) (first r later : ℕ) → first ≤ r → (first + 1 ≤ r → later ≡ height r) → (if first == r then height first else later) ≡ height r
own_or_later height first r later h past = on (first == r) refl
  where
    on : (b : Bool) → (first == r) ≡ b → (if b then height first else later) ≡ height r
    on true e = ap height (eqb-true first r e)
    on false e = past (let differ = eqb-false first r e in omega arith)

monitor_unranked : (height : Op → ℕ → ℕ) (first count r : ℕ) → rank_of (ranked_steps height first count) (step_of Monitor r) ≡ 0
monitor_unranked height first zero r = refl
monitor_unranked height first (suc more) r = monitor_unranked height (first + 1) more r

module _ (height : Op → ℕ → ℕ) (o : Op) (r : ℕ) where
  -- the rows give the step its height, whether it is among them or behind them
  abbrev Gives : ℕ → ℕ → Type 0
  Gives first count = first ≤ r → (first + count ≤ r → height o r ≡ 0) → rank_of (ranked_steps height first count) (step_of o r) ≡ height o r

gives : (height : Op → ℕ → ℕ) (o : Op) (r first count : ℕ) → height Monitor r ≡ 0 → Gives height o r first count
gives height Monitor r first count none = λ h past. monitor_unranked height first count r ∙ sym none
gives height o r first zero none = λ h past. sym (past (omega arith))
gives height Demote r first (suc more) none = λ h past.
    own_or_later (height Demote) first r _ h (λ k. gives height Demote r (first + 1) more none k (λ l. past (omega arith)))
gives height Stop r first (suc more) none = λ h past.
    own_or_later (height Stop) first r _ h (λ k. gives height Stop r (first + 1) more none k (λ l. past (omega arith)))
gives height Start r first (suc more) none = λ h past.
    own_or_later (height Start) first r _ h (λ k. gives height Start r (first + 1) more none k (λ l. past (omega arith)))
gives height Promote r first (suc more) none = λ h past.
    own_or_later (height Promote) first r _ h (λ k. gives height Promote r (first + 1) more none k (λ l. past (omega arith)))

-- past the end of the list there is nothing
in_past : (ranks : List ℕ) (o : Op) (r : ℕ) → length ranks ≤ r → rank_in ranks o r ≡ 0
in_past ranks Demote r h = get_or_past ranks (4 * r) 0 (omega arith)
in_past ranks Stop r h = get_or_past ranks (4 * r + 1) 0 (omega arith)
in_past ranks Start r h = get_or_past ranks (4 * r + 2) 0 (omega arith)
in_past ranks Promote r h = get_or_past ranks (4 * r + 3) 0 (omega arith)
in_past ranks Monitor r h = refl

pub rank_of_all : (ranks : List ℕ) (o : Op) (r : ℕ) → rank_of (all_ranked ranks) (step_of o r) ≡ rank_in ranks o r
rank_of_all ranks o r = gives (rank_in ranks) o r 0 (length ranks) refl (omega arith) (λ h. in_past ranks o r (omega arith))
