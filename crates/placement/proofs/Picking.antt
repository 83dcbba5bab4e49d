-- One more node is picked: the first of those that are left.
use Rattle.std.proofs.Common.{◌≡◌, ◌≢◌, inl, inr, ℕ, ◌+◌, ◌<◌, ◌≤◌, ◌==◌, true, false, not, ◌&&◌, ◌||◌, ℤ, List, length, refl, sym, ap, ◌∙◌, arith}
use Rattle.std.proofs.Math.Bool.{or-true}
use Rattle.std.proofs.lemmas.Bool.{cases_eq, false_from_ne_true, false≢true, ne_eqb}
use Rattle.std.specs.List.{range_with_len}
use Rattle.lemmas.proofs.Counts.{count_of_none}
use Rattle.lemmas.proofs.Booleans.{number_itself}
use Rattle.cluster_types.proofs.Loads.{one_more_counted}
use Rattle.score.specs.Choice.{GoesBefore, IsGreatest}
use Rattle.score.specs.NodeSet.{has}
use Rattle.score.specs.declared.node_set.NodeSet.{NodeSet}
use Rattle.placement.specs.Inner.Picks.{ArePicked, size_of}

-- so many were picked, and the others are left
pub record Picked (totals : List ℤ) (loads : List ℕ) (among : NodeSet) (turn : ℕ) (chosen left : NodeSet) : Type 0 where
  pub parted : (n : ℕ) → has among n ≡ (has chosen n || has left n)
  pub apart : (n : ℕ) → has chosen n ≡ true → has left n ≡ false
  pub first : (n m : ℕ) → has chosen n ≡ true → has left m ≡ true → GoesBefore totals loads n m
  pub size : size_of (length totals) chosen ≡ turn

module _ (totals : List ℤ) (loads : List ℕ) (among : NodeSet) (turn : ℕ) (chosen left : NodeSet) (old : Picked totals loads among turn chosen left) where
  -- those that are left are among the others
  pub left-among : (n : ℕ) → has left n ≡ true → has among n ≡ true
  left-among n h = old.parted n ∙ (ap (λ b. has chosen n || b) h ∙ or-true (has chosen n))

  chosen-among : (n : ℕ) → has chosen n ≡ true → has among n ≡ true
  chosen-among n h = old.parted n ∙ ap (λ b. b || has left n) h

  not-left : (n : ℕ) → has among n ≡ true → has chosen n ≡ false → has left n ≡ true
  not-left n a h = sym (ap (λ b. b || has left n) h) ∙ (sym (old.parted n) ∙ a)

  module _ (node : ℕ) (new-chosen new-left : NodeSet) (best : IsGreatest totals loads left node) (within : node < length totals)
      (put : (n : ℕ) → has new-chosen n ≡ (n == node || has chosen n)) (out : (n : ℕ) → has new-left n ≡ (not (n == node) && has left n)) where
    new-here : has new-chosen node ≡ true
    new-here = put node ∙ ap (λ b. b || has chosen node) (number_itself node)

    new-other : (n : ℕ) → n ≢ node → has new-chosen n ≡ has chosen n
    new-other n e = put n ∙ ap (λ b. b || has chosen n) (ne_eqb n node e)

    out-here : has new-left node ≡ false
    out-here = out node ∙ ap (λ b. not b && has left node) (number_itself node)

    out-other : (n : ℕ) → n ≢ node → has new-left n ≡ has left n
    out-other n e = out n ∙ ap (λ b. not b && has left n) (ne_eqb n node e)

    was-left : (m : ℕ) → has new-left m ≡ true → m ≢ node
    was-left m h e = false≢true (sym out-here ∙ (ap (has new-left) (sym e) ∙ h))

    pub one-more : Picked totals loads among (turn + 1) new-chosen new-left
    one-more = record {
      parted = λ n. elim (cases_eq n node) [
        | inl e ↦ let among-is = left-among node best.member in ap (has among) e ∙ (among-is ∙ sym (ap (λ b. b || has new-left n) (ap (has new-chosen) e ∙ new-here)))
        | inr e ↦ let c = new-other n e in let l = out-other n e in old.parted n ∙ rw (c, l) refl
      ];
      apart = λ n h. elim (cases_eq n node) [
        | inl e ↦ ap (has new-left) e ∙ out-here
        | inr e ↦ out-other n e ∙ old.apart n (sym (new-other n e) ∙ h)
      ];
      first = λ n m h k. elim (cases_eq n node) [
        | inl e ↦ rw e (best.first m (sym (out-other m (was-left m k)) ∙ k) (was-left m k))
        | inr e ↦ old.first n m (sym (new-other n e) ∙ h) (sym (out-other m (was-left m k)) ∙ k)
      ];
      size =
          let before = false_from_ne_true (has chosen node) (λ h. false≢true (sym (old.apart node h) ∙ best.member)) in
          let counted = one_more_counted (has chosen) (has new-chosen) node (λ n e. sym (new-other n e)) before new-here 0 (length totals) (omega arith) (omega (arith, within)) in
          let was = old.size in
          omega (arith, counted, was);
    }

  -- none is left
  pub all-picked : (cap : ℕ) → turn ≤ cap → ((n : ℕ) → has left n ≡ false) → ArePicked totals loads among cap chosen
  all-picked cap low none = record {
    fits = chosen-among;
    first = λ n m h a k. old.first n m h (not-left m a k);
    most = let is = old.size in omega (arith, is, low);
    enough = λ n a h. absurd (false≢true (sym (none n) ∙ not-left n a h));
  }

  -- as many as the cap were picked
  pub cap-picked : (cap : ℕ) → turn ≡ cap → ArePicked totals loads among cap chosen
  cap-picked cap full = record {
    fits = chosen-among;
    first = λ n m h a k. old.first n m h (not-left m a k);
    most = let is = old.size in omega (arith, is, full);
    enough = λ n a h. let is = old.size in omega (arith, is, full);
  }

-- nothing was picked yet
pub none-picked : (totals : List ℤ) (loads : List ℕ) (among chosen : NodeSet) → ((n : ℕ) → has chosen n ≡ false) → Picked totals loads among 0 chosen among
none-picked totals loads among chosen none = record {
  parted = λ n. sym (ap (λ b. b || has among n) (none n));
  apart = λ n h. absurd (false≢true (sym (none n) ∙ h));
  first = λ n m h k. absurd (false≢true (sym (none n) ∙ h));
  size = count_of_none (has chosen) none (range_with_len 0 (length totals));
}
