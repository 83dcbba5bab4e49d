-- A run has at most one first line that isn't the due one.
use Rattle.std.proofs.Common.{arith, ◌≡◌, ◌⊎◌, inl, inr, ◌<◌, nat_lt, ℕ, Bool, true, false, List, length, take, drop, get_or, refl, sym, subst, ap, ◌∙◌}
use Rattle.std.specs.Prelude.{Option, Some, slice_get}
use Rattle.std.proofs.lemmas.Bool.Decides.{nat_tests}
use Rattle.std.proofs.lemmas.List.{get_or-take, length-take, length-take-le, take-append-drop}
use Rattle.std.proofs.lemmas.Option.{get_or_from_slice_get, slice_get-get_or, slice_get_within}
use Rattle.cluster_types.specs.declared.cluster.Cluster.{Cluster}
use Rattle.cluster_types.specs.declared.journal.Answer.{Answer}
use Rattle.cluster_types.specs.declared.journal.Journal.{Journal}
use Rattle.cluster_types.specs.declared.run.RunLine.{RunLine}
use Rattle.cluster_types.specs.Runs.{due}
use Rattle.run_safety.specs.TwoRuns.{AreOnOneWay, IsFront, other_first, this_first}
use Rattle.run_safety.proofs.Beginnings.{begins_cut, begins_whole}
use Rattle.run_safety.proofs.OneEnd.{cut_one, whole_one, whole_or_cut}
use Rattle.run_safety.proofs.OneRun.{one_way}
use Rattle.run_safety.proofs.PlansAreOne.{plans_one}
use Rattle.sim_core.specs.declared.verdict.Clause.{Clause}
use Rattle.sim_core.specs.LawfulRuns.{IsCutRunOfLines, IsFaultyPlace, PrintsAnother, IsPrintedSoFar, IsUndue, IsWholeRunOfLines, answers_of_lines, clause_of, other, undue}
use Rattle.sim_core.proofs.Exclusive.{in_front}

-- what stands before a place at which something stands
record StandsAt {X : Type 0} (xs : List X) (i : ℕ) : Type 0 where
  what : X
  there : slice_get xs i ≡ Some what

earlier : {X : Type 0} (xs : List X) (i j : ℕ) (x : X) → i < j → slice_get xs j ≡ Some x → StandsAt xs i
earlier xs i j x low e = let w = slice_get_within xs j x e in record { what = get_or xs i x; there = slice_get-get_or xs i x (omega (arith, low, w)) }

-- what stands at a place stands in each front that reaches beyond it, and the other way round
into_front : {X : Type 0} (n i : ℕ) (xs : List X) (x : X) → i < n → slice_get xs i ≡ Some x → slice_get (take n xs) i ≡ Some x
into_front n i xs x low e =
    let w = slice_get_within xs i x e in
    let l = length-take n xs in
    slice_get-get_or (take n xs) i x (omega (arith, low, w, l)) ∙ ap Some (get_or-take n xs i x low ∙ get_or_from_slice_get xs i x x e)

from_front : {X : Type 0} (n i : ℕ) (xs : List X) (x : X) → slice_get (take n xs) i ≡ Some x → slice_get xs i ≡ Some x
from_front n i xs x e = subst (λ ys. slice_get ys i ≡ Some x) (take-append-drop n xs) (in_front (take n xs) (drop n xs) i x e)

module _ (c : Cluster) (journal : Journal) (lines : List RunLine) where
  -- two runs of these answers print the same at a place that both reach
  one_line : (some more : List RunLine) → IsPrintedSoFar c journal lines some → IsPrintedSoFar c journal lines more → (place : ℕ) (a b : RunLine)
      → slice_get some place ≡ Some a → slice_get more place ≡ Some b → a ≡ b
  one_line some more p q place a b e f =
      by (one_way c journal.promotions true (plans_one c journal.promotions) (due 1 journal.events) p.at q.at (Some (answers_of_lines lines)) p.behind q.behind some more tt p.runs q.runs)
    where
      by : AreOnOneWay c journal.promotions true some p.at p.behind more q.at q.behind → a ≡ b
      by (this_first g) =
          let there : slice_get more place ≡ Some a = subst (λ xs. slice_get xs place ≡ Some a) (sym g.joined) (in_front some g.more place a e) in
          cc
      by (other_first g) =
          let there : slice_get some place ≡ Some b = subst (λ xs. slice_get xs place ≡ Some b) (sym g.joined) (in_front more g.more place b f) in
          cc

  -- a line within a front that the lines have too
  alike : (n place : ℕ) (front : List RunLine) (a : RunLine) → front ≡ take n lines → slice_get front place ≡ Some a → slice_get lines place ≡ Some a
  alike n place front a e f = from_front n place lines a (subst (λ xs. slice_get xs place ≡ Some a) e f)

  -- of two other lines neither stands before the other
  none_before : (place q : ℕ) (kind sort : Clause) → PrintsAnother c journal lines place kind → PrintsAnother c journal lines q sort → place < q → ⊥
  none_before place q kind sort o p low =
      let b = earlier p.printed place q p.due low p.due_there in
      let same = one_line o.printed p.printed o.so_far p.so_far place o.due b.what o.due_there b.there in
      o.different (alike q place (take q p.printed) b.what p.same (into_front q place p.printed b.what low b.there) ∙ ap Some (sym same))

  same_kind : (place : ℕ) (kind sort : Clause) → PrintsAnother c journal lines place kind → PrintsAnother c journal lines place sort → kind ≡ sort
  same_kind place kind sort o p =
      let same = one_line o.printed p.printed o.so_far p.so_far place o.due p.due o.due_there p.due_there in
      o.kind_is ∙ ap clause_of same ∙ sym p.kind_is

  -- where the lines are undue from a place on, the run prints no other line than they have
  front_of : (place : ℕ) (printed : List RunLine) → IsPrintedSoFar c journal lines printed → (u : IsUndue c journal lines place) → IsFront printed u.printed
  front_of place printed p u = by u.ends where
    by : (IsWholeRunOfLines c journal lines u.printed u.left × (place < length lines)) ⊎ ((given : Answer) × (behind : Option (List Answer)) × IsCutRunOfLines c journal lines u.printed u.left given behind)
        → IsFront printed u.printed
    by (inl whole) =
        (begins_whole c journal.promotions true (plans_one c journal.promotions) journal.events (Some (answers_of_lines lines)) tt p.at p.behind printed p.runs u.left u.printed whole.0).0
    by (inr cut) =
        (begins_cut c journal.promotions true (plans_one c journal.promotions) journal.events (Some (answers_of_lines lines)) tt p.at p.behind printed p.runs u.left cut.0 cut.1 u.printed cut.2).0

  other_or_undue : (place q : ℕ) (kind : Clause) → PrintsAnother c journal lines place kind → IsUndue c journal lines q → ⊥
  other_or_undue place q kind o u =
      let front = front_of q o.printed o.so_far u in
      let there : slice_get u.printed place ≡ Some o.due
      = subst (λ xs. slice_get xs place ≡ Some o.due) (sym front.joined) (in_front o.printed front.more place o.due o.due_there) in
      o.different (alike q place u.printed o.due u.same there)

  -- they are undue from one place on
  place_is : (place : ℕ) (u : IsUndue c journal lines place) → length u.printed ≡ place
  place_is place u = ap (λ xs. length xs) u.same ∙ length-take-le place lines u.within

  one_printed : (place q : ℕ) (u : IsUndue c journal lines place) (v : IsUndue c journal lines q) → u.printed ≡ v.printed
  one_printed place q u v = by u.ends v.ends where
    by : (IsWholeRunOfLines c journal lines u.printed u.left × (place < length lines)) ⊎ ((given : Answer) × (behind : Option (List Answer)) × IsCutRunOfLines c journal lines u.printed u.left given behind)
        → (IsWholeRunOfLines c journal lines v.printed v.left × (q < length lines)) ⊎ ((given : Answer) × (behind : Option (List Answer)) × IsCutRunOfLines c journal lines v.printed v.left given behind)
        → u.printed ≡ v.printed
    by (inl a) (inl b) =
        (whole_one c journal.promotions true (plans_one c journal.promotions) journal.events (Some (answers_of_lines lines)) tt u.left v.left u.printed v.printed a.0 b.0).0
    by (inr a) (inr b) =
        (cut_one c journal.promotions true (plans_one c journal.promotions) journal.events (Some (answers_of_lines lines)) tt u.left v.left u.printed v.printed a.0 b.0 a.1 b.1 a.2 b.2).0
    by (inl a) (inr b) =
        whole_or_cut c journal.promotions true (plans_one c journal.promotions) journal.events (Some (answers_of_lines lines)) tt u.left v.left u.printed v.printed b.0 b.1 a.0 b.2
    by (inr a) (inl b) =
        whole_or_cut c journal.promotions true (plans_one c journal.promotions) journal.events (Some (answers_of_lines lines)) tt v.left u.left v.printed u.printed a.0 a.1 b.0 a.2

  one_place : (place q : ℕ) → IsUndue c journal lines place → IsUndue c journal lines q → place ≡ q
  one_place place q u v = sym (place_is place u) ∙ ap (λ xs. length xs) (one_printed place q u v) ∙ place_is q v

  one_other : (place q : ℕ) (kind sort : Clause) → PrintsAnother c journal lines place kind → PrintsAnother c journal lines q sort → (place ≡ q) × (kind ≡ sort)
  one_other place q kind sort o p = by (nat_lt place q) refl (nat_lt q place) refl where
    by : (less : Bool) → nat_lt place q ≡ less → (more : Bool) → nat_lt q place ≡ more → (place ≡ q) × (kind ≡ sort)
    by true e more f = absurd (none_before place q kind sort o p (grind (arith, nat_tests)))
    by false e true f = absurd (none_before q place sort kind p o (grind (arith, nat_tests)))
    by false e false f =
        let same : place ≡ q = grind (arith, nat_tests) in
        (same, same_kind q kind sort (subst (λ n. PrintsAnother c journal lines n kind) same o) p)

  pub one_fault : (place q : ℕ) (kind sort : Clause) → IsFaultyPlace c journal lines place kind → IsFaultyPlace c journal lines q sort → (place ≡ q) × (kind ≡ sort)
  one_fault place q kind sort (other _ o) (other _ p) = one_other place q kind sort o p
  one_fault place q kind _ (other _ o) (undue v) = absurd (other_or_undue place q kind o v)
  one_fault place q _ sort (undue u) (other _ p) = absurd (other_or_undue q place sort p u)
  one_fault place q _ _ (undue u) (undue v) = (one_place place q u v, refl)
