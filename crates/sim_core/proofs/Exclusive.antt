-- A run with a line that isn't the due one isn't lawful.
use Rattle.std.proofs.Common.{arith, ◌≡◌, ◌⊎◌, inl, inr, ◌<◌, ℕ, true, List, ◌++◌, length, take, sym, subst, ap, ◌∙◌}
use Rattle.std.specs.Prelude.{Option, Some, slice_get}
use Rattle.std.proofs.lemmas.List.{length-take-le}
use Rattle.std.proofs.lemmas.Option.{slice_get_within}
use Rattle.lemmas.proofs.Members.{slice_get_left}
use Rattle.cluster_types.specs.declared.cluster.Cluster.{Cluster}
use Rattle.cluster_types.specs.declared.journal.Answer.{Answer}
use Rattle.cluster_types.specs.declared.journal.Journal.{Journal}
use Rattle.cluster_types.specs.declared.run.RunLine.{RunLine}
use Rattle.run_safety.proofs.Beginnings.{begins_whole}
use Rattle.run_safety.proofs.OneEnd.{whole_one, whole_or_cut}
use Rattle.run_safety.proofs.PlansAreOne.{plans_one}
use Rattle.sim_core.specs.declared.verdict.Clause.{Clause}
use Rattle.sim_core.specs.LawfulRuns.{IsCutRunOfLines, IsFaultyPlace, IsLawfulRun, PrintsAnother, IsUndue, IsWholeRunOfLines, answers_of_lines, other, undue}

-- what stands at a place of the front of a list
pub in_front : {X : Type 0} (xs more : List X) (i : ℕ) (x : X) → slice_get xs i ≡ Some x → slice_get (xs ++ more) i ≡ Some x
in_front xs more i x e = slice_get_left xs more i (slice_get_within xs i x e) ∙ e

module _ (c : Cluster) (journal : Journal) (lines : List RunLine) (lawful : IsLawfulRun c journal lines) where
  not_other : (place : ℕ) (kind : Clause) → PrintsAnother c journal lines place kind → ⊥
  not_other place kind o =
      let front = (begins_whole c journal.promotions true (plans_one c journal.promotions) journal.events (Some (answers_of_lines lines)) tt o.so_far.at o.so_far.behind o.printed o.so_far.runs
      lawful.left lines lawful.whole).0 in
      o.different (subst (λ xs. slice_get xs place ≡ Some o.due) (sym front.joined) (in_front o.printed front.more place o.due o.due_there))

  not_undue : (place : ℕ) → IsUndue c journal lines place → ⊥
  not_undue place u = by u.ends where
    by : (IsWholeRunOfLines c journal lines u.printed u.left × (place < length lines)) ⊎ ((given : Answer) × (behind : Option (List Answer)) × IsCutRunOfLines c journal lines u.printed u.left given behind) → ⊥
    by (inl whole) =
        let one = whole_one c journal.promotions true (plans_one c journal.promotions) journal.events (Some (answers_of_lines lines)) tt u.left lawful.left u.printed lines whole.0 lawful.whole in
        let n : length u.printed ≡ length lines = ap (λ xs. length xs) one.0 in
        let m : length u.printed ≡ length (take place lines) = ap (λ xs. length xs) u.same in
        let k = length-take-le place lines u.within in
        absurd (let low = whole.1 in omega arith)
    by (inr cut) =
        whole_or_cut c journal.promotions true (plans_one c journal.promotions) journal.events (Some (answers_of_lines lines)) tt lawful.left u.left lines u.printed cut.0 cut.1 lawful.whole cut.2

  pub not_faulty : (place : ℕ) (kind : Clause) → IsFaultyPlace c journal lines place kind → ⊥
  not_faulty place kind (other _ o) = not_other place kind o
  not_faulty place _ (undue u) = not_undue place u
