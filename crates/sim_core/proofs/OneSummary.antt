-- A number has one summary.
use Rattle.std.proofs.Common.{◌≡◌, ℕ, true, Some, List, [], ◌∷◌, ◌++◌, length, filter, codes, sym, ap, ◌∙◌}
use Rattle.std.specs.List.{AllByRecursion}
use Rattle.cluster_types.specs.declared.cluster.Cluster.{Cluster}
use Rattle.cluster_types.specs.declared.journal.Answer.{Answer}
use Rattle.cluster_types.specs.declared.journal.Event.{Event}
use Rattle.cluster_types.specs.declared.journal.Journal.{Journal}
use Rattle.cluster_types.specs.declared.journal.Promotion.{Promotion}
use Rattle.cluster_types.specs.declared.run.Passed.{Passed}
use Rattle.cluster_types.specs.declared.run.Run.{Run}
use Rattle.cluster_types.specs.Texts.{PassedFits, run_lines}
use Rattle.graph_exec.specs.KeptRuns.{IsPassedOfPlan}
use Rattle.input_reading.specs.declared.input.reading.Input.{Input}
use Rattle.run_safety.proofs.OneEnd.{cut_one, whole_one, whole_or_cut}
use Rattle.run_safety.proofs.PlansAreOne.{plans_one}
use Rattle.sim_core.specs.GenSummary.{IsRunOf, IsSummaryText, answers_of, cut, to_its_end}
use Rattle.sim_core.specs.Summary.{case_lines, count_line, is_begin, is_good_end, last_targets}
use Rattle.sim_core.proofs.Tallied.{Tally, nothing, tally, tally_all}

-- the transitions of a run that is kept fit
pub all_fit : (c : Cluster) (promotions : List Promotion) (es : List Event) (ps : List Passed) → AllByRecursion (IsPassedOfPlan c promotions es) ps → AllByRecursion (PassedFits c es) ps
all_fit c promotions es [] h = tt
all_fit c promotions es (p ∷ ps) h = (h.0.fits, all_fit c promotions es ps h.1)

-- two runs of one case have the same lines and leave the same journal
one_run : (c : Cluster) (journal : Journal) (answers : List Answer) (run other : Run) → IsRunOf c journal answers run → IsRunOf c journal answers other
    → (run_lines c run ≡ run_lines c other) × (run.journal.events ≡ other.journal.events)
one_run c journal answers run other (to_its_end one) (to_its_end two) =
    whole_one c journal.promotions true (plans_one c journal.promotions) journal.events (Some answers) tt run.journal.events other.journal.events (run_lines c run) (run_lines c other) one two
one_run c journal answers run other (to_its_end one) (cut given behind two) =
    whole_or_cut c journal.promotions true (plans_one c journal.promotions) journal.events (Some answers) tt run.journal.events other.journal.events (run_lines c run) (run_lines c other) given behind one two
one_run c journal answers run other (cut given behind one) (to_its_end two) =
    whole_or_cut c journal.promotions true (plans_one c journal.promotions) journal.events (Some answers) tt other.journal.events run.journal.events (run_lines c other) (run_lines c run) given behind two one
one_run c journal answers run other (cut given behind one) (cut also unread two) =
    let same = cut_one c journal.promotions true (plans_one c journal.promotions) journal.events (Some answers) tt run.journal.events other.journal.events (run_lines c run) (run_lines c other) given also behind unread one two in
    (same.0, same.1)

-- what is written of the counts of a run
abbrev counted : Cluster → ℕ → ℕ → List Event → ℕ → List ℕ
counted c number transitions es targets =
    case_lines c number ++ (count_line (codes "transitions") transitions ++ count_line (codes "begun") (length (filter is_begin es))
    ++ count_line (codes "succeeded") (length (filter (is_good_end c) es)) ++ count_line (codes "targets") targets)

pub one_summary : (number : ℕ) (whole : Input) (text other : List ℕ) → IsSummaryText number whole text → IsSummaryText number whole other → text ≡ other
one_summary number whole text other a b =
    let c = whole.head.cluster in
    let same = one_run c whole.head.journal (answers_of whole.results) a.run b.run a.is b.is in
    let tallies = sym (tally_all c a.run.journal.events a.run.passed) ∙ (ap (tally nothing) same.0 ∙ tally_all c b.run.journal.events b.run.passed) in
    a.printed
    ∙ (ap (λ (t : Tally). counted c number t.transitions a.run.journal.events t.targets) tallies
    ∙ (ap (λ es. counted c number (length b.run.passed) es (last_targets c b.run.passed)) same.1 ∙ sym b.printed))
