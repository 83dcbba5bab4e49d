-- Wherever a run stands, its lines are those of transitions that are kept.
use Rattle.std.proofs.Common.{arith, ◌≡◌, ◌<◌, ◌≤◌, ◌+◌, ◌*◌, ℕ, Bool, List, [], ◌∷◌, ◌++◌, length, refl, ap, ◌∙◌, sym, append-nil, append_assoc}
use Rattle.std.specs.Prelude.{Option}
use Rattle.std.proofs.lemmas.List.FromFn.{length-map-range_with_len}
use Rattle.std.specs.List.{flat_map, AllByRecursion}
use Rattle.std.proofs.lemmas.Grind.{flat_map-append}
use Rattle.std.proofs.lemmas.List.{length-append}
use Rattle.lemmas.proofs.Members.{all_append}
use Rattle.cluster_types.specs.declared.cluster.Cluster.{Cluster}
use Rattle.cluster_types.specs.declared.journal.Answer.{Answer}
use Rattle.cluster_types.specs.declared.journal.Event.{Event}
use Rattle.cluster_types.specs.declared.journal.Promotion.{Promotion}
use Rattle.cluster_types.specs.declared.placement.Placed.{Placed}
use Rattle.cluster_types.specs.declared.run.Passed.{Passed}
use Rattle.cluster_types.specs.declared.run.PassedEnd.{PassedEnd}
use Rattle.cluster_types.specs.declared.run.PassedEnd.TheVariants as end
use Rattle.cluster_types.specs.declared.run.RunLine.{RunLine}
use Rattle.cluster_types.specs.declared.run.RunLine.TheVariants as line
use Rattle.cluster_types.specs.Pins.{pin_of}
use Rattle.cluster_types.specs.Plans.{IsPlaced}
use Rattle.cluster_types.specs.Runs.{RunStanding, due, amid, idle, RunsOn, plans, goes, completes, aborts, answers, Runs, journal_at}
use Rattle.cluster_types.specs.Steps.{Applies, answer_events, idling}
use Rattle.cluster_types.specs.Tables.{targets_of}
use Rattle.cluster_types.specs.Texts.{PassedFits, all_passed_lines, end_lines, event_lines, target_lines}
use Rattle.run_safety.specs.KeptLines.{AreWithin, AreLinesKept}
use Rattle.run_safety.proofs.Along.{along}
use Rattle.run_safety.proofs.Kept.{between_passed, one_passed_more}
use Rattle.run_safety.proofs.Printed.{answer_line}

still_within : (low high : ℕ) (ps : List Passed) → low ≤ high → AreWithin low ps → AreWithin high ps
still_within low high [] le h = tt
still_within low high (p ∷ ps) le h = ((let a = h.0.0 in omega (arith, a, le), let b = h.0.1 in omega (arith, b, le)), still_within low high ps le h.1)

within_more : (most : ℕ) (ps : List Passed) (p : Passed) → AreWithin most ps → p.begins_at ≤ most → p.ends_at ≤ most → AreWithin most (ps ++ p ∷ [])
within_more most [] p h low high = ((low, high), tt)
within_more most (q ∷ qs) p h low high = (h.0, within_more most qs p h.1 low high)

-- what is placed has an entry for each leaf and a target for each cell
pub record PlacedFits (c : Cluster) (placed : Placed) : Type 0 where
  pub pins : length placed.pins ≡ length c.leaves
  pub reasons : length placed.none ≡ length c.leaves
  pub nodes : placed.table.nodes ≡ length c.nodes
  pub cells : length placed.table.targets ≡ length c.leaves * length c.nodes

pub placed_fits : (c : Cluster) (es : List Event) (promotions : List Promotion) (placed : Placed) → IsPlaced c es promotions placed → PlacedFits c placed
placed_fits c es promotions placed is = record {
  pins = ap (λ l. length l) is.pins ∙ length-map-range_with_len (pin_of c es) 0 (length c.leaves);
  reasons = is.leaves;
  nodes = is.nodes;
  cells = is.cells;
}

-- what is kept of a transition, by the journal when it was planned, what is placed, the events since, and how it ended
abbrev passed_by : List Event → Placed → List Event → PassedEnd → Passed
passed_by es placed since ending = record { pins = placed.pins; table = placed.table; none = placed.none; begins_at = length es; ends_at = length es + length since; end = ending }

module _ (c : Cluster) where
  -- amid a transition: those before it, its targets, and its events so far
  pub record IsBegun (lines : List RunLine) (passed : List Passed) (k : ℕ) (es since : List Event) : Type 0 where
    pub number : k ≡ 1 + length passed
    pub within : AreWithin (length es) passed
    pub fit : AllByRecursion (PassedFits c es) passed
    pub placed : Placed
    pub goals : PlacedFits c placed
    pub so_far : lines ≡ all_passed_lines c es 1 passed ++ ((line.Transition k ∷ target_lines c placed.pins (targets_of placed.table) placed.none) ++ flat_map event_lines since)

  pub record IsBetweenKept (lines : List RunLine) (passed : List Passed) (es : List Event) : Type 0 where
    pub within : AreWithin (length es) passed
    pub fit : AllByRecursion (PassedFits c es) passed
    pub so_far : lines ≡ all_passed_lines c es 1 passed

  abbrev KeepsAt : RunStanding → List RunLine → List Passed → Type 0
  KeepsAt (due k es) lines passed = (k ≡ 1 + length passed) × IsBetweenKept lines passed es
  KeepsAt (amid k t since) lines passed = IsBegun lines passed k t.planned_at since
  KeepsAt (idle k es) lines passed = (k ≡ length passed) × (0 < k) × IsBetweenKept lines passed es

  pub fits_more : (es ys : List Event) (p : Passed) → PassedFits c es p → PassedFits c (es ++ ys) p
  fits_more es ys p fits = record {
    pins = fits.pins;
    reasons = fits.reasons;
    nodes = fits.nodes;
    cells = fits.cells;
    ascending = fits.ascending;
    within = let n = length-append es ys in let w = fits.within in omega (arith, n, w);
  }

  fit_more : (es ys : List Event) (ps : List Passed) → AllByRecursion (PassedFits c es) ps → AllByRecursion (PassedFits c (es ++ ys)) ps
  fit_more es ys [] h = tt
  fit_more es ys (p ∷ ps) h = (fits_more es ys p h.0, fit_more es ys ps h.1)

  -- the transition ends so, or is left so
  closed : (lines : List RunLine) (passed : List Passed) (k : ℕ) (es since : List Event) (ending : PassedEnd) (begun : IsBegun lines passed k es since)
      → IsBetweenKept (lines ++ end_lines c k ending) (passed ++ passed_by es begun.placed since ending ∷ []) (es ++ since)
  closed lines passed k es since ending begun =
      let n = length-append es since in
      let p = passed_by es begun.placed since ending in
      let head = (line.Transition k ∷ target_lines c begun.placed.pins (targets_of begun.placed.table) begun.placed.none) ++ flat_map event_lines since in
      let new : PassedFits c (es ++ since) p = record {
        pins = begun.goals.pins;
        reasons = begun.goals.reasons;
        nodes = begun.goals.nodes;
        cells = begun.goals.cells;
        ascending = omega arith;
        within = omega (arith, n);
      } in
      record {
        within = within_more (length (es ++ since)) passed p (still_within (length es) (length (es ++ since)) passed (omega (arith, n)) begun.within) (omega (arith, n)) (omega (arith, n));
        fit = all_append (PassedFits c (es ++ since)) passed (p ∷ []) (fit_more es since passed begun.fit) (new, tt);
        so_far = ap (λ z. z ++ end_lines c k ending) begun.so_far
            ∙ append_assoc (all_passed_lines c es 1 passed) head (end_lines c k ending)
            ∙ sym (one_passed_more es since c p refl refl 1 k passed begun.number begun.within);
      }

  abbrev Some_kept : RunStanding → List RunLine → Type 0
  Some_kept at lines = (passed : List Passed) × KeepsAt at lines passed

  counted_more : (ps : List Passed) (p : Passed) → length (ps ++ p ∷ []) ≡ 1 + length ps
  counted_more ps p = let n = length-append ps (p ∷ []) in omega (arith, n)

  idle_answer : (k : ℕ) (es : List Event) (given : Answer) (lines : List RunLine) (passed : List Passed) → k ≡ length passed → 0 < k → IsBetweenKept lines passed es → Applies (idling c es) [] given
      → IsBetweenKept (lines ++ line.Taken given ∷ []) passed (es ++ answer_events (idling c es) [] given)
  idle_answer k es given lines [] e low kept applies = absurd (let f : ⊥ = omega (arith, e, low) in f)
  idle_answer k es given lines (q ∷ qs) e low kept applies =
      let ys = answer_events (idling c es) [] given in
      let n = length-append es ys in
      record {
        within = still_within (length es) (length (es ++ ys)) (q ∷ qs) (omega (arith, n)) kept.within;
        fit = fit_more es ys (q ∷ qs) kept.fit;
        so_far = ap (λ z. z ++ line.Taken given ∷ []) kept.so_far ∙ ap (λ z. all_passed_lines c es 1 (q ∷ qs) ++ z) (sym (answer_line (idling c es) [] given applies))
            ∙ sym (between_passed es ys c 1 q qs kept.within);
      }

  module _ (promotions : List Promotion) (whole : Bool) where
    one_kept : (at next : RunStanding) (rest left : Option (List Answer)) (lines more : List RunLine) → RunsOn c promotions whole at rest more next left → Some_kept at lines → Some_kept next (lines ++ more)
    one_kept _ _ rest _ lines _ (plans k es _ placed actions plan) kept =
        let head = line.Transition k ∷ target_lines c placed.pins (targets_of placed.table) placed.none in (
          kept.0,
          record {
            number = kept.1.0;
            within = kept.1.1.within;
            fit = kept.1.1.fit;
            placed = placed;
            goals = placed_fits c es promotions placed plan.goals;
            so_far = ap (λ z. z ++ head) kept.1.1.so_far ∙ ap (λ z. all_passed_lines c es 1 kept.0 ++ z) (sym (append-nil head));
          },
        )
    one_kept _ _ rest left lines _ (goes k t since events _ _ step) kept =
        let begun = kept.1 in
        let head = line.Transition k ∷ target_lines c begun.placed.pins (targets_of begun.placed.table) begun.placed.none in
        let before = all_passed_lines c t.planned_at 1 kept.0 in (
          kept.0,
          record {
            number = begun.number;
            within = begun.within;
            fit = begun.fit;
            placed = begun.placed;
            goals = begun.goals;
            so_far = ap (λ z. z ++ flat_map event_lines events) begun.so_far
                ∙ append_assoc before (head ++ flat_map event_lines since) (flat_map event_lines events)
                ∙ ap (λ z. before ++ z) (append_assoc head (flat_map event_lines since) (flat_map event_lines events) ∙ ap (λ z. head ++ z) (sym (flat_map-append event_lines since events)));
          },
        )
    one_kept _ _ rest _ lines _ (completes k t since _ ended unaborted) kept =
        let p = passed_by t.planned_at kept.1.placed since end.Complete in
        let n = counted_more kept.0 p in
        let number = kept.1.number in
        (kept.0 ++ p ∷ [], (omega (arith, n, number), omega (arith, number), closed lines kept.0 k t.planned_at since end.Complete kept.1))
    one_kept _ _ rest _ lines _ (aborts k t since _ ended aborted) kept =
        let p = passed_by t.planned_at kept.1.placed since end.Aborted in
        let n = counted_more kept.0 p in
        let number = kept.1.number in
        (kept.0 ++ p ∷ [], (omega (arith, n, number), closed lines kept.0 k t.planned_at since end.Aborted kept.1))
    one_kept _ _ rest left lines _ (answers k es _ _ given said applies) kept =
        let number = kept.1.0 in
        (kept.0, (omega (arith, number), idle_answer k es given lines kept.0 kept.1.0 kept.1.1 kept.1.2 applies))

    pub runs_kept : (es : List Event) (at : RunStanding) (rest left : Option (List Answer)) (lines : List RunLine) → Runs c promotions whole (due 1 es) rest lines at left → AreLinesKept c (journal_at at) lines
    runs_kept es at rest left lines runs =
        by at (along c promotions whole (λ p _ before. Some_kept p before) (λ p q middle behind before more step kept. one_kept p q middle behind before more step kept)
        (due 1 es) at rest left [] lines runs ([], (refl, record { within = tt; fit = tt; so_far = refl })))
      where
        by : (at : RunStanding) → Some_kept at lines → AreLinesKept c (journal_at at) lines
        by (due k es) kept = record { passed = kept.0; within = kept.1.1.within; fit = kept.1.1.fit; lines = kept.1.1.so_far }
        by (amid k t since) kept =
            let last = closed lines kept.0 k t.planned_at since end.Cut kept.1 in
            record { passed = kept.0 ++ passed_by t.planned_at kept.1.placed since end.Cut ∷ []; within = last.within; fit = last.fit; lines = sym (append-nil lines) ∙ last.so_far }
        by (idle k es) kept = record { passed = kept.0; within = kept.1.2.within; fit = kept.1.2.fit; lines = kept.1.2.so_far }
