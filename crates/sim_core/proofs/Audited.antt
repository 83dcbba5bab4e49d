-- What an auditor has found, by how the run of the answers ended.
use Rattle.std.proofs.Common.{arith, ◌≡◌, ◌≢◌, ◌⊎◌, inl, inr, ◌<◌, ◌≤◌, ℕ, Bool, true, List, [], ◌∷◌, ◌++◌, length, take, append_assoc, refl, sym, ap, subst, ◌∙◌}
use Rattle.std.specs.Prelude.{Option, Some, slice_get}
use Rattle.std.specs.List.{flat_map}
use Rattle.std.proofs.lemmas.Bool.{cases_lt}
use Rattle.std.proofs.lemmas.List.{length-map, length-take-le, take_all}
use Rattle.std.proofs.lemmas.List.Folds.{flat_map-map}
use Rattle.std.proofs.Math.Seq.{take-append_seam}
use Rattle.cluster_types.specs.declared.cluster.Cluster.{Cluster}
use Rattle.cluster_types.specs.declared.journal.Answer.{Answer}
use Rattle.cluster_types.specs.declared.journal.Journal.{Journal}
use Rattle.cluster_types.specs.declared.run.RunLine.{RunLine}
use Rattle.cluster_types.specs.Runs.{due, Runs, IsCutRun, IsWholeRun}
use Rattle.graph_exec.specs.Replays.{IsStopped, IsStoppedAsking, IsRunTold, setting, sight}
use Rattle.graph_exec.specs.RunEnds.{unexpected, with_all}
use Rattle.graph_exec.specs.Scripts.{ScriptOf}
use Rattle.input_reading.specs.declared.run.text.RunTextLine.{RunTextLine}
use Rattle.run_safety.proofs.SoFar.{runs_more}
use Rattle.sim_core.specs.declared.auditor.Auditor.{Auditor}
use Rattle.sim_core.specs.declared.verdict.Clause.{Clause}
use Rattle.sim_core.specs.declared.verdict.Clause.TheVariants as clause
use Rattle.sim_core.specs.declared.verdict.Verdict.{Verdict}
use Rattle.sim_core.specs.declared.verdict.Verdict.TheVariants.{Yes, No}
use Rattle.sim_core.specs.Inner.Auditors.{PassesLines, HasSaidStop, audited_lines}
use Rattle.sim_core.specs.LawfulRuns.{IsWholeRunOfLines, Judges, answer_in, answers_of_lines, clause_of, line_number_at, other, said, undue}

-- what stands behind some elements
behind_at : {X : Type 0} (xs ys : List X) (y : X) → slice_get (xs ++ y ∷ ys) (length xs) ≡ Some y
behind_at [] ys y = refl
behind_at (x ∷ xs) ys y = behind_at xs ys y

-- a source of the answers among some lines has those of what the lines say
pub answers_said : (script : ScriptOf) (answers : List Answer) (slice lines : List RunTextLine) → script ≡ record { left = answers; taken = 0; asked = 0 }
    → answers ≡ flat_map (λ (l : RunTextLine). answer_in l.what) slice → slice ≡ lines → script.left ≡ answers_of_lines (said lines)
answers_said script answers slice lines made among same =
    ap (λ (s : ScriptOf). s.left) made ∙ among ∙ ap (λ (ls : List RunTextLine). flat_map (λ (l : RunTextLine). answer_in l.what) ls) same
    ∙ sym (flat_map-map answer_in (λ (l : RunTextLine). l.what) lines)

module _ (c : Cluster) (journal : Journal) (lines : List RunTextLine) (after : ℕ) (start now : Auditor) (first : start.place ≡ 0) (written : start.lines.now ≡ lines) where
  -- the lines that were told
  told_are : (told : List RunLine) → PassesLines start now told → told ≡ take now.place (said lines)
  told_are told p =
      let front : take start.place (audited_lines start) ≡ [] = ap (λ n. take n (audited_lines start)) first in
      sym (p.passed ∙ ap (λ ls. ls ++ told) front) ∙ ap (λ ls. take now.place (said ls)) (p.lines_stay ∙ written)

  in_lines : (told : List RunLine) → PassesLines start now told → now.place ≤ length (said lines)
  in_lines told p =
      let low : start.place ≤ length (audited_lines start) = omega (arith, first) in
      subst (λ ls. now.place ≤ length (said ls)) (p.lines_stay ∙ written) (p.within low)

  number_there : (told : List RunLine) → PassesLines start now told → line_number_at now.lines.now now.place after ≡ line_number_at lines now.place after
  number_there told p = ap (λ ls. line_number_at ls now.place after) (p.lines_stay ∙ written)

  module _ (steady over over_now : Bool) (answers : List Answer) (are : answers ≡ answers_of_lines (said lines)) (rest : Option (List Answer)) (most : ℕ) (left : Journal)
      (Stopped : List RunLine → Option RunLine → Type 0) (v : Verdict) where
    -- it is told the whole run
    pub whole_found : IsRunTold (PassesLines start now) Stopped (setting c journal.promotions true steady) journal.events (sight (Some answers) over) (sight rest over_now) most left with_all
        → (now.place ≡ length now.lines.now → v ≡ Yes)
        → (now.place < length now.lines.now → v ≡ No (line_number_at now.lines.now now.place after) clause.Answer)
        → Judges c journal lines after v
    whole_found w when_all when_more = by (cases_lt now.place (length lines)) where
      run : IsWholeRunOfLines c journal (said lines) w.lines left.events
      run = subst (λ (xs : List Answer). IsWholeRun c journal.promotions true journal.events (Some xs) w.lines left.events) are w.ended.run

      size : length now.lines.now ≡ length lines
      size = ap (λ ls. length ls) (w.told.lines_stay ∙ written)

      within : now.place ≤ length (said lines)
      within = in_lines w.lines w.told

      long : length (said lines) ≡ length lines
      long = length-map lines (λ (l : RunTextLine). l.what)

      by : (now.place < length lines) ⊎ (length lines ≤ now.place) → Judges c journal lines after v
      by (inl more) =
          rw (when_more (omega (arith, more, size))) (record {
            place = now.place;
            fault = undue (record {
              printed = w.lines;
              left = left.events;
              within = within;
              same = told_are w.lines w.told;
              ends = inl (run, omega (arith, more, long));
            });
            number_is = number_there w.lines w.told;
          })
      by (inr all) =
          let whole : w.lines ≡ said lines = told_are w.lines w.told ∙ take_all now.place (said lines) (omega (arith, all, long)) in
          rw (when_all (omega (arith, all, within, size, long)))
          (record { left = left.events; whole = subst (λ ls. IsWholeRunOfLines c journal (said lines) ls left.events) whole run })

    -- the run is cut
    pub cut_found : (given : Answer)
        → IsRunTold (PassesLines start now) Stopped (setting c journal.promotions true steady) journal.events (sight (Some answers) over) (sight rest over_now) most left (unexpected given)
        → v ≡ No (line_number_at now.lines.now now.place after) clause.Answer → Judges c journal lines after v
    cut_found given w is_no =
        rw is_no (record {
          place = now.place;
          fault = undue (record {
            printed = w.lines;
            left = left.events;
            within = in_lines w.lines w.told;
            same = told_are w.lines w.told;
            ends = inr (given, rest, subst (λ (xs : List Answer). IsCutRun c journal.promotions true journal.events (Some xs) w.lines left.events given rest) are w.ended);
          });
          number_is = number_there w.lines w.told;
        })

  -- it has stopped
  module _ (steady over over_now : Bool) (answers : List Answer) (are : answers ≡ answers_of_lines (said lines)) (rest : Option (List Answer)) (most : ℕ) (left : Journal)
      (Follows : List RunLine → Type 0) (v : Verdict)
      (w : IsStopped Follows (HasSaidStop start now) (setting c journal.promotions true steady) journal.events (sight (Some answers) over) (sight rest over_now) most left) where
    due_kept : now.due ≡ Some (clause_of w.told.at)
    due_kept = w.told.stopped.due_is

    stopped_found : ((kind : Clause) → now.due ≡ Some kind → v ≡ No (line_number_at now.lines.now now.place after) kind) → Judges c journal lines after v
    stopped_found is_no =
        let p = w.told.stopped.passes in
        let told = w.lines ++ w.told.before in
        let passed = told_are told p in
        let within = in_lines told p in
        let call : w.lines ++ w.call ≡ told ++ w.told.at ∷ w.told.behind
        = ap (λ ls. w.lines ++ ls) w.told.parts ∙ sym (append_assoc w.lines w.told.before (w.told.at ∷ w.told.behind)) in
        let place : now.place ≡ length told = sym (ap (λ ls. length ls) passed ∙ length-take-le now.place (said lines) within) in
        rw (is_no (clause_of w.told.at) due_kept) (record {
          place = now.place;
          fault = other (clause_of w.told.at) (record {
            printed = w.lines ++ w.call;
            so_far = record {
              at = w.run.next;
              behind = rest;
              runs = runs_more c journal.promotions true _ w.run.before w.run.next _ w.run.middle rest w.lines w.call
                  (subst (λ (xs : List Answer). Runs c journal.promotions true (due 1 journal.events) (Some xs) w.lines w.run.before w.run.middle) are w.run.steps) w.run.stopped;
            };
            due = w.told.at;
            due_there = rw (call, place) (behind_at told w.told.behind w.told.at);
            kind_is = refl;
            within = within;
            same = rw (call, place) (take-append_seam told (w.told.at ∷ w.told.behind)) ∙ passed;
            different = subst (λ ls. slice_get (said ls) now.place ≢ Some w.told.at) (p.lines_stay ∙ written) w.told.stopped.different;
          });
          number_is = number_there told p;
        })

  -- it stops at a line alone
  module _ (steady over over_now : Bool) (answers : List Answer) (are : answers ≡ answers_of_lines (said lines)) (rest : Option (List Answer)) (most : ℕ) (left : Journal)
      (Follows : List RunLine → Type 0) (v : Verdict) where
    pub other_found : IsStopped Follows (HasSaidStop start now) (setting c journal.promotions true steady) journal.events (sight (Some answers) over) (sight rest over_now) most left
        ⊎ IsStoppedAsking Follows (HasSaidStop start now) (setting c journal.promotions true steady) journal.events (sight (Some answers) over) (sight rest over_now) most left
        → ((kind : Clause) → now.due ≡ Some kind → v ≡ No (line_number_at now.lines.now now.place after) kind) → Judges c journal lines after v
    other_found (inl w) is_no = stopped_found steady over over_now answers are rest most left Follows v w is_no
    other_found (inr w) is_no = absurd w.told
