-- What `check` writes of an input is read as the same statements and the same cluster.
use Rattle.std.proofs.Common.{arith, ◌≡◌, ℕ, true, List, [], ◌∷◌, ◌++◌, length, take, drop, Ok, refl, sym, ap, subst, ◌∙◌}
use Rattle.std.proofs.Math.Seq.{take-length}
use Rattle.std.proofs.lemmas.List.{take-append-drop}
use Rattle.crm_lex.specs.declared.line.Line.{Line}
use Rattle.crm_lex.specs.Reading.{reads}
use Rattle.crm_parse.specs.declared.statement.Crm.{Crm}
use Rattle.crm_parse.specs.Marks.{sections_of}
use Rattle.crm_parse.specs.Statements.{statements_of}
use Rattle.crm_print.proofs.NoSections.{statements-alone, whole_text}
use Rattle.crm_print.specs.PrintedAgain.{ReadsAs, has_short_lines}
use Rattle.crm_print.specs.Text.{canonical_text}
use Rattle.crm_print.proofs.ReadsAgain.{canonical-again, reads-again-commented}
use Rattle.cluster_model.specs.declared.expansion.leaves.Leaves.{Leaves}
use Rattle.cluster_model.specs.Expansion.{expansion_of}
use Rattle.cluster_model.specs.Resolution.{resolution_of}
use Rattle.cluster_types.specs.declared.cluster.Cluster.{Cluster}
use Rattle.cluster_types.specs.Valid.{KeepsLimits}
use Rattle.input_reading.specs.FirstJournal.{journal_of}
use Rattle.input_reading.specs.declared.input.reading.Input.{Input}
use Rattle.sim_core.specs.Check.{check_text, counts_line, rules_in}
use Rattle.input_reading.specs.Reading.{ReadsInput, following_lines, head_of, input_of, status_lines, with_results}
use Rattle.input_reading.proofs.ValidInput.{cluster_valid, results_keep_head}
use Rattle.sim_core.specs.CheckedAgain.{IsReadAgain}
use Rattle.sim_core.proofs.InputSteps.{HasGiven, by_sections, has_given, in_steps}
use Rattle.sim_core.proofs.TraceSections.{nothing_past}
use Rattle.sim_core.proofs.Comments.{counts, counts-comment}
use Rattle.cluster_model.proofs.SameCluster.{same-resolution}
use Rattle.cluster_model.proofs.SameLeaves.{same-expansion}

-- the steps by which a text was read
record Steps (text : List ℕ) (whole : Input) : Type 0 where
  front : List Line
  rest : List Line
  given : HasGiven front whole.head
  are_lines : reads text ≡ Ok (front ++ rest)

steps-of : (text : List ℕ) (whole : Input) → ReadsInput text whole → Steps text whole
unfolding input_of
steps-of text whole r =
    let s = in_steps sections_of (λ all. with_results) text whole r in
    let n = s.found.marks.status_at in
    let kept = results_keep_head s.head (following_lines s.found.marks s.found.lines) whole s.follows in
    let given = has_given (take n s.found.lines) (status_lines s.found.marks s.found.lines) whole.head (s.begins ∙ ap Ok (sym kept)) in
    record {
      front = take n s.found.lines;
      rest = drop n s.found.lines;
      given = given;
      are_lines = s.found.are ∙ ap Ok (sym (take-append-drop n s.found.lines));
    }

-- a text of statements alone is read whole
module _ (text : List ℕ) (lines : List Line) (crm : Crm) (leaves : Leaves) (cluster : Cluster) (are_lines : reads text ≡ Ok lines)
    (are_statements : statements_of lines ≡ Ok crm) (are_leaves : expansion_of crm.statements ≡ Ok leaves)
    (resolves : resolution_of leaves crm.statements ≡ Ok cluster) where
  abbrev pub alone : Input
  alone = record { head = record { crm = crm; cluster = cluster; journal = journal_of cluster [] }; results = [] }

  pub read-alone : ReadsInput text alone
  unfolding input_of head_of with_results
  read-alone =
      let taken = take-length lines in
      let none = nothing_past lines in
      by_sections sections_of (λ all. with_results) text lines (whole_text lines) are_lines (statements-alone lines crm are_statements)
      ∙ rw (taken, none, are_statements, are_leaves, resolves) refl

-- what `check` writes
module _ (text : List ℕ) (whole : Input) (r : ReadsInput text whole) (short : has_short_lines whole.head.crm ≡ true) where
  steps : Steps text whole
  steps = steps-of text whole r

  limits : KeepsLimits whole.head.cluster
  limits = (cluster_valid text whole r).limits

  abbrev comment : List ℕ
  comment = counts (length whole.head.cluster.nodes) (length whole.head.cluster.leaves) (rules_in whole.head.cluster)

  written-is : check_text whole ≡ canonical_text whole.head.crm ++ (comment ++ 10 ∷ [])
  written-is = refl

  printed : ReadsAs (check_text whole) whole.head.crm
  printed =
      subst (λ written. ReadsAs written whole.head.crm) (sym written-is)
      (reads-again-commented text comment steps.front steps.rest whole.head.crm steps.are_lines steps.given.stated short
      (counts-comment (length whole.head.cluster.nodes) (length whole.head.cluster.leaves) (rules_in whole.head.cluster)
      (omega (arith, limits.nodes)) (omega (arith, limits.leaves)) (omega (arith, limits.rules))))

  leaves-again : expansion_of printed.again.statements ≡ Ok steps.given.leaves
  leaves-again = same-expansion whole.head.crm.statements printed.again.statements steps.given.leaves (sym printed.same) steps.given.expands

  cluster-again : resolution_of steps.given.leaves printed.again.statements ≡ Ok whole.head.cluster
  cluster-again =
      same-resolution steps.given.leaves whole.head.crm.statements printed.again.statements whole.head.cluster (sym printed.same) steps.given.resolves

  pub read-again : IsReadAgain (check_text whole) whole
  read-again =
      record {
        again = alone (check_text whole) printed.lines printed.again steps.given.leaves whole.head.cluster printed.are_lines printed.are_statements leaves-again cluster-again;
        reads = read-alone (check_text whole) printed.lines printed.again steps.given.leaves whole.head.cluster printed.are_lines printed.are_statements leaves-again cluster-again;
        same_forms = printed.same;
        same_cluster = refl;
        same_text = ap (λ canonical. canonical ++ counts_line whole.head.cluster) (canonical-again printed.again whole.head.crm printed.same);
      }
