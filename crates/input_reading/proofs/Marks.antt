-- Where sections begin, they begin in the order of their places.
use Rattle.std.proofs.Common.{◌≡◌, ℕ, ◌≤◌, Bool, not, Option, Some, None, List, [], length, codes, Result, Ok, Err, IfOk, refl, subst, arith}
use Rattle.std.specs.List.{position_or_len}
use Rattle.std.proofs.lemmas.List.Sums.{prefix_len-le-length}
use Rattle.crm_lex.specs.declared.line.Line.{Line}
use Rattle.crm_parse.specs.declared.marks.SectionMarks.{SectionMarks}
use Rattle.crm_parse.specs.Marks.{audit_sections_of, begins_with, last_at, misplaced, sections_of, status_at, marks_unless}
use Rattle.faults.specs.declared.fault.Fault.{Fault}
use Rattle.faults.specs.Reading.{Gives, faulting}
use Rattle.faults.proofs.Steps.{bind-ok, faulting-ok}
use Rattle.input_reading.specs.declared.input.cause.InputCause.{InputCause}
use Rattle.input_reading.specs.declared.input.cause.InputCause.TheVariants as cause
use Rattle.input_reading.specs.declared.input.sections.LastSection.{LastSection}
use Rattle.input_reading.specs.declared.input.sections.LastSection.TheVariants.{Results, Trace}
use Rattle.input_reading.specs.Inner.Sections.{sections_by}

pub position_within : {X : Type 0} (p : X → Bool) (xs : List X) → position_or_len p xs ≤ length xs
position_within p xs = prefix_len-le-length (λ x. not (p x)) xs

unless_given : {Marks : Type 0} (wrong : Option ℕ) (one other : Marks) → marks_unless wrong one ≡ Ok other → one ≡ other
unless_given None one other e = cc
unless_given (Some line) one other e = absurd cc

pub record InOrder (lines : List Line) (marks : SectionMarks) : Type 0 where
  pub status : marks.status_at ≤ marks.results_at
  pub results : marks.results_at ≤ marks.end
  pub end_is : marks.end ≡ length lines

-- the sections, where the last one has this name
abbrev marks_of : List ℕ → List Line → SectionMarks
marks_of last lines = record { status_at = status_at last lines; results_at = last_at last lines; end = length lines }

ordered : (last : List ℕ) (lines : List Line) → InOrder lines (marks_of last lines)
ordered last lines = record { status = omega arith; results = position_within (begins_with last) lines; end_is = refl }

with_results : (lines : List Line) (marks : SectionMarks) → sections_of lines ≡ Ok marks → InOrder lines marks
with_results lines marks e =
    let last = codes "%results" in
    subst (λ (m : SectionMarks). InOrder lines m) (unless_given (misplaced last [] lines) (marks_of last lines) marks e) (ordered last lines)

with_trace : (lines : List Line) (marks : SectionMarks) → sections_by Trace lines ≡ Ok marks → InOrder lines marks
with_trace lines marks e =
    let last = codes "%trace" in
    let (found, is, made) = bind-ok (audit_sections_of lines) _ marks e in
    let given : record { status_at = status_at last lines; trace_at = last_at last lines; end = length lines } ≡ found = unless_given (misplaced last [] lines) _ found is in
    let same : marks_of last lines ≡ marks = cc in
    subst (λ (m : SectionMarks). InOrder lines m) same (ordered last lines)

pub in_order : (last : LastSection) (lines : List Line) (marks : SectionMarks) → sections_by last lines ≡ Ok marks → InOrder lines marks
in_order Results lines marks e = with_results lines marks e
in_order Trace lines marks e = with_trace lines marks e

pub within : (last : LastSection) (lines : List Line) (given : Result SectionMarks (Fault InputCause))
    → Gives (λ (marks : SectionMarks). marks) given (faulting cause.Statements (sections_by last lines)) → IfOk given (λ marks. marks.results_at ≤ marks.end)
within last lines (Ok marks) h = (in_order last lines marks (faulting-ok cause.Statements (sections_by last lines) marks h)).results
within last lines (Err fault) h = tt
