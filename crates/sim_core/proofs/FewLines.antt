-- An input within the limit has few lines of a run, and they have few answers.
use Rattle.std.proofs.Common.{arith, ◌≡◌, ◌≤◌, ◌<◌, ◌+◌, ◌-◌, ◌^◌, ℕ, List, [], ◌∷◌, ◌++◌, length, length-append, drop, Ok, ap, subst}
use Rattle.std.specs.Prelude.{slice_range}
use Rattle.std.specs.List.{flat_map}
use Rattle.std.proofs.lemmas.List.{length-drop, length-take}
use Rattle.crm_lex.specs.declared.line.Line.{Line}
use Rattle.cluster_types.specs.declared.cluster.Cluster.{Cluster}
use Rattle.cluster_types.specs.declared.journal.Answer.{Answer}
use Rattle.cluster_types.specs.declared.run.RunLine.{RunLine}
use Rattle.cluster_types.specs.declared.run.RunLine.TheVariants as line
use Rattle.faults.proofs.Steps.{bind-ok}
use Rattle.input_reading.specs.declared.input.cause.InputCause.TheVariants as cause
use Rattle.input_reading.specs.declared.input.reading.Head.{Head}
use Rattle.input_reading.specs.declared.input.trace.Trace.{Trace}
use Rattle.input_reading.specs.declared.run.text.RunTextLine.{RunTextLine}
use Rattle.input_reading.specs.Reading.{following_lines, line_behind, most_bytes}
use Rattle.input_reading.specs.RunReading.{text_line, read_run_lines, with_run_lines}
use Rattle.input_reading.specs.Sections.{sections_with_trace}
use Rattle.input_reading.specs.Traces.{ReadsTrace, trace_of, with_run}
use Rattle.input_reading.proofs.FewLines.{few_rows_read}
use Rattle.input_reading.proofs.ValidInput.{passed}
use Rattle.sim_core.specs.LawfulRuns.{answer_in}
use Rattle.sim_core.proofs.InputSteps.{in_steps}

-- each line says one thing
count_run : (c : Cluster) (so_far : List RunTextLine) (lines : List Line) (out : List RunTextLine) → with_run_lines c so_far lines ≡ Ok out
    → length out ≡ length so_far + length lines
count_run c so_far [] out e = let same : so_far ≡ out = cc in let n = ap (λ (ls : List RunTextLine). length ls) same in omega arith
count_run c so_far (at ∷ more) out e =
    let (one, is, rest) = bind-ok (text_line c at) (λ (one : RunTextLine). with_run_lines c (so_far ++ one ∷ []) more) out e in
    let n = count_run c (so_far ++ one ∷ []) more out rest in
    let joint = length-append so_far (one ∷ []) in
    omega arith

few_behind : (after : ℕ) (head : Head) (lines : List Line) (trace : Trace) → with_run after head lines ≡ Ok trace → length trace.run.lines ≤ length lines
unfolding with_run
few_behind after head lines trace e =
    let run = passed cause.Run (read_run_lines head.cluster lines) _ trace e in
    let made : record { head = head; run = record { lines = run.gave }; after = after } ≡ trace = cc in
    let count = count_run head.cluster [] lines run.gave run.is in
    subst (λ (t : Trace). length t.run.lines ≤ length lines) made (omega arith)

few_lines : (text : List ℕ) (trace : Trace) → ReadsTrace text trace → length trace.run.lines ≤ length text
unfolding trace_of
few_lines text trace r =
    let s = in_steps sections_with_trace (λ all. with_run (line_behind all)) text trace r in
    let run = few_behind (line_behind s.found.lines) s.head (following_lines s.found.marks s.found.lines) trace s.follows in
    let all = few_rows_read text s.found.lines s.found.are in
    let part = few_there s.found.lines (s.found.marks.results_at + 1) s.found.marks.end in
    omega (arith, run, all, part)
  where
    few_there : (lines : List Line) (from to : ℕ) → length (slice_range lines from to) ≤ length lines
    few_there lines from to = let a = length-take (to - from) (drop from lines) in let b = length-drop from lines in omega (arith, a, b)

pub few_in_trace : (text : List ℕ) (trace : Trace) → ReadsTrace text trace → length text ≤ most_bytes → length trace.run.lines + 1 < 2 ^ 32
few_in_trace text trace r within = let few = few_lines text trace r in omega arith

-- their answers
one_answer : (l : RunLine) → length (answer_in l) ≤ 1
one_answer (line.Taken given) = omega arith
one_answer _ = omega arith

few_found : (lines : List RunTextLine) → length (flat_map (λ (l : RunTextLine). answer_in l.what) lines) ≤ length lines
few_found [] = omega arith
few_found (l ∷ lines) =
    let joint = length-append (answer_in l.what) (flat_map (λ (x : RunTextLine). answer_in x.what) lines) in
    let one = one_answer l.what in
    let more = few_found lines in
    omega arith

pub few_answers : (answers : List Answer) (lines : List RunTextLine) → answers ≡ flat_map (λ (l : RunTextLine). answer_in l.what) lines → length answers ≤ length lines
few_answers answers lines is = let few = few_found lines in let n = ap (λ (all : List Answer). length all) is in omega arith
