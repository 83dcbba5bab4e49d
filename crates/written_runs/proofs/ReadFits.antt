-- What is read of a text has intervals and exit codes that fit.
use Rattle.std.proofs.Common.{arith, ◌≡◌, ◌<◌, ◌≤◌, ◌+◌, ◌*◌, ◌^◌, nat_le, ℕ, Bool, true, false, cond, if◌then◌else◌, Option, Some, None, unwrap_or, List, [], ◌∷◌, ◌++◌, length, map, take, drop, Contains, Ok, refl, sym, ap, ◌∙◌, subst}
use Rattle.std.specs.Prelude.{codes}
use Rattle.std.specs.List.{AllByRecursion}
use Rattle.std.specs.Option.{option_and_then}
use Rattle.std.proofs.lemmas.Bool.Decides.{nat_tests}
use Rattle.std.proofs.lemmas.List.{length-map}
use Rattle.faults.specs.Digits.{number_up_to}
use Rattle.faults.proofs.Steps.{unless-ok}
use Rattle.crm_parse.specs.declared.pair.Kv.{Kv}
use Rattle.crm_parse.specs.declared.pair.Operation.{Operation}
use Rattle.crm_parse.specs.declared.statement.Statement.{Statement}
use Rattle.crm_parse.specs.Operations.{interval_of, recurs, value_of}
use Rattle.crm_parse.specs.Values.{digits_before, time_of, unit_of, up_to}
use Rattle.cluster_types.specs.declared.cluster.Cluster.{Cluster}
use Rattle.cluster_types.specs.declared.leaf.Leaf.{Leaf}
use Rattle.cluster_types.specs.declared.leaf.Monitor.{Monitor as MonitorOf}
use Rattle.cluster_model.specs.declared.expansion.leaves.Leaves.{Leaves}
use Rattle.cluster_model.specs.Expansion.{expansion_of, leaf_fault, leaves_and_spans}
use Rattle.cluster_model.specs.FirstFaults.{first_fault}
use Rattle.cluster_model.specs.Leaves.{leaf_said, leaves_said}
use Rattle.cluster_model.specs.Resources.{Primitive, all_primitives}
use Rattle.cluster_model.specs.Resolution.{cause_said, cluster_said, resolution_of}
use Rattle.cluster_model.specs.Operations.{monitor_of, monitors_of}
use Rattle.cluster_model.proofs.EachOf.{all_map, of_all}
use Rattle.input_reading.specs.declared.input.reading.Head.{Head}
use Rattle.input_reading.specs.declared.input.reading.Input.{Input}
use Rattle.input_reading.specs.declared.results.result_lines.ResultLine.{ResultLine}
use Rattle.input_reading.specs.Reading.{ReadsInput, following_lines, head_of, status_lines, with_results}
use Rattle.input_reading.proofs.ValidInput.{head_made, passed_on, read_from, results_few, results_keep_head, stepped}
use Rattle.input_reading.proofs.AnswersFit.{AtMost}
use Rattle.crm_parse.specs.Marks.{sections_of}
use Rattle.written_runs.specs.Fitting.{IntervalsFit}

-- a time that is read
below_case : (most n m : ℕ) (b : Bool) → nat_le n most ≡ b → (if b then Some n else None) ≡ Some m → m ≤ most
below_case most n m true h e = let same : n ≡ m = cc in subst (λ k. k ≤ most) same (grind (arith, nat_tests))
below_case most n m false h e = cc

up_to_most : (most n : ℕ) → AtMost most (up_to most n)
up_to_most most n m e = below_case most n m (nat_le n most) refl e

-- a time, and the interval of an operation
time_case : (number unit : Option ℕ) (t : ℕ)
    → option_and_then (λ n. option_and_then (λ u. up_to 4294967295 (n * u)) unit) number ≡ Some t → t ≤ 4294967295
time_case None unit t e = cc
time_case (Some n) None t e = cc
time_case (Some n) (Some u) t e = up_to_most 4294967295 (n * u) t e

time_most : (word : List ℕ) → AtMost 4294967295 (time_of word)
time_most word t e = time_case (number_up_to 4294967295 (take (digits_before word) word)) (unit_of (drop (digits_before word) word)) t e

read_case : (read : List ℕ → Option ℕ) → ((word : List ℕ) → AtMost 4294967295 (read word)) → (found : Option (List ℕ)) → AtMost 4294967295 (option_and_then read found)
read_case read h None n e = cc
read_case read h (Some word) n e = h word n e

or_0 : (found : Option ℕ) → AtMost 4294967295 found → unwrap_or found 0 ≤ 4294967295
or_0 None h = omega arith
or_0 (Some n) h = h n refl

interval_most : (pairs : List Kv) → interval_of pairs ≤ 4294967295
interval_most pairs = or_0 (option_and_then time_of (value_of (codes "interval") pairs)) (read_case time_of time_most (value_of (codes "interval") pairs))

-- the monitors of a leaf
abbrev MonitorFits : MonitorOf → Type 0
MonitorFits m = m.interval_ms < 2 ^ 32

monitors_case : (b : Bool) (pairs : List Kv) (monitors : List MonitorOf) → AllByRecursion MonitorFits monitors
    → AllByRecursion MonitorFits (cond b (monitor_of pairs ∷ []) [] ++ monitors)
unfolding monitor_of
monitors_case true pairs monitors h = (let most = interval_most pairs in omega (arith, most), h)
monitors_case false pairs monitors h = h

monitors_fit : (ops : List Operation) → AllByRecursion MonitorFits (monitors_of ops)
monitors_fit [] = tt
monitors_fit (op ∷ ops) = monitors_case (recurs op) op.pairs (monitors_of ops) (monitors_fit ops)

abbrev LeafFits : Leaf → Type 0
LeafFits leaf = AllByRecursion MonitorFits leaf.monitors

leaf_fits : (statements : List Statement) (p : Primitive) → LeafFits (leaf_said statements p)
unfolding leaf_said
leaf_fits statements p = monitors_fit p.ops

all_leaves_fit : (statements : List Statement) → AllByRecursion LeafFits (leaves_said statements)
unfolding leaves_said
all_leaves_fit statements = all_map LeafFits (leaf_said statements) (all_primitives statements) (leaf_fits statements)

-- the cluster of a configuration
cluster_leaves : (leaves : Leaves) (statements : List Statement) (c : Cluster) → resolution_of leaves statements ≡ Ok c → c.leaves ≡ leaves.leaves
unfolding resolution_of cluster_said
cluster_leaves leaves statements c r =
    let found = unless-ok (first_fault (cause_said leaves statements) [] statements) (cluster_said leaves statements statements) c r in
    sym (ap (λ (c : Cluster). c.leaves) found.1)

expanded_leaves : (statements : List Statement) (leaves : Leaves) → expansion_of statements ≡ Ok leaves → leaves.leaves ≡ leaves_said statements
expanded_leaves statements leaves e =
    let found = unless-ok (leaf_fault statements) (leaves_and_spans statements) leaves e in
    sym (ap (λ (l : Leaves). l.leaves) found.1)

intervals_fit : (statements : List Statement) (leaves : Leaves) (c : Cluster) → expansion_of statements ≡ Ok leaves → resolution_of leaves statements ≡ Ok c → IntervalsFit c
intervals_fit statements leaves c e r leaf m there in_leaf =
    let same : c.leaves ≡ leaves_said statements = cluster_leaves leaves statements c r ∙ expanded_leaves statements leaves e in
    let fits : LeafFits leaf = of_all LeafFits (leaves_said statements) leaf (all_leaves_fit statements) (subst (λ (ls : List Leaf). Contains ls leaf) same there) in
    of_all MonitorFits leaf.monitors m fits in_leaf

module _ (text : List ℕ) (input : Input) (r : ReadsInput text input) where
  pub read_intervals : IntervalsFit input.head.cluster
  read_intervals =
      let s = stepped text input r in
      let from = read_from sections_of text s.found s.configuration in
      let lines = status_lines s.found.marks s.found.lines in
      let head = passed_on (head_of s.found.crm s.cluster lines) (λ head. with_results head (following_lines s.found.marks s.found.lines)) input s.made in
      let kept = results_keep_head head.gave (following_lines s.found.marks s.found.lines) input head.goes_on in
      let same : input.head.cluster ≡ s.cluster = ap (λ (h : Head). h.cluster) kept ∙ (head_made s.found.crm s.cluster lines head.gave head.is).same in
      subst IntervalsFit (sym same) (intervals_fit s.found.crm.statements s.found.leaves s.cluster from.leaves s.resolves)

  pub read_few : length (map (λ (result : ResultLine). result.answer) input.results) + 1 < 2 ^ 32
  read_few =
      let few = results_few text input r in
      let long = length-map input.results (λ (result : ResultLine). result.answer) in
      omega (arith, few, long)
