-- The words of a line that a run prints say that line.
use Rattle.std.proofs.Common.{arith, ◌≡◌, ◌+◌, ◌<◌, ◌^◌, nat_lt, ℕ, true, false, Some, Ok, List, length, refl}
use Rattle.std.specs.Fmt.{decimal}
use Rattle.std.specs.Prelude.{slice_get}
use Rattle.std.proofs.lemmas.Bool.Decides.{nat_tests}
use Rattle.cluster_types.specs.declared.cluster.Cluster.{Cluster}
use Rattle.cluster_types.specs.declared.journal.Action.{Action}
use Rattle.cluster_types.specs.declared.journal.Action.TheVariants.{Fence, Probe, Operation, MigrateTo, MigrateFrom}
use Rattle.cluster_types.specs.declared.journal.Answer.{Answer}
use Rattle.cluster_types.specs.declared.journal.Answer.TheVariants as answer
use Rattle.cluster_types.specs.declared.leaf.Op.TheVariants.{Start, Stop, Promote, Demote, Monitor}
use Rattle.cluster_types.specs.declared.placement.NoReason.TheVariants.{NoCopies, Stopped, OnFail, StopAll, NoQuorum, NoNode, Held}
use Rattle.cluster_types.specs.declared.placement.Pin.TheVariants.{Unmanaged, Blocked}
use Rattle.cluster_types.specs.declared.placement.Target.TheVariants.{Nowhere, Started, Promoted}
use Rattle.cluster_types.specs.declared.run.RunLine.{RunLine}
use Rattle.cluster_types.specs.declared.run.RunLine.TheVariants as line
use Rattle.cluster_types.specs.Fields.{leaf_name}
use Rattle.cluster_types.specs.Texts.{node_name}
use Rattle.cluster_types.specs.Valid.{IsValid}
use Rattle.crm_lex.specs.Names.{is_name}
use Rattle.input_reading.specs.WordPlaces.{WordsOfLine, code_at, leaf_at, node_at, number_at, seconds_at, yes_at}
use Rattle.input_reading.specs.Results.{answer_of, end_line, lost_line, quorum_answer, report_line, result_word, timeout_line, up_line, wait_line}
use Rattle.input_reading.specs.LineWords.{action_word, action_word_at, id_at, line_word, pin_at, reason_of, target_at}
use Rattle.input_reading.specs.RunReading.{aborted_line, answer_line, begin_line, complete_line, fence_at_end, held_line, lacking_line, line_of_words, migrate_from_at_end, migrate_to_at_end, monitor_at_end, number_alone, operation_at_end, pinned_line, plain_line, probe_at_end, target_line, transition_line, unexpected_line}
use Rattle.input_reading.specs.PrintedLines.{IsActionOf, IsAnswerOf, IsLineOf, IsNumber}
use Rattle.input_reading.proofs.Names.{leaf_again, node_again}
use Rattle.input_reading.proofs.Numbers.{code_again, number_again, seconds_again}
use Rattle.input_reading.proofs.WordsOfLines.{line_words}

-- what stands at a place
number_is : (place : ℕ) (words : WordsOfLine) (n : ℕ) → slice_get words place ≡ Some (decimal n) → IsNumber n → number_at place words ≡ Ok n
unfolding number_at
number_is place words n there is = let read = number_again n is in rw (there, read) refl

code_is : (place : ℕ) (words : WordsOfLine) (n : ℕ) → slice_get words place ≡ Some (decimal n) → n < 256 → code_at place words ≡ Ok n
unfolding code_at
code_is place words n there low = let read = code_again n low in rw (there, read) refl

seconds_is : (place : ℕ) (words : WordsOfLine) (n : ℕ) → slice_get words place ≡ Some (decimal n) → n < 2 ^ 40 → seconds_at place words ≡ Ok n
unfolding seconds_at
seconds_is place words n there low = let read = seconds_again n low in rw (there, read) refl

id_is : (place : ℕ) (words : WordsOfLine) (id : List ℕ) → slice_get words place ≡ Some id → is_name id ≡ true → id_at place words ≡ Ok id
unfolding id_at
id_is place words id there is = rw (there, is) refl

module _ (c : Cluster) (valid : IsValid c) where
  node_is : (place : ℕ) (words : WordsOfLine) (n : ℕ) → slice_get words place ≡ Some (node_name c n) → n < length c.nodes → node_at c place words ≡ Ok n
  unfolding node_at
  node_is place words n there h = let read = node_again c valid n h in rw (there, read) refl

  leaf_is : (place : ℕ) (words : WordsOfLine) (r : ℕ) → slice_get words place ≡ Some (leaf_name c r) → r < length c.leaves → leaf_at c place words ≡ Ok r
  unfolding leaf_at
  leaf_is place words r there h = let read = leaf_again c valid r h in rw (there, read) refl

  begin_again : (k : ℕ) (a : Action) → IsNumber k → IsActionOf c a → line_of_words c (line_words c (line.Begin k a)) ≡ Ok (line.Begin k a)
  unfolding line_of_words line_word begin_line action_word_at action_word fence_at_end probe_at_end operation_at_end monitor_at_end migrate_to_at_end migrate_from_at_end
  begin_again k (Fence n) h g =
      let ws = line_words c (line.Begin k (Fence n)) in
      rw (number_is 1 ws k refl h, node_is 3 ws n refl g) refl
  begin_again k (Probe r n) h g =
      let ws = line_words c (line.Begin k (Probe r n)) in
      rw (number_is 1 ws k refl h, leaf_is 3 ws r refl g.leaf, node_is 4 ws n refl g.node) refl
  begin_again k (Operation Start r n interval role) h g =
      let ws = line_words c (line.Begin k (Operation Start r n interval role)) in
      rw (g.1, g.2, number_is 1 ws k refl h, leaf_is 3 ws r refl (g.0).leaf, node_is 4 ws n refl (g.0).node) refl
  begin_again k (Operation Stop r n interval role) h g =
      let ws = line_words c (line.Begin k (Operation Stop r n interval role)) in
      rw (g.1, g.2, number_is 1 ws k refl h, leaf_is 3 ws r refl (g.0).leaf, node_is 4 ws n refl (g.0).node) refl
  begin_again k (Operation Promote r n interval role) h g =
      let ws = line_words c (line.Begin k (Operation Promote r n interval role)) in
      rw (g.1, g.2, number_is 1 ws k refl h, leaf_is 3 ws r refl (g.0).leaf, node_is 4 ws n refl (g.0).node) refl
  begin_again k (Operation Demote r n interval role) h g =
      let ws = line_words c (line.Begin k (Operation Demote r n interval role)) in
      rw (g.1, g.2, number_is 1 ws k refl h, leaf_is 3 ws r refl (g.0).leaf, node_is 4 ws n refl (g.0).node) refl
  begin_again k (Operation Monitor r n interval role) h g =
      let ws = line_words c (line.Begin k (Operation Monitor r n interval role)) in
      rw (g.2, number_is 1 ws k refl h, leaf_is 3 ws r refl (g.0).leaf, node_is 4 ws n refl (g.0).node, number_is 5 ws interval refl g.1) refl
  begin_again k (MigrateTo r source target) h g =
      let ws = line_words c (line.Begin k (MigrateTo r source target)) in
      rw (number_is 1 ws k refl h, leaf_is 3 ws r refl (g.0).leaf, node_is 4 ws source refl (g.0).node, node_is 5 ws target refl g.1) refl
  begin_again k (MigrateFrom r source target) h g =
      let ws = line_words c (line.Begin k (MigrateFrom r source target)) in
      rw (number_is 1 ws k refl h, leaf_is 3 ws r refl (g.0).leaf, node_is 4 ws source refl (g.0).node, node_is 5 ws target refl g.1) refl

  taken_again : (given : Answer) → IsAnswerOf c given → line_of_words c (line_words c (line.Taken given)) ≡ Ok (line.Taken given)
  unfolding line_of_words line_word answer_line answer_of result_word end_line timeout_line lost_line up_line quorum_answer wait_line report_line yes_at
  taken_again (answer.End k code) h =
      let ws = line_words c (line.Taken (answer.End k code)) in
      rw (number_is 1 ws k refl h.0, code_is 2 ws code refl h.1) refl
  taken_again (answer.Timeout k) h =
      let ws = line_words c (line.Taken (answer.Timeout k)) in
      rw (number_is 1 ws k refl h) refl
  taken_again (answer.Lost n) h =
      let ws = line_words c (line.Taken (answer.Lost n)) in
      rw (node_is 1 ws n refl h) refl
  taken_again (answer.Up n) h =
      let ws = line_words c (line.Taken (answer.Up n)) in
      rw (node_is 1 ws n refl h) refl
  taken_again (answer.Quorum true) h = refl
  taken_again (answer.Quorum false) h = refl
  taken_again (answer.Wait seconds) h =
      let ws = line_words c (line.Taken (answer.Wait seconds)) in
      let soon : nat_lt (0 + seconds) (2 ^ 40) ≡ true = grind (arith, nat_tests) in
      rw (seconds_is 1 ws seconds refl h, soon) refl
  taken_again (answer.Report n r interval code) h =
      let ws = line_words c (line.Taken (answer.Report n r interval code)) in
      rw (node_is 1 ws n refl (h.0).node, leaf_is 2 ws r refl (h.0).leaf, number_is 3 ws interval refl h.1, code_is 4 ws code refl h.2) refl

  pub line_again : (l : RunLine) → IsLineOf c l → line_of_words c (line_words c l) ≡ Ok l
  unfolding line_of_words line_word number_alone transition_line complete_line aborted_line unexpected_line pinned_line target_line lacking_line held_line plain_line pin_at target_at reason_of
  line_again (line.Transition k) h = rw (number_is 1 (line_words c (line.Transition k)) k refl h) refl
  line_again (line.Pinned r Unmanaged) h = rw (leaf_is 1 (line_words c (line.Pinned r Unmanaged)) r refl h) refl
  line_again (line.Pinned r Blocked) h = rw (leaf_is 1 (line_words c (line.Pinned r Blocked)) r refl h) refl
  line_again (line.Goal r n Nowhere) h = absurd h.1
  line_again (line.Goal r n Started) h =
      let ws = line_words c (line.Goal r n Started) in
      rw (leaf_is 1 ws r refl (h.0).leaf, node_is 2 ws n refl (h.0).node) refl
  line_again (line.Goal r n Promoted) h =
      let ws = line_words c (line.Goal r n Promoted) in
      rw (leaf_is 1 ws r refl (h.0).leaf, node_is 2 ws n refl (h.0).node) refl
  line_again (line.Lacking r NoCopies) h = rw (leaf_is 1 (line_words c (line.Lacking r NoCopies)) r refl h) refl
  line_again (line.Lacking r Stopped) h = rw (leaf_is 1 (line_words c (line.Lacking r Stopped)) r refl h) refl
  line_again (line.Lacking r OnFail) h = rw (leaf_is 1 (line_words c (line.Lacking r OnFail)) r refl h) refl
  line_again (line.Lacking r StopAll) h = rw (leaf_is 1 (line_words c (line.Lacking r StopAll)) r refl h) refl
  line_again (line.Lacking r NoQuorum) h = rw (leaf_is 1 (line_words c (line.Lacking r NoQuorum)) r refl h) refl
  line_again (line.Lacking r NoNode) h = rw (leaf_is 1 (line_words c (line.Lacking r NoNode)) r refl h) refl
  line_again (line.Lacking r (Held id)) h =
      let ws = line_words c (line.Lacking r (Held id)) in
      rw (leaf_is 1 ws r refl h.0, id_is 3 ws id refl h.1) refl
  line_again (line.Begin k a) h = begin_again k a h.0 h.1
  line_again (line.Taken given) h = taken_again given h
  line_again (line.Complete k) h = rw (number_is 1 (line_words c (line.Complete k)) k refl h) refl
  line_again (line.Aborted k) h = rw (number_is 1 (line_words c (line.Aborted k)) k refl h) refl
  line_again (line.Unexpected l) h = rw (number_is 1 (line_words c (line.Unexpected l)) l refl h) refl
