-- Lines of every form say what they should, and lines that nearly have a form say nothing.
use Rattle.std.proofs.Common.{pos, true, false, [], ◌∷◌, refl}
use Rattle.std.specs.Prelude.{codes}
use Rattle.cluster_types.specs.declared.cluster.Cluster.{Cluster}
use Rattle.cluster_types.specs.declared.journal.Action.TheVariants.{Operation, Fence, MigrateFrom, MigrateTo, Probe}
use Rattle.cluster_types.specs.declared.journal.Answer.{Answer}
use Rattle.cluster_types.specs.declared.journal.Answer.TheVariants as answer
use Rattle.cluster_types.specs.declared.journal.Event.TheVariants.{Cleanup, Ended}
use Rattle.cluster_types.specs.declared.journal.Outcome.TheVariants.{Code, TimedOut}
use Rattle.cluster_types.specs.declared.leaf.Op.TheVariants.{Monitor, Promote, Start}
use Rattle.cluster_types.specs.declared.leaf.Role.TheVariants as role
use Rattle.cluster_types.specs.declared.placement.NoReason.TheVariants.{Held, NoNode}
use Rattle.cluster_types.specs.declared.placement.Pin.TheVariants.{Blocked}
use Rattle.cluster_types.specs.declared.placement.Target.TheVariants as target
use Rattle.cluster_types.specs.declared.run.RunLine.{RunLine}
use Rattle.cluster_types.specs.declared.run.RunLine.TheVariants as line
use Rattle.cluster_types.proofs.SmallClusters.{plain_leaf, two_nodes}
use Rattle.input_reading.specs.declared.words.word_cause.WordCause.TheVariants.{BadValue, ExtraWord, MissingWord, UnknownName, UnknownStatement}
use Rattle.input_reading.specs.LineWords.{action_word, action_word_at, id_at, line_word, pin_at, reason_of, target_at}
use Rattle.input_reading.specs.WordPlaces.{code_at, leaf_at, node_at, number_at, seconds_at, yes_at}
use Rattle.input_reading.specs.Results.{answer_of, end_line, lost_line, quorum_answer, report_line, result_word, timeout_line, up_line, wait_line}
use Rattle.input_reading.specs.RunReading.{aborted_line, answer_line, begin_line, complete_line, fence_at_end, held_line, lacking_line, line_of_words, migrate_from_at_end, migrate_to_at_end, monitor_at_end, number_alone, operation_at_end, pinned_line, plain_line, probe_at_end, target_line, transition_line, unexpected_line}
use Rattle.input_reading.specs.Status.{cleanup_line, interval_at, node_line, now_line, op_at, op_line, outcome_at, promotable_at, promotion_line, quorum_line, score_at, state_at, status_word, told_of}
use Rattle.input_reading.specs.declared.status.line_meaning.NodeWord.TheVariants.{Unclean}
use Rattle.input_reading.specs.declared.status.line_meaning.Fact.{Fact}
use Rattle.input_reading.specs.declared.status.line_meaning.Fact.TheVariants.{Now, Quorum, Node, Past, Promoting}
use Rattle.input_reading.specs.Grammar.ResultForms.{ResultSays}
use Rattle.input_reading.specs.Grammar.RunForms.{RunSays}
use Rattle.input_reading.specs.Grammar.StatusForms.{StatusSays}
use Rattle.input_reading.proofs.ResultRelated.{none-answered, result-said}
use Rattle.input_reading.proofs.RunRelated.{no-line-said, run-said}
use Rattle.input_reading.proofs.StatusIsRead.{no-fact-said}
use Rattle.input_reading.proofs.StatusRelated.{status-said}

-- two nodes, n1 and n2, and two leaves, of which db is promotable

abbrev small : Cluster
small = two_nodes (plain_leaf (codes "vip") ∷ record (plain_leaf (codes "db")) { promotable = true } ∷ [])

-- result lines, at the moment 100

module _ where
  an_end : ResultSays small 100 (codes "end" ∷ codes "07" ∷ codes "0" ∷ []) (answer.End 7 0)
  unfolding answer_of result_word end_line timeout_line lost_line up_line quorum_answer wait_line report_line number_at code_at node_at leaf_at seconds_at yes_at
  an_end = result-said small 100 (codes "end" ∷ codes "07" ∷ codes "0" ∷ []) (answer.End 7 0) refl

  a_timeout : ResultSays small 100 (codes "timeout" ∷ codes "4294967295" ∷ []) (answer.Timeout 4294967295)
  unfolding answer_of result_word end_line timeout_line lost_line up_line quorum_answer wait_line report_line number_at code_at node_at leaf_at seconds_at yes_at
  a_timeout = result-said small 100 (codes "timeout" ∷ codes "4294967295" ∷ []) (answer.Timeout 4294967295) refl

  a_loss : ResultSays small 100 (codes "lost" ∷ codes "n2" ∷ []) (answer.Lost 1)
  unfolding answer_of result_word end_line timeout_line lost_line up_line quorum_answer wait_line report_line number_at code_at node_at leaf_at seconds_at yes_at
  a_loss = result-said small 100 (codes "lost" ∷ codes "n2" ∷ []) (answer.Lost 1) refl

  a_join : ResultSays small 100 (codes "up" ∷ codes "n1" ∷ []) (answer.Up 0)
  unfolding answer_of result_word end_line timeout_line lost_line up_line quorum_answer wait_line report_line number_at code_at node_at leaf_at seconds_at yes_at
  a_join = result-said small 100 (codes "up" ∷ codes "n1" ∷ []) (answer.Up 0) refl

  a_quorum : ResultSays small 100 (codes "quorum" ∷ codes "no" ∷ []) (answer.Quorum false)
  unfolding answer_of result_word end_line timeout_line lost_line up_line quorum_answer wait_line report_line number_at code_at node_at leaf_at seconds_at yes_at
  a_quorum = result-said small 100 (codes "quorum" ∷ codes "no" ∷ []) (answer.Quorum false) refl

  a_wait : ResultSays small 100 (codes "wait" ∷ codes "1099511627675" ∷ []) (answer.Wait 1099511627675)
  unfolding answer_of result_word end_line timeout_line lost_line up_line quorum_answer wait_line report_line number_at code_at node_at leaf_at seconds_at yes_at
  a_wait = result-said small 100 (codes "wait" ∷ codes "1099511627675" ∷ []) (answer.Wait 1099511627675) refl

  a_report : ResultSays small 100 (codes "report" ∷ codes "n2" ∷ codes "db" ∷ codes "10000" ∷ codes "8" ∷ []) (answer.Report 1 1 10000 8)
  unfolding answer_of result_word end_line timeout_line lost_line up_line quorum_answer wait_line report_line number_at code_at node_at leaf_at seconds_at yes_at
  a_report = result-said small 100 (codes "report" ∷ codes "n2" ∷ codes "db" ∷ codes "10000" ∷ codes "8" ∷ []) (answer.Report 1 1 10000 8) refl

  action_0 : (given : Answer) → ResultSays small 100 (codes "end" ∷ codes "0" ∷ codes "0" ∷ []) given → ⊥
  unfolding answer_of result_word end_line timeout_line lost_line up_line quorum_answer wait_line report_line number_at code_at node_at leaf_at seconds_at yes_at
  action_0 given s = none-answered small 100 (codes "end" ∷ codes "0" ∷ codes "0" ∷ []) BadValue given refl s

  too_high : (given : Answer) → ResultSays small 100 (codes "timeout" ∷ codes "4294967296" ∷ []) given → ⊥
  unfolding answer_of result_word end_line timeout_line lost_line up_line quorum_answer wait_line report_line number_at code_at node_at leaf_at seconds_at yes_at
  too_high given s = none-answered small 100 (codes "timeout" ∷ codes "4294967296" ∷ []) BadValue given refl s

  no_byte : (given : Answer) → ResultSays small 100 (codes "end" ∷ codes "1" ∷ codes "256" ∷ []) given → ⊥
  unfolding answer_of result_word end_line timeout_line lost_line up_line quorum_answer wait_line report_line number_at code_at node_at leaf_at seconds_at yes_at
  no_byte given s = none-answered small 100 (codes "end" ∷ codes "1" ∷ codes "256" ∷ []) BadValue given refl s

  no_code : (given : Answer) → ResultSays small 100 (codes "end" ∷ codes "1" ∷ []) given → ⊥
  unfolding answer_of result_word end_line timeout_line lost_line up_line quorum_answer wait_line report_line number_at code_at node_at leaf_at seconds_at yes_at
  no_code given s = none-answered small 100 (codes "end" ∷ codes "1" ∷ []) MissingWord given refl s

  one_more : (given : Answer) → ResultSays small 100 (codes "end" ∷ codes "1" ∷ codes "0" ∷ codes "0" ∷ []) given → ⊥
  unfolding answer_of result_word end_line timeout_line lost_line up_line quorum_answer wait_line report_line number_at code_at node_at leaf_at seconds_at yes_at
  one_more given s = none-answered small 100 (codes "end" ∷ codes "1" ∷ codes "0" ∷ codes "0" ∷ []) ExtraWord given refl s

  too_long : (given : Answer) → ResultSays small 100 (codes "wait" ∷ codes "1099511627676" ∷ []) given → ⊥
  unfolding answer_of result_word end_line timeout_line lost_line up_line quorum_answer wait_line report_line number_at code_at node_at leaf_at seconds_at yes_at
  too_long given s = none-answered small 100 (codes "wait" ∷ codes "1099511627676" ∷ []) BadValue given refl s

  no_digits : (given : Answer) → ResultSays small 100 (codes "wait" ∷ codes "-1" ∷ []) given → ⊥
  unfolding answer_of result_word end_line timeout_line lost_line up_line quorum_answer wait_line report_line number_at code_at node_at leaf_at seconds_at yes_at
  no_digits given s = none-answered small 100 (codes "wait" ∷ codes "-1" ∷ []) BadValue given refl s

  other_case : (given : Answer) → ResultSays small 100 (codes "quorum" ∷ codes "Yes" ∷ []) given → ⊥
  unfolding answer_of result_word end_line timeout_line lost_line up_line quorum_answer wait_line report_line number_at code_at node_at leaf_at seconds_at yes_at
  other_case given s = none-answered small 100 (codes "quorum" ∷ codes "Yes" ∷ []) BadValue given refl s

  no_node : (given : Answer) → ResultSays small 100 (codes "lost" ∷ codes "n3" ∷ []) given → ⊥
  unfolding answer_of result_word end_line timeout_line lost_line up_line quorum_answer wait_line report_line number_at code_at node_at leaf_at seconds_at yes_at
  no_node given s = none-answered small 100 (codes "lost" ∷ codes "n3" ∷ []) UnknownName given refl s

  no_word : (given : Answer) → ResultSays small 100 ([]) given → ⊥
  unfolding answer_of result_word end_line timeout_line lost_line up_line quorum_answer wait_line report_line number_at code_at node_at leaf_at seconds_at yes_at
  no_word given s = none-answered small 100 ([]) MissingWord given refl s

  other_word : (given : Answer) → ResultSays small 100 (codes "ends" ∷ codes "1" ∷ codes "0" ∷ []) given → ⊥
  unfolding answer_of result_word end_line timeout_line lost_line up_line quorum_answer wait_line report_line number_at code_at node_at leaf_at seconds_at yes_at
  other_word given s = none-answered small 100 (codes "ends" ∷ codes "1" ∷ codes "0" ∷ []) UnknownStatement given refl s

-- lines of a run

module _ where
  begins : RunSays small (codes "transition" ∷ codes "3" ∷ []) (line.Transition 3)
  unfolding line_of_words line_word transition_line complete_line aborted_line unexpected_line number_alone pinned_line pin_at target_line target_at lacking_line plain_line held_line reason_of id_at begin_line action_word_at action_word fence_at_end probe_at_end operation_at_end monitor_at_end migrate_to_at_end migrate_from_at_end answer_line answer_of result_word wait_line number_at seconds_at node_at leaf_at
  begins = run-said small (codes "transition" ∷ codes "3" ∷ []) (line.Transition 3) refl

  left_alone : RunSays small (codes "pinned" ∷ codes "vip" ∷ codes "blocked" ∷ []) (line.Pinned 0 Blocked)
  unfolding line_of_words line_word transition_line complete_line aborted_line unexpected_line number_alone pinned_line pin_at target_line target_at lacking_line plain_line held_line reason_of id_at begin_line action_word_at action_word fence_at_end probe_at_end operation_at_end monitor_at_end migrate_to_at_end migrate_from_at_end answer_line answer_of result_word wait_line number_at seconds_at node_at leaf_at
  left_alone = run-said small (codes "pinned" ∷ codes "vip" ∷ codes "blocked" ∷ []) (line.Pinned 0 Blocked) refl

  goal : RunSays small (codes "target" ∷ codes "db" ∷ codes "n2" ∷ codes "promoted" ∷ []) (line.Goal 1 1 target.Promoted)
  unfolding line_of_words line_word transition_line complete_line aborted_line unexpected_line number_alone pinned_line pin_at target_line target_at lacking_line plain_line held_line reason_of id_at begin_line action_word_at action_word fence_at_end probe_at_end operation_at_end monitor_at_end migrate_to_at_end migrate_from_at_end answer_line answer_of result_word wait_line number_at seconds_at node_at leaf_at
  goal = run-said small (codes "target" ∷ codes "db" ∷ codes "n2" ∷ codes "promoted" ∷ []) (line.Goal 1 1 target.Promoted) refl

  nowhere : RunSays small (codes "none" ∷ codes "vip" ∷ codes "NoNode" ∷ []) (line.Lacking 0 NoNode)
  unfolding line_of_words line_word transition_line complete_line aborted_line unexpected_line number_alone pinned_line pin_at target_line target_at lacking_line plain_line held_line reason_of id_at begin_line action_word_at action_word fence_at_end probe_at_end operation_at_end monitor_at_end migrate_to_at_end migrate_from_at_end answer_line answer_of result_word wait_line number_at seconds_at node_at leaf_at
  nowhere = run-said small (codes "none" ∷ codes "vip" ∷ codes "NoNode" ∷ []) (line.Lacking 0 NoNode) refl

  held_back : RunSays small (codes "none" ∷ codes "vip" ∷ codes "Held" ∷ codes "vip-with-db" ∷ []) (line.Lacking 0 (Held (codes "vip-with-db")))
  unfolding line_of_words line_word transition_line complete_line aborted_line unexpected_line number_alone pinned_line pin_at target_line target_at lacking_line plain_line held_line reason_of id_at begin_line action_word_at action_word fence_at_end probe_at_end operation_at_end monitor_at_end migrate_to_at_end migrate_from_at_end answer_line answer_of result_word wait_line number_at seconds_at node_at leaf_at
  held_back = run-said small (codes "none" ∷ codes "vip" ∷ codes "Held" ∷ codes "vip-with-db" ∷ []) (line.Lacking 0 (Held (codes "vip-with-db"))) refl

  fences : RunSays small (codes "begin" ∷ codes "1" ∷ codes "fence" ∷ codes "n1" ∷ []) (line.Begin 1 (Fence 0))
  unfolding line_of_words line_word transition_line complete_line aborted_line unexpected_line number_alone pinned_line pin_at target_line target_at lacking_line plain_line held_line reason_of id_at begin_line action_word_at action_word fence_at_end probe_at_end operation_at_end monitor_at_end migrate_to_at_end migrate_from_at_end answer_line answer_of result_word wait_line number_at seconds_at node_at leaf_at
  fences = run-said small (codes "begin" ∷ codes "1" ∷ codes "fence" ∷ codes "n1" ∷ []) (line.Begin 1 (Fence 0)) refl

  probes : RunSays small (codes "begin" ∷ codes "2" ∷ codes "probe" ∷ codes "db" ∷ codes "n2" ∷ []) (line.Begin 2 (Probe 1 1))
  unfolding line_of_words line_word transition_line complete_line aborted_line unexpected_line number_alone pinned_line pin_at target_line target_at lacking_line plain_line held_line reason_of id_at begin_line action_word_at action_word fence_at_end probe_at_end operation_at_end monitor_at_end migrate_to_at_end migrate_from_at_end answer_line answer_of result_word wait_line number_at seconds_at node_at leaf_at
  probes = run-said small (codes "begin" ∷ codes "2" ∷ codes "probe" ∷ codes "db" ∷ codes "n2" ∷ []) (line.Begin 2 (Probe 1 1)) refl

  starts : RunSays small (codes "begin" ∷ codes "3" ∷ codes "start" ∷ codes "db" ∷ codes "n2" ∷ []) (line.Begin 3 (Operation Start 1 1 0 role.Started))
  unfolding line_of_words line_word transition_line complete_line aborted_line unexpected_line number_alone pinned_line pin_at target_line target_at lacking_line plain_line held_line reason_of id_at begin_line action_word_at action_word fence_at_end probe_at_end operation_at_end monitor_at_end migrate_to_at_end migrate_from_at_end answer_line answer_of result_word wait_line number_at seconds_at node_at leaf_at
  starts = run-said small (codes "begin" ∷ codes "3" ∷ codes "start" ∷ codes "db" ∷ codes "n2" ∷ []) (line.Begin 3 (Operation Start 1 1 0 role.Started)) refl

  watches : RunSays small (codes "begin" ∷ codes "4" ∷ codes "monitor" ∷ codes "db" ∷ codes "n2" ∷ codes "10000" ∷ []) (line.Begin 4 (Operation Monitor 1 1 10000 role.Started))
  unfolding line_of_words line_word transition_line complete_line aborted_line unexpected_line number_alone pinned_line pin_at target_line target_at lacking_line plain_line held_line reason_of id_at begin_line action_word_at action_word fence_at_end probe_at_end operation_at_end monitor_at_end migrate_to_at_end migrate_from_at_end answer_line answer_of result_word wait_line number_at seconds_at node_at leaf_at
  watches = run-said small (codes "begin" ∷ codes "4" ∷ codes "monitor" ∷ codes "db" ∷ codes "n2" ∷ codes "10000" ∷ []) (line.Begin 4 (Operation Monitor 1 1 10000 role.Started)) refl

  moves_to : RunSays small (codes "begin" ∷ codes "5" ∷ codes "migrate_to" ∷ codes "vip" ∷ codes "n1" ∷ codes "n2" ∷ []) (line.Begin 5 (MigrateTo 0 0 1))
  unfolding line_of_words line_word transition_line complete_line aborted_line unexpected_line number_alone pinned_line pin_at target_line target_at lacking_line plain_line held_line reason_of id_at begin_line action_word_at action_word fence_at_end probe_at_end operation_at_end monitor_at_end migrate_to_at_end migrate_from_at_end answer_line answer_of result_word wait_line number_at seconds_at node_at leaf_at
  moves_to = run-said small (codes "begin" ∷ codes "5" ∷ codes "migrate_to" ∷ codes "vip" ∷ codes "n1" ∷ codes "n2" ∷ []) (line.Begin 5 (MigrateTo 0 0 1)) refl

  moves_from : RunSays small (codes "begin" ∷ codes "6" ∷ codes "migrate_from" ∷ codes "vip" ∷ codes "n1" ∷ codes "n2" ∷ []) (line.Begin 6 (MigrateFrom 0 0 1))
  unfolding line_of_words line_word transition_line complete_line aborted_line unexpected_line number_alone pinned_line pin_at target_line target_at lacking_line plain_line held_line reason_of id_at begin_line action_word_at action_word fence_at_end probe_at_end operation_at_end monitor_at_end migrate_to_at_end migrate_from_at_end answer_line answer_of result_word wait_line number_at seconds_at node_at leaf_at
  moves_from = run-said small (codes "begin" ∷ codes "6" ∷ codes "migrate_from" ∷ codes "vip" ∷ codes "n1" ∷ codes "n2" ∷ []) (line.Begin 6 (MigrateFrom 0 0 1)) refl

  is_complete : RunSays small (codes "complete" ∷ codes "3" ∷ []) (line.Complete 3)
  unfolding line_of_words line_word transition_line complete_line aborted_line unexpected_line number_alone pinned_line pin_at target_line target_at lacking_line plain_line held_line reason_of id_at begin_line action_word_at action_word fence_at_end probe_at_end operation_at_end monitor_at_end migrate_to_at_end migrate_from_at_end answer_line answer_of result_word wait_line number_at seconds_at node_at leaf_at
  is_complete = run-said small (codes "complete" ∷ codes "3" ∷ []) (line.Complete 3) refl

  is_aborted : RunSays small (codes "aborted" ∷ codes "3" ∷ []) (line.Aborted 3)
  unfolding line_of_words line_word transition_line complete_line aborted_line unexpected_line number_alone pinned_line pin_at target_line target_at lacking_line plain_line held_line reason_of id_at begin_line action_word_at action_word fence_at_end probe_at_end operation_at_end monitor_at_end migrate_to_at_end migrate_from_at_end answer_line answer_of result_word wait_line number_at seconds_at node_at leaf_at
  is_aborted = run-said small (codes "aborted" ∷ codes "3" ∷ []) (line.Aborted 3) refl

  unforeseen : RunSays small (codes "unexpected" ∷ codes "12" ∷ []) (line.Unexpected 12)
  unfolding line_of_words line_word transition_line complete_line aborted_line unexpected_line number_alone pinned_line pin_at target_line target_at lacking_line plain_line held_line reason_of id_at begin_line action_word_at action_word fence_at_end probe_at_end operation_at_end monitor_at_end migrate_to_at_end migrate_from_at_end answer_line answer_of result_word wait_line number_at seconds_at node_at leaf_at
  unforeseen = run-said small (codes "unexpected" ∷ codes "12" ∷ []) (line.Unexpected 12) refl

  longest_wait : RunSays small (codes "wait" ∷ codes "1099511627775" ∷ []) (line.Taken (answer.Wait 1099511627775))
  unfolding line_of_words line_word transition_line complete_line aborted_line unexpected_line number_alone pinned_line pin_at target_line target_at lacking_line plain_line held_line reason_of id_at begin_line action_word_at action_word fence_at_end probe_at_end operation_at_end monitor_at_end migrate_to_at_end migrate_from_at_end answer_line answer_of result_word wait_line number_at seconds_at node_at leaf_at
  longest_wait = run-said small (codes "wait" ∷ codes "1099511627775" ∷ []) (line.Taken (answer.Wait 1099511627775)) refl

  no_rule : (read : RunLine) → RunSays small (codes "none" ∷ codes "vip" ∷ codes "Held" ∷ []) read → ⊥
  unfolding line_of_words line_word transition_line complete_line aborted_line unexpected_line number_alone pinned_line pin_at target_line target_at lacking_line plain_line held_line reason_of id_at begin_line action_word_at action_word fence_at_end probe_at_end operation_at_end monitor_at_end migrate_to_at_end migrate_from_at_end answer_line answer_of result_word wait_line number_at seconds_at node_at leaf_at
  no_rule read s = no-line-said small (codes "none" ∷ codes "vip" ∷ codes "Held" ∷ []) MissingWord read refl s

  rule_of_none : (read : RunLine) → RunSays small (codes "none" ∷ codes "vip" ∷ codes "NoNode" ∷ codes "vip-with-db" ∷ []) read → ⊥
  unfolding line_of_words line_word transition_line complete_line aborted_line unexpected_line number_alone pinned_line pin_at target_line target_at lacking_line plain_line held_line reason_of id_at begin_line action_word_at action_word fence_at_end probe_at_end operation_at_end monitor_at_end migrate_to_at_end migrate_from_at_end answer_line answer_of result_word wait_line number_at seconds_at node_at leaf_at
  rule_of_none read s = no-line-said small (codes "none" ∷ codes "vip" ∷ codes "NoNode" ∷ codes "vip-with-db" ∷ []) ExtraWord read refl s

  leaf_first : (read : RunLine) → RunSays small (codes "target" ∷ codes "n2" ∷ codes "db" ∷ codes "promoted" ∷ []) read → ⊥
  unfolding line_of_words line_word transition_line complete_line aborted_line unexpected_line number_alone pinned_line pin_at target_line target_at lacking_line plain_line held_line reason_of id_at begin_line action_word_at action_word fence_at_end probe_at_end operation_at_end monitor_at_end migrate_to_at_end migrate_from_at_end answer_line answer_of result_word wait_line number_at seconds_at node_at leaf_at
  leaf_first read s = no-line-said small (codes "target" ∷ codes "n2" ∷ codes "db" ∷ codes "promoted" ∷ []) UnknownName read refl s

  without_ms : (read : RunLine) → RunSays small (codes "begin" ∷ codes "4" ∷ codes "monitor" ∷ codes "db" ∷ codes "n2" ∷ []) read → ⊥
  unfolding line_of_words line_word transition_line complete_line aborted_line unexpected_line number_alone pinned_line pin_at target_line target_at lacking_line plain_line held_line reason_of id_at begin_line action_word_at action_word fence_at_end probe_at_end operation_at_end monitor_at_end migrate_to_at_end migrate_from_at_end answer_line answer_of result_word wait_line number_at seconds_at node_at leaf_at
  without_ms read s = no-line-said small (codes "begin" ∷ codes "4" ∷ codes "monitor" ∷ codes "db" ∷ codes "n2" ∷ []) MissingWord read refl s

  with_ms : (read : RunLine) → RunSays small (codes "begin" ∷ codes "3" ∷ codes "start" ∷ codes "db" ∷ codes "n2" ∷ codes "0" ∷ []) read → ⊥
  unfolding line_of_words line_word transition_line complete_line aborted_line unexpected_line number_alone pinned_line pin_at target_line target_at lacking_line plain_line held_line reason_of id_at begin_line action_word_at action_word fence_at_end probe_at_end operation_at_end monitor_at_end migrate_to_at_end migrate_from_at_end answer_line answer_of result_word wait_line number_at seconds_at node_at leaf_at
  with_ms read s = no-line-said small (codes "begin" ∷ codes "3" ∷ codes "start" ∷ codes "db" ∷ codes "n2" ∷ codes "0" ∷ []) ExtraWord read refl s

  ms_of_0 : (read : RunLine) → RunSays small (codes "begin" ∷ codes "4" ∷ codes "monitor" ∷ codes "db" ∷ codes "n2" ∷ codes "0" ∷ []) read → ⊥
  unfolding line_of_words line_word transition_line complete_line aborted_line unexpected_line number_alone pinned_line pin_at target_line target_at lacking_line plain_line held_line reason_of id_at begin_line action_word_at action_word fence_at_end probe_at_end operation_at_end monitor_at_end migrate_to_at_end migrate_from_at_end answer_line answer_of result_word wait_line number_at seconds_at node_at leaf_at
  ms_of_0 read s = no-line-said small (codes "begin" ∷ codes "4" ∷ codes "monitor" ∷ codes "db" ∷ codes "n2" ∷ codes "0" ∷ []) BadValue read refl s

  to_be_stopped : (read : RunLine) → RunSays small (codes "target" ∷ codes "db" ∷ codes "n2" ∷ codes "stopped" ∷ []) read → ⊥
  unfolding line_of_words line_word transition_line complete_line aborted_line unexpected_line number_alone pinned_line pin_at target_line target_at lacking_line plain_line held_line reason_of id_at begin_line action_word_at action_word fence_at_end probe_at_end operation_at_end monitor_at_end migrate_to_at_end migrate_from_at_end answer_line answer_of result_word wait_line number_at seconds_at node_at leaf_at
  to_be_stopped read s = no-line-said small (codes "target" ∷ codes "db" ∷ codes "n2" ∷ codes "stopped" ∷ []) BadValue read refl s

-- lines of a status

module _ where
  now_is : StatusSays small (codes "now" ∷ codes "0100" ∷ []) (Now 100)
  unfolding told_of status_word now_line quorum_line node_line op_line cleanup_line promotion_line seconds_at yes_at node_at leaf_at state_at op_at interval_at outcome_at promotable_at score_at
  now_is = status-said small (codes "now" ∷ codes "0100" ∷ []) (Now 100) refl

  has_quorum : StatusSays small (codes "quorum" ∷ codes "yes" ∷ []) (Quorum true)
  unfolding told_of status_word now_line quorum_line node_line op_line cleanup_line promotion_line seconds_at yes_at node_at leaf_at state_at op_at interval_at outcome_at promotable_at score_at
  has_quorum = status-said small (codes "quorum" ∷ codes "yes" ∷ []) (Quorum true) refl

  left : StatusSays small (codes "node" ∷ codes "n2" ∷ codes "unclean" ∷ []) (Node 1 Unclean)
  unfolding told_of status_word now_line quorum_line node_line op_line cleanup_line promotion_line seconds_at yes_at node_at leaf_at state_at op_at interval_at outcome_at promotable_at score_at
  left = status-said small (codes "node" ∷ codes "n2" ∷ codes "unclean" ∷ []) (Node 1 Unclean) refl

  started : StatusSays small (codes "op" ∷ codes "n1" ∷ codes "vip" ∷ codes "start" ∷ codes "0" ∷ codes "0" ∷ codes "90" ∷ []) (Past (Ended 0 (Operation Start 0 0 0 role.Started) (Code 0) 90))
  unfolding told_of status_word now_line quorum_line node_line op_line cleanup_line promotion_line seconds_at yes_at node_at leaf_at state_at op_at interval_at outcome_at promotable_at score_at
  started = status-said small (codes "op" ∷ codes "n1" ∷ codes "vip" ∷ codes "start" ∷ codes "0" ∷ codes "0" ∷ codes "90" ∷ []) (Past (Ended 0 (Operation Start 0 0 0 role.Started) (Code 0) 90)) refl

  was_promoted : StatusSays small (codes "op" ∷ codes "n1" ∷ codes "db" ∷ codes "promote" ∷ codes "0" ∷ codes "timeout" ∷ codes "90" ∷ []) (Past (Ended 0 (Operation Promote 1 0 0 role.Started) TimedOut 90))
  unfolding told_of status_word now_line quorum_line node_line op_line cleanup_line promotion_line seconds_at yes_at node_at leaf_at state_at op_at interval_at outcome_at promotable_at score_at
  was_promoted = status-said small (codes "op" ∷ codes "n1" ∷ codes "db" ∷ codes "promote" ∷ codes "0" ∷ codes "timeout" ∷ codes "90" ∷ []) (Past (Ended 0 (Operation Promote 1 0 0 role.Started) TimedOut 90)) refl

  was_probed : StatusSays small (codes "op" ∷ codes "n1" ∷ codes "vip" ∷ codes "monitor" ∷ codes "00" ∷ codes "7" ∷ codes "90" ∷ []) (Past (Ended 0 (Probe 0 0) (Code 7) 90))
  unfolding told_of status_word now_line quorum_line node_line op_line cleanup_line promotion_line seconds_at yes_at node_at leaf_at state_at op_at interval_at outcome_at promotable_at score_at
  was_probed = status-said small (codes "op" ∷ codes "n1" ∷ codes "vip" ∷ codes "monitor" ∷ codes "00" ∷ codes "7" ∷ codes "90" ∷ []) (Past (Ended 0 (Probe 0 0) (Code 7) 90)) refl

  was_watched : StatusSays small (codes "op" ∷ codes "n1" ∷ codes "vip" ∷ codes "monitor" ∷ codes "10000" ∷ codes "7" ∷ codes "90" ∷ []) (Past (Ended 0 (Operation Monitor 0 0 10000 role.Started) (Code 7) 90))
  unfolding told_of status_word now_line quorum_line node_line op_line cleanup_line promotion_line seconds_at yes_at node_at leaf_at state_at op_at interval_at outcome_at promotable_at score_at
  was_watched = status-said small (codes "op" ∷ codes "n1" ∷ codes "vip" ∷ codes "monitor" ∷ codes "10000" ∷ codes "7" ∷ codes "90" ∷ []) (Past (Ended 0 (Operation Monitor 0 0 10000 role.Started) (Code 7) 90)) refl

  forgotten : StatusSays small (codes "cleanup" ∷ codes "n1" ∷ codes "vip" ∷ []) (Past (Cleanup 0 0))
  unfolding told_of status_word now_line quorum_line node_line op_line cleanup_line promotion_line seconds_at yes_at node_at leaf_at state_at op_at interval_at outcome_at promotable_at score_at
  forgotten = status-said small (codes "cleanup" ∷ codes "n1" ∷ codes "vip" ∷ []) (Past (Cleanup 0 0)) refl

  wants_more : StatusSays small (codes "promotion" ∷ codes "n2" ∷ codes "db" ∷ codes "50" ∷ []) (Promoting (record { leaf = 1; node = 1; score = pos 50 }))
  unfolding told_of status_word now_line quorum_line node_line op_line cleanup_line promotion_line seconds_at yes_at node_at leaf_at state_at op_at interval_at outcome_at promotable_at score_at
  wants_more = status-said small (codes "promotion" ∷ codes "n2" ∷ codes "db" ∷ codes "50" ∷ []) (Promoting (record { leaf = 1; node = 1; score = pos 50 })) refl

  never_promoted : (fact : Fact) → StatusSays small (codes "op" ∷ codes "n1" ∷ codes "vip" ∷ codes "promote" ∷ codes "0" ∷ codes "0" ∷ codes "90" ∷ []) fact → ⊥
  unfolding told_of status_word now_line quorum_line node_line op_line cleanup_line promotion_line seconds_at yes_at node_at leaf_at state_at op_at interval_at outcome_at promotable_at score_at
  never_promoted fact s = no-fact-said small (codes "op" ∷ codes "n1" ∷ codes "vip" ∷ codes "promote" ∷ codes "0" ∷ codes "0" ∷ codes "90" ∷ []) BadValue fact refl s

  never_wanted : (fact : Fact) → StatusSays small (codes "promotion" ∷ codes "n2" ∷ codes "vip" ∷ codes "50" ∷ []) fact → ⊥
  unfolding told_of status_word now_line quorum_line node_line op_line cleanup_line promotion_line seconds_at yes_at node_at leaf_at state_at op_at interval_at outcome_at promotable_at score_at
  never_wanted fact s = no-fact-said small (codes "promotion" ∷ codes "n2" ∷ codes "vip" ∷ codes "50" ∷ []) BadValue fact refl s

  start_recurs : (fact : Fact) → StatusSays small (codes "op" ∷ codes "n1" ∷ codes "vip" ∷ codes "start" ∷ codes "10000" ∷ codes "0" ∷ codes "90" ∷ []) fact → ⊥
  unfolding told_of status_word now_line quorum_line node_line op_line cleanup_line promotion_line seconds_at yes_at node_at leaf_at state_at op_at interval_at outcome_at promotable_at score_at
  start_recurs fact s = no-fact-said small (codes "op" ∷ codes "n1" ∷ codes "vip" ∷ codes "start" ∷ codes "10000" ∷ codes "0" ∷ codes "90" ∷ []) BadValue fact refl s

  no_state : (fact : Fact) → StatusSays small (codes "node" ∷ codes "n1" ∷ codes "standby" ∷ []) fact → ⊥
  unfolding told_of status_word now_line quorum_line node_line op_line cleanup_line promotion_line seconds_at yes_at node_at leaf_at state_at op_at interval_at outcome_at promotable_at score_at
  no_state fact s = no-fact-said small (codes "node" ∷ codes "n1" ∷ codes "standby" ∷ []) BadValue fact refl s

  too_late : (fact : Fact) → StatusSays small (codes "now" ∷ codes "1099511627776" ∷ []) fact → ⊥
  unfolding told_of status_word now_line quorum_line node_line op_line cleanup_line promotion_line seconds_at yes_at node_at leaf_at state_at op_at interval_at outcome_at promotable_at score_at
  too_late fact s = no-fact-said small (codes "now" ∷ codes "1099511627776" ∷ []) BadValue fact refl s

  no_moment : (fact : Fact) → StatusSays small (codes "op" ∷ codes "n1" ∷ codes "vip" ∷ codes "start" ∷ codes "0" ∷ codes "0" ∷ []) fact → ⊥
  unfolding told_of status_word now_line quorum_line node_line op_line cleanup_line promotion_line seconds_at yes_at node_at leaf_at state_at op_at interval_at outcome_at promotable_at score_at
  no_moment fact s = no-fact-said small (codes "op" ∷ codes "n1" ∷ codes "vip" ∷ codes "start" ∷ codes "0" ∷ codes "0" ∷ []) MissingWord fact refl s

  an_answer : (fact : Fact) → StatusSays small (codes "wait" ∷ codes "5" ∷ []) fact → ⊥
  unfolding told_of status_word now_line quorum_line node_line op_line cleanup_line promotion_line seconds_at yes_at node_at leaf_at state_at op_at interval_at outcome_at promotable_at score_at
  an_answer fact s = no-fact-said small (codes "wait" ∷ codes "5" ∷ []) UnknownStatement fact refl s
