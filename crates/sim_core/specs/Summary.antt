-- The summary of a run, as it is written for a generated case (rule of this project).
use Rattle.std.specs.Prelude.{ℕ, ◌-◌, Bool, true, false, List, ◌++◌, codes, count_by, decimal, filter, length, slice_get, sum_by}
use Rattle.std.specs.List.{range_with_len}
use Rattle.std.specs.Option.{option_map_or}
use Rattle.cases.specs.Case.{lost_node}
use Rattle.cluster_types.specs.declared.cluster.Cluster.{Cluster}
use Rattle.cluster_types.specs.declared.journal.Event.{Event}
use Rattle.cluster_types.specs.declared.journal.Event.TheVariants.{Begin, Ended}
use Rattle.cluster_types.specs.declared.run.Passed.{Passed}
use Rattle.cluster_types.specs.declared.run.Run.{Run}
use Rattle.cluster_types.specs.Steps.{is_success}
use Rattle.cluster_types.specs.Tables.{Targets, is_somewhere, targets_of}

-- an action begins
abbrev pub is_begin : Event → Bool
is_begin (Begin k a) = true
is_begin _ = false

-- an action ends with a success
abbrev pub is_good_end : Cluster → Event → Bool
is_good_end c (Ended k a o moment) = is_success c a o
is_good_end c _ = false

-- how many cells of the cluster have a target: of each leaf, on how many nodes it has one
abbrev pub cells_with_targets : Cluster → Targets → ℕ
cells_with_targets c table = sum_by (λ r. count_by (λ n. is_somewhere (table r n)) (range_with_len 0 (length c.nodes))) (range_with_len 0 (length c.leaves))

-- the same in the last of some transitions, and 0 of none
abbrev pub last_targets : Cluster → List Passed → ℕ
last_targets c all = option_map_or (λ (passed : Passed). cells_with_targets c (targets_of passed.table)) (slice_get all (length all - 1)) 0

-- a word and a number
abbrev pub count_line : List ℕ → ℕ → List ℕ
count_line word n = word ++ codes " " ++ decimal n ++ codes "\n"

module _ (c : Cluster) where
  -- the number that is printed
  abbrev pub case_lines : ℕ → List ℕ
  case_lines number =
      count_line (codes "gen") number ++ (codes "lost n" ++ decimal (lost_node number) ++ codes "\n") ++ count_line (codes "nodes") (length c.nodes)
      ++ count_line (codes "leaves") (length c.leaves)

  -- the lines on a run: how many transitions, begins and successes its journal has, and how many targets at last. (The status of a generated case tells no
  -- history, so all of them are of the run)
  abbrev pub summary_lines : Run → List ℕ
  summary_lines run =
      count_line (codes "transitions") (length run.passed) ++ count_line (codes "begun") (length (filter is_begin run.journal.events))
      ++ count_line (codes "succeeded") (length (filter (is_good_end c) run.journal.events)) ++ count_line (codes "targets") (last_targets c run.passed)

  abbrev pub summary_text : ℕ → Run → List ℕ
  summary_text number run = case_lines number ++ summary_lines run
