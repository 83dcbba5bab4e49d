-- Why a node is chosen or not, by what is read of the cluster (follows from the definition of verdicts).
use Rattle.std.specs.Prelude.{ℕ, nat_lt, ◌==◌, ◌&&◌, ◌||◌, Bool, not, if◌then◌else◌, ℤ, pos, int_lt, Option, Some, None, unwrap_or, option_map, List, length, find, slice_index_or}
use Rattle.std.specs.Borrow.{Bor}
use Rattle.std.specs.Int.{is_negative}
use Rattle.std.specs.List.{list_all, range_with_len}
use Rattle.std.specs.Option.{option_copied, option_map_or, option_or}
use Rattle.std.specs.Ordering.{int_eq}
use Rattle.score.specs.NodeSet.{has}
use Rattle.score.specs.declared.node_set.NodeSet.{NodeSet}
use Rattle.cluster_types.specs.declared.cluster.Cluster.{Cluster}
use Rattle.cluster_types.specs.declared.placement.Decision.{Decision}
use Rattle.cluster_types.specs.declared.rules.Colocation.{Colocation}
use Rattle.cluster_types.specs.declared.states.Rights.{Rights}
use Rattle.cluster_types.specs.declared.states.States.{States}
use Rattle.cluster_types.specs.Choice.{is_placed_for}
use Rattle.cluster_types.specs.Tables.{Targets}
use Rattle.decision_account.specs.Verdicts.{Verdict, beside, below, capped, chosen, forbidden, fuller, later, less, unplaced, unusable, without}
use Rattle.placement.specs.Reads.{is_kept_in}
use Rattle.placement.specs.UsableNodes.{is_usable_by}
use Rattle.account_text.specs.Inner.Sides.{first_joined, first_missing}

-- the total and the load of a node in their lists
abbrev pub total_listed : List ℤ → ℕ → ℤ
total_listed totals n = slice_index_or totals n (pos 0)

abbrev pub load_listed : List ℕ → ℕ → ℕ
load_listed loads n = slice_index_or loads n 0

module _ (totals : List ℤ) (loads : List ℕ) where
  -- the one node is chosen before the other
  abbrev pub goes_ahead : ℕ → ℕ → Bool
  goes_ahead n m =
      int_lt (total_listed totals m) (total_listed totals n)
      || int_eq (total_listed totals n) (total_listed totals m)
      && (nat_lt (load_listed loads n) (load_listed loads m) || load_listed loads n == load_listed loads m && nat_lt n m)

  -- node m goes before node n, if it is another and in the set
  abbrev pub stays_before : NodeSet → ℕ → ℕ → Bool
  stays_before picked m n = not (has picked m) || (m == n || goes_ahead m n)

  -- the node is in the set, and each other one that is goes before it
  abbrev pub is_last_of : NodeSet → ℕ → Bool
  is_last_of picked n =
      has picked n && list_all (λ m. stays_before picked m n) (range_with_len 0 (length totals))

  abbrev pub last_of : NodeSet → Option ℕ
  last_of picked = find (is_last_of picked) (range_with_len 0 (length totals))

  -- by what node m goes before node n
  abbrev pub passed_in : ℕ → ℕ → Verdict
  passed_in n m =
      if int_lt (total_listed totals n) (total_listed totals m) then less m
      else (if nat_lt (load_listed loads m) (load_listed loads n) then fuller m else later m)

-- the first test of colocations and of the place that the node fails
abbrev pub refusal_by_table : Targets → Decision → List (Bor Colocation) → ℕ → Option Verdict
refusal_by_table table d sides n =
    option_or (option_map without (option_copied (first_missing table d n sides)))
    (option_or (option_map beside (option_copied (first_joined table d n sides))) (if is_placed_for table d n then None else Some unplaced))

module _ (c : Cluster) (states : States) (rights : Rights) (stays : Bool) (table : Targets) (d : Decision) (sides : List (Bor Colocation)) (totals : List ℤ) where
  abbrev pub refusal_in : ℕ → Option Verdict
  refusal_in n =
      if not (is_usable_by c states n) then Some unusable
      else (if not (rights.may_start || stays && is_kept_in c states d n) then Some forbidden
      else (if is_negative (total_listed totals n) then Some below else refusal_by_table table d sides n))

  abbrev pub verdict_in : List ℕ → NodeSet → Option ℕ → ℕ → Verdict
  verdict_in loads picked last n =
      if has picked n then chosen else unwrap_or (refusal_in n) (option_map_or (passed_in totals loads n) last capped)
