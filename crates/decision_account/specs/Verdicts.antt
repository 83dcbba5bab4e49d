-- Why a decision chooses a node or doesn't: the first test that the node fails, or the node that goes before it (rule of this project).
use Rattle.std.specs.Prelude.{ℕ, nat_lt, ◌==◌, ◌&&◌, ◌||◌, Bool, not, if◌then◌else◌, pos, int_lt, int_le, Option, Some, None, unwrap_or, option_map, List, length, find}
use Rattle.std.specs.List.{list_all, range_with_len}
use Rattle.std.specs.Option.{option_map_or, option_or}
use Rattle.cluster_types.specs.declared.cluster.Cluster.{Cluster}
use Rattle.cluster_types.specs.declared.journal.Event.{Event}
use Rattle.cluster_types.specs.declared.journal.Promotion.{Promotion}
use Rattle.cluster_types.specs.declared.placement.Decision.{Decision}
use Rattle.cluster_types.specs.declared.rules.Colocation.{Colocation}
use Rattle.cluster_types.specs.Choice.{is_chosen, is_better, is_dependent, is_mandatory, is_permitted, is_placed_for, is_separation, total_on, would_join_dependent, would_join_primary}
use Rattle.cluster_types.specs.Each.{implies}
use Rattle.cluster_types.specs.NodeStates.{is_usable}
use Rattle.cluster_types.specs.Tables.{Targets, holds_role, load_of}

-- what is said of a node
pub data Verdict : Type 0 where
  -- it is chosen
  chosen : Verdict
  -- it isn't online, or is in standby
  unusable : Verdict
  -- the cluster may neither start the leaf there nor keep it (a ban or a location of -INFINITY is below)
  forbidden : Verdict
  -- its total is below 0
  below : Verdict
  -- the primary of this mandatory colocation doesn't hold its role there
  without : Colocation → Verdict
  -- the other side of this separation holds its role there
  beside : Colocation → Verdict
  -- the leaf that is to be promoted isn't placed there
  unplaced : Verdict
  -- the decision chooses no node at all
  capped : Verdict
  -- the worst node that is chosen, this one, has a greater total
  less : ℕ → Verdict
  -- as great a total, and fewer leaves with a target
  fuller : ℕ → Verdict
  -- both equal, and it comes earlier
  later : ℕ → Verdict

module _ (table : Targets) (d : Decision) (n : ℕ) where
  -- a mandatory colocation of the decision, whose primary doesn't hold its role on the node
  abbrev pub misses_primary : Colocation → Bool
  misses_primary col = is_mandatory col && is_dependent d col && not (holds_role table col.primary col.primary_role n)

  -- a separation, of which the decision would join one side to the other on the node
  abbrev pub joins_apart : Colocation → Bool
  joins_apart col = is_separation col && (would_join_primary table d n col || would_join_dependent table d n col)

-- the first colocation of which the decision misses the primary
abbrev pub missed_colocation : Cluster → Targets → Decision → ℕ → Option Colocation
missed_colocation c table d n = find (misses_primary table d n) c.colocations

-- the first separation whose sides it would join
abbrev pub joined_separation : Cluster → Targets → Decision → ℕ → Option Colocation
joined_separation c table d n = find (joins_apart table d n) c.colocations

module _ (c : Cluster) (es : List Event) (promotions : List Promotion) (table : Targets) (d : Decision) where
  -- the first test of a candidate that the node fails
  abbrev pub refusal : ℕ → Option Verdict
  refusal n =
      if not (is_usable c n es) then Some unusable
      else (if not (is_permitted c es d n) then Some forbidden
      else (if not (int_le (pos 0) (total_on c es promotions table d n)) then Some below
      else option_or (option_map without (missed_colocation c table d n))
      (option_or (option_map beside (joined_separation c table d n)) (if is_placed_for table d n then None else Some unplaced))))

  -- the node is the worst that is chosen: each other chosen one is better
  abbrev pub is_last_chosen : ℕ → Bool
  is_last_chosen n =
      is_chosen c es promotions table d n
      && list_all (λ m. implies (is_chosen c es promotions table d m) (m == n || is_better c es promotions table d m n)) (range_with_len 0 (length c.nodes))

  abbrev pub last_chosen : Option ℕ
  last_chosen = find is_last_chosen (range_with_len 0 (length c.nodes))

  -- by what node m goes before node n
  abbrev pub passed_by : ℕ → ℕ → Verdict
  passed_by n m =
      if int_lt (total_on c es promotions table d n) (total_on c es promotions table d m) then less m
      else (if nat_lt (load_of c table m) (load_of c table n) then fuller m else later m)

  -- what is said of a candidate that isn't chosen
  abbrev pub outdone : ℕ → Verdict
  outdone n = option_map_or (passed_by n) last_chosen capped

  abbrev pub verdict_on : ℕ → Verdict
  verdict_on n = if is_chosen c es promotions table d n then chosen else unwrap_or (refusal n) (outdone n)
