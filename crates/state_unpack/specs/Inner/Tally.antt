-- The tally of failures of a cell, failure by failure, and what it says (follows from the definitions of failures).
use Rattle.std.specs.Prelude.{ℕ, ◌+◌, ◌*◌, ◌&&◌, ◌||◌, Bool, false, if◌then◌else◌, min, nat_lt, int_lt, int_le, ℤ, pos, Option, Some, None}
use Rattle.std.specs.Option.{option_map_or}
use Rattle.cluster_types.specs.declared.cluster.Cluster.{Cluster}
use Rattle.cluster_types.specs.declared.journal.Event.{Event}
use Rattle.cluster_types.specs.Cells.{is_reset}
use Rattle.cluster_types.specs.CellStates.{asks_for_block}
use Rattle.cluster_types.specs.Failures.{is_outcome, is_failure, is_start, has_code, hard_codes, fatal_codes, asks_for_stop, ended_at}
use Rattle.cluster_types.specs.Fields.{failure_timeout, threshold}
use Rattle.cluster_types.specs.NodeStates.{asks_for_fence}
use Rattle.state_unpack.specs.declared.tally.Tally.{Tally}

-- that of no failure
abbrev pub no_tally : Tally
no_tally = record { count = 0; start = false; hard = false; fatal = false; stop = false; fence = false; block = false; last = None }

-- that with one more failure
abbrev pub with_failure : Cluster → Tally → Event → Tally
with_failure c tally e = record {
  count = min (tally.count + 1) 1000000;
  start = tally.start || is_start e;
  hard = tally.hard || has_code hard_codes e;
  fatal = tally.fatal || has_code fatal_codes e;
  stop = tally.stop || asks_for_stop c e;
  fence = tally.fence || asks_for_fence c e;
  block = asks_for_block c e;
  last = Some (ended_at e);
}

-- that of the failures in force of a cell after one more event
abbrev pub tally_after : Cluster → ℕ → ℕ → Tally → Event → Tally
tally_after c r n tally e =
    if is_reset r n e then no_tally else (if is_outcome c r n e && is_failure e then with_failure c tally e else tally)

-- more milliseconds than the timeout have passed at a moment since the last one ended; a timeout of 0 never passes
abbrev pub has_passed : ℕ → ℕ → Option ℕ → Bool
has_passed timeout now last = nat_lt 0 timeout && option_map_or (λ ended. nat_lt (1000 * ended + timeout) (1000 * now)) last false

-- that of those that count, of those in force
abbrev pub tally_counted : Cluster → ℕ → ℕ → Tally → Tally
tally_counted c r now tally = if has_passed (failure_timeout c r) now tally.last then no_tally else tally

-- the fail count by those that count
abbrev pub fail_count_of : Cluster → Tally → ℕ
fail_count_of c tally = if c.properties.start_fatal && tally.start then 1000000 else tally.count

-- a fail count reaches a threshold, which is never so at a threshold of 0 or less
abbrev pub reaches_threshold : ℕ → ℤ → Bool
reaches_threshold count threshold = int_lt (pos 0) threshold && int_le threshold (pos count)

-- they ban the leaf from their node
abbrev pub bans : Cluster → ℕ → Tally → Bool
bans c r tally = reaches_threshold (fail_count_of c tally) (threshold c r) || tally.hard
