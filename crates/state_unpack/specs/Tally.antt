-- What some failures of a cell come to: how many they are, which kinds are among them, and of which kind and moment the last is (rule of this project).
use Rattle.std.specs.Prelude.{false, min, None, List, length}
use Rattle.std.specs.List.{list_any, last_or}
use Rattle.std.specs.Option.{option_map, option_map_or}
use Rattle.cluster_types.specs.declared.cluster.Cluster.{Cluster}
use Rattle.cluster_types.specs.declared.journal.Event.{Event}
use Rattle.cluster_types.specs.CellStates.{asks_for_block}
use Rattle.cluster_types.specs.Failures.{is_start, has_code, hard_codes, fatal_codes, asks_for_stop, ended_at}
use Rattle.cluster_types.specs.NodeStates.{asks_for_fence}
use Rattle.state_unpack.specs.declared.tally.Tally.{Tally}

abbrev pub tally_of : Cluster → List Event → Tally
tally_of c failures = record {
  count = min (length failures) 1000000;
  start = list_any is_start failures;
  hard = list_any (has_code hard_codes) failures;
  fatal = list_any (has_code fatal_codes) failures;
  stop = list_any (asks_for_stop c) failures;
  fence = list_any (asks_for_fence c) failures;
  block = option_map_or (asks_for_block c) (last_or None failures) false;
  last = option_map ended_at (last_or None failures);
}
