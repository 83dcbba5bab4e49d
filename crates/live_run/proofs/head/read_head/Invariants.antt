use Rattle.std.proofs.Common.{◌≡◌, ◌≤◌, ◌+◌, true, [], length}
use Rattle.std.specs.Option.{option_map}
use Rattle.cluster_io.specs.LineReaders.{loan_of, reading_of, source_of}
use Rattle.live_run.specs.Heads.{CanGoOn, HasHeadGoneOn, KeepsBytes, head_behind, so_far}
use Rattle.live_run.proofs.head.read_head.Given as goal

abbrev pub invariant-loop-end : goal.invariant-loop-end
invariant-loop-end g l = record {
  told : option_map (head_behind [] (reading_of l.fn.reader)) (g.S.Source.left (source_of l.fn.reader))
      ≡ option_map (head_behind l.head.text.items (reading_of l.reader)) (g.S.Source.left (source_of l.reader));
  keeps : KeepsBytes (so_far [] (reading_of l.fn.reader)) (so_far l.head.text.items (reading_of l.reader)) (g.S.Source.left (source_of l.fn.reader))
      (g.S.Source.left (source_of l.reader));
  gone_on : HasHeadGoneOn (reading_of l.fn.reader) (reading_of l.reader) l.head.text.items (g.S.Source.left (source_of l.fn.reader)) (g.S.Source.left (source_of l.reader));
  can : CanGoOn (reading_of l.reader);
  within : length l.head.text.items + (reading_of l.reader).room ≡ (reading_of l.fn.reader).room;
  next : l.head.next ≡ (reading_of l.reader).next;
  count : g.S.Source.faults (source_of l.fn.reader) ≤ g.S.Source.faults (source_of l.reader);
  no_failure : g.S.Source.counts_only_failures ≡ true → g.S.Source.faults (source_of l.reader) ≡ g.S.Source.faults (source_of l.fn.reader);
  same_source : loan_of l.reader ≡ loan_of l.fn.reader;
}

abbrev pub decreases-loop-end : goal.decreases-loop-end
decreases-loop-end g l = (reading_of l.reader).room
