use Rattle.std.proofs.Common.{◌≡◌, true, length, ◌-◌, ◌<◌, ◌≤◌, take}
use Rattle.std.specs.Prelude.{IfSome}
use Rattle.cluster_io.specs.Streams.{Adds, WholeFirst}
use Rattle.cluster_io.proofs.sink.write_text.Given as goal

abbrev pub invariant-loop-done : goal.invariant-loop-done
invariant-loop-done g l = record {
  within : l.done ≤ length l.text;
  added : Adds (g.W.Sink.written l.fn.out) (take l.done l.text) (g.W.Sink.written l.out);
  count : g.W.Sink.faults l.fn.out ≤ g.W.Sink.faults l.out;
  no_failure : g.W.Sink.counts_only_failures ≡ true → g.W.Sink.faults l.out ≡ g.W.Sink.faults l.fn.out;
  whole : 0 < l.done → IfSome (g.W.Sink.offered l.out) (WholeFirst l.text (g.W.Sink.offered l.fn.out));
  no_call : l.done ≡ 0 → l.out ≡ l.fn.out;
}

abbrev pub decreases-loop-done : goal.decreases-loop-done
decreases-loop-done g l = length l.text - l.done
