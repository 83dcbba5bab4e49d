use Rattle.std.proofs.Common.{◌≡◌, ◌≤◌, true, length}
use Rattle.graph_exec.specs.WatcherLines.{plan_lines}
use Rattle.live_run.specs.LineWriters.{writer_cluster, writer_view, sink_of}
use Rattle.live_run.proofs.Written.{IsPut}
use Rattle.live_run.proofs.line_writer.LineWriter.put_plan.Given as goal

abbrev pub invariant-loop-line : goal.invariant-loop-line
invariant-loop-line g l = record {
  put : IsPut g.W.Sink.counts_only_failures (writer_view g.W.Sink.written g.W.Sink.faults l.fn.self) (writer_view g.W.Sink.written g.W.Sink.faults l.self)
      (plan_lines (writer_cluster l.fn.self) l.transition l.placed) l.lines;
  cluster : writer_cluster l.self ≡ writer_cluster l.fn.self;
  count : g.W.Sink.faults (sink_of l.fn.self) ≤ g.W.Sink.faults (sink_of l.self);
  no_failure : g.W.Sink.counts_only_failures ≡ true → g.W.Sink.faults (sink_of l.self) ≡ g.W.Sink.faults (sink_of l.fn.self);
}

abbrev pub decreases-loop-line : goal.decreases-loop-line
decreases-loop-line g l = length l.lines
