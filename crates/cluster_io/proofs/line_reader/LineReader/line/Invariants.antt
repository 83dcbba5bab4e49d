use Rattle.std.proofs.Common.{◌≡◌, ◌+◌, ◌-◌, ◌≤◌, true, None, [], length, IfSome}
use Rattle.cluster_io.specs.NextLine.{holds_line}
use Rattle.cluster_io.specs.Inner.ReaderTurns.{Sofar}
use Rattle.cluster_io.proofs.line_reader.LineReader.line.Given as goal

abbrev pub invariant-loop-step : goal.invariant-loop-step
invariant-loop-step g l = record {
  sofar : Sofar l.fn.self.lines l.self.lines (g.S.Source.left l.fn.self.src.now) (g.S.Source.left l.self.src.now);
  going : l.fn.self.lines.stop ≡ None;
  empty : l.self.lines.raw ≡ [];
  unread : holds_line l.fn.self.lines.held ≡ true → l.self.src.now ≡ l.fn.self.src.now;
  quiet : l.fn.self.lines.ended ≡ true → l.self.src.now ≡ l.fn.self.src.now;
  at_end : l.self.lines.ended ≡ true → IfSome (g.S.Source.left l.self.src.now) (λ left. left ≡ []);
  same_end : l.self.lines.ended ≡ g.S.Source.ended l.self.src.now;
  count : g.S.Source.faults l.fn.self.src.now ≤ g.S.Source.faults l.self.src.now;
  no_failure : g.S.Source.counts_only_failures ≡ true → g.S.Source.faults l.self.src.now ≡ g.S.Source.faults l.fn.self.src.now;
  same_source : l.self.src.ghost_name ≡ l.fn.self.src.ghost_name;
}

abbrev pub decreases-loop-step : goal.decreases-loop-step
decreases-loop-step g l = l.self.lines.room + 1 - length l.self.lines.held
