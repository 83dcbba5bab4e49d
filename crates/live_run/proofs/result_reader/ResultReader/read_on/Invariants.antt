use Rattle.std.proofs.Common.{◌≡◌, ◌≤◌, true, None}
use Rattle.live_run.specs.AnswersAtHand.{HoldsResultLine}
use Rattle.live_run.specs.AnswersToCome.{AreReady}
use Rattle.live_run.specs.Inner.ComingSteps.{told_coming}
use Rattle.live_run.specs.Inner.ReadSteps.{HasPassed}
use Rattle.live_run.specs.ResultReaders.{reader_lines, loan_in, source_in}
use Rattle.live_run.proofs.result_reader.ResultReader.read_on.Given as goal

abbrev pub invariant-loop-came : goal.invariant-loop-came
invariant-loop-came g l = record {
  told : told_coming l.names (reader_lines l.fn.self) (g.S.Source.left (source_in l.fn.self)) ≡ told_coming l.names (reader_lines l.self) (g.S.Source.left (source_in l.self));
  passed : HasPassed l.names (reader_lines l.fn.self) (reader_lines l.self) (g.S.Source.left (source_in l.fn.self)) (g.S.Source.left (source_in l.self));
  ready : AreReady (reader_lines l.self);
  going : (reader_lines l.self).reading.stop ≡ None;
  counted : (reader_lines l.self).at.before ≡ (reader_lines l.fn.self).at.before;
  count : g.S.Source.faults (source_in l.fn.self) ≤ g.S.Source.faults (source_in l.self);
  no_failure : g.S.Source.counts_only_failures ≡ true → g.S.Source.faults (source_in l.self) ≡ g.S.Source.faults (source_in l.fn.self);
  same_source : loan_in l.self ≡ loan_in l.fn.self;
  first : HoldsResultLine (reader_lines l.fn.self).reading.held → (reader_lines l.self ≡ reader_lines l.fn.self) × (source_in l.self ≡ source_in l.fn.self);
}

abbrev pub decreases-loop-came : goal.decreases-loop-came
decreases-loop-came g l = (reader_lines l.self).reading.room
