use Rattle.std.proofs.Common.{ap}
use Rattle.live_run.specs.Courses.{SourceState, has_course_ended, is_reading}
use Rattle.live_run.specs.LineSources.{outcomes_source, state_of, outcomes_view}
use Rattle.live_run.specs.LineWriters.{writer_held, writer_cluster, sink_of}
use Rattle.live_run.proofs.Reaching.{between_from, cut_off_from, done_from, failed_from, failed_kind, unexpected_from}
use Rattle.live_run.proofs.running.run_to_end.Goals as goal

pub returns-in-Ok-clause-reaches : goal.returns-in-Ok-clause-reaches
returns-in-Ok-clause-reaches g c =
    rw c.end_as.ensures.end
    (done_from c.args.cluster.now c.args.journal (state_of c.args.outcomes.now).lines.reading (state_of c.args.outcomes.now)
    (state_of c.replay_watched.new.outcomes) (writer_cluster c.args.writer.now) c.requires.fresh c.requires.names (g.S.Source.left (outcomes_source c.args.outcomes.now))
    (g.S.Source.left (outcomes_source c.replay_watched.new.outcomes)) (g.W.Sink.written (sink_of c.args.writer.now)) (g.W.Sink.written (sink_of c.replay_watched.new.watcher))
    (g.W.Sink.written (sink_of c.finish.new.self)) (writer_held c.replay_watched.new.watcher) (has_course_ended (state_of c.args.outcomes.now).course) (has_course_ended (state_of c.replay_watched.new.outcomes).course)
    c.in-Ok.journal _ _ _ (λ lines told. rw c.requires.empty at told.text) c.in-Ok.ensures.run c.in-Ok.ensures.source.came.0.follows c.finish.result c.finish.ensures.text c.finish.ensures.few)

pub returns-in-Err-Unexpected-clause-reaches : goal.returns-in-Err-Unexpected-clause-reaches
returns-in-Err-Unexpected-clause-reaches g c =
    rw c.end_as-in-Err-Unexpected.ensures.end
    (unexpected_from c.args.cluster.now c.args.journal (state_of c.args.outcomes.now).lines.reading (state_of c.args.outcomes.now)
    (state_of c.replay_watched.new.outcomes) (writer_cluster c.args.writer.now) c.requires.fresh c.requires.names (g.S.Source.left (outcomes_source c.args.outcomes.now))
    (g.S.Source.left (outcomes_source c.replay_watched.new.outcomes)) (g.W.Sink.written (sink_of c.args.writer.now)) (g.W.Sink.written (sink_of c.replay_watched.new.watcher))
    (g.W.Sink.written (sink_of c.unexpected.new.self)) (writer_held c.replay_watched.new.watcher) (has_course_ended (state_of c.args.outcomes.now).course) (has_course_ended (state_of c.replay_watched.new.outcomes).course)
    c.in-Err-Unexpected.journal _ _ _ c.in-Err-Unexpected.field-0-1 (λ lines told. rw c.requires.empty at told.text) (rw c.in-Err-Unexpected.field-0-is at c.in-Err-Unexpected.ensures.run)
    (rw c.in-Err-Unexpected.field-0-is at c.in-Err-Unexpected.ensures.source).came.follows c.unexpected.result (rw c.line.ensures at c.unexpected.ensures.text))

pub returns-in-Err-SourceFault-clause-reaches : goal.returns-in-Err-SourceFault-clause-reaches
returns-in-Err-SourceFault-clause-reaches g c =
    failed_from c.args.cluster.now c.args.journal (state_of c.args.outcomes.now).lines.reading (state_of c.args.outcomes.now)
    (state_of c.replay_watched.new.outcomes) (writer_cluster c.args.writer.now) c.requires.fresh c.requires.names (g.S.Source.left (outcomes_source c.args.outcomes.now))
    (g.S.Source.left (outcomes_source c.replay_watched.new.outcomes)) (g.W.Sink.written (sink_of c.args.writer.now)) (g.W.Sink.written (sink_of c.replay_watched.new.watcher))
    (g.W.Sink.written (sink_of c.end_of_lines.new.writer)) (writer_held c.replay_watched.new.watcher) (has_course_ended (state_of c.args.outcomes.now).course) (has_course_ended (state_of c.replay_watched.new.outcomes).course)
    c.in-Err-SourceFault.journal _ _ _ (λ lines told. rw c.requires.empty at told.text) (rw c.in-Err-SourceFault.field-0-is at c.in-Err-SourceFault.ensures.quiet) (rw c.in-Err-SourceFault.field-0-is at c.in-Err-SourceFault.ensures.run)
    (failed_kind g.S.Source.counts_only_failures (outcomes_view g.S.Source.left g.S.Source.faults c.args.outcomes.now)
    (outcomes_view g.S.Source.left g.S.Source.faults c.replay_watched.new.outcomes)
    ((rw c.in-Err-SourceFault.field-0-is at c.in-Err-SourceFault.ensures.source).came.1 (ap (λ (s : SourceState). is_reading s.course) c.requires.fresh)))
    c.end_of_lines.result c.end_of_lines.ensures.text

pub returns-in-Err-Stopped-clause-reaches : goal.returns-in-Err-Stopped-clause-reaches
returns-in-Err-Stopped-clause-reaches g c =
    cut_off_from c.args.cluster.now c.args.journal (state_of c.args.outcomes.now).lines.reading (state_of c.args.outcomes.now)
    (state_of c.replay_watched.new.outcomes) (writer_cluster c.args.writer.now) c.requires.fresh c.requires.names (g.S.Source.left (outcomes_source c.args.outcomes.now))
    (g.S.Source.left (outcomes_source c.replay_watched.new.outcomes)) (g.W.Sink.written (sink_of c.args.writer.now)) (g.W.Sink.written (sink_of c.replay_watched.new.watcher))
    (g.W.Sink.written (sink_of c.replay_watched.new.watcher)) (writer_held c.replay_watched.new.watcher) (has_course_ended (state_of c.args.outcomes.now).course) (has_course_ended (state_of c.replay_watched.new.outcomes).course)
    c.in-Err-Stopped.journal _ _ _ (λ lines at told. rw c.requires.empty at told.text) (rw c.in-Err-Stopped.field-0-is at c.in-Err-Stopped.ensures.run) (rw c.in-Err-Stopped.field-0-is at c.in-Err-Stopped.ensures.source).came.follows

pub returns-in-Err-NoMemory-clause-reaches : goal.returns-in-Err-NoMemory-clause-reaches
returns-in-Err-NoMemory-clause-reaches g c =
    rw c.end_as-in-Err-NoMemory.ensures.end
    (between_from c.args.cluster.now c.args.journal (state_of c.args.outcomes.now).lines.reading (state_of c.args.outcomes.now)
    (state_of c.replay_watched.new.outcomes) (writer_cluster c.args.writer.now) c.requires.fresh c.requires.names (g.S.Source.left (outcomes_source c.args.outcomes.now))
    (g.S.Source.left (outcomes_source c.replay_watched.new.outcomes)) (g.W.Sink.written (sink_of c.args.writer.now)) (g.W.Sink.written (sink_of c.replay_watched.new.watcher))
    (g.W.Sink.written (sink_of c.finish-in-Err-NoMemory.new.self)) (writer_held c.replay_watched.new.watcher) (has_course_ended (state_of c.args.outcomes.now).course) (has_course_ended (state_of c.replay_watched.new.outcomes).course)
    c.args.journal _ _ _ (λ lines told. rw c.requires.empty at told.text) (rw c.in-Err-NoMemory.field-0-is at c.in-Err-NoMemory.ensures.run)
    (rw c.in-Err-NoMemory.field-0-is at c.in-Err-NoMemory.ensures.source).came.follows c.finish-in-Err-NoMemory.result c.finish-in-Err-NoMemory.ensures.text c.finish-in-Err-NoMemory.ensures.few)
