use Rattle.std.proofs.Common.{arith, Some, None, refl, ap, sym, subst, ◌∙◌}
use Rattle.live_run.specs.AnswersAtHand.{HoldsResultLine}
use Rattle.live_run.specs.AnswersToCome.{LineReaderAt}
use Rattle.live_run.specs.ResultReaders.{reader_lines, source_in}
use Rattle.live_run.specs.Inner.ReadLaws.{passed_nothing, until_then}
use Rattle.live_run.proofs.Bringing.{none_brings}
use Rattle.live_run.proofs.result_reader.ResultReader.read_on.Goals as goal

pub loop-came-init : goal.loop-came-init
loop-came-init g c = record {
  told = refl;
  passed = passed_nothing _ _ _;
  ready = c.requires.ready;
  going = c.requires.going;
  counted = refl;
  count = omega arith;
  no_failure = λ exact. refl;
  same_source = refl;
  first = λ h. (refl, refl);
}

pub returns-in-Some-clause-until : goal.returns-in-Some-clause-until
returns-in-Some-clause-until g c =
    until_then c.args.names.now (reader_lines c.args.self.now) (reader_lines c.loop-came.self) (reader_lines c.step.new.self) (g.S.Source.left (source_in c.args.self.now))
    (g.S.Source.left (source_in c.loop-came.self)) (g.S.Source.left (source_in c.step.new.self)) (Some c.in-Some.came) c.loop-came.invariant.passed
    c.in-Some.ensures.until

pub loop-came-preserved : goal.loop-came-preserved
loop-came-preserved g c =
    let so_far = c.loop-came.invariant in
    let now = c.in_default.ensures in
    let counted_before = so_far.counted in
    let counted_now = now.counted in
    let count_before = so_far.count in
    let count_now = now.bears.count in
    record {
      told = so_far.told
          ∙ none_brings c.args.names.now (reader_lines c.loop-came.self) (reader_lines c.step.new.self) (g.S.Source.left (source_in c.loop-came.self))
          (g.S.Source.left (source_in c.step.new.self)) now.brings;
      passed = until_then c.args.names.now (reader_lines c.args.self.now) (reader_lines c.loop-came.self) (reader_lines c.step.new.self) (g.S.Source.left (source_in c.args.self.now))
          (g.S.Source.left (source_in c.loop-came.self)) (g.S.Source.left (source_in c.step.new.self)) None so_far.passed now.until;
      ready = now.ready;
      going = now.going refl;
      counted = omega arith;
      count = omega arith;
      no_failure = λ exact. now.bears.no_failure exact (λ e. cc) ∙ so_far.no_failure exact;
      same_source = now.same_source ∙ so_far.same_source;
      first = λ h. absurd (now.some (subst (λ (ls : LineReaderAt). HoldsResultLine ls.reading.held) (sym (so_far.first h).0) h) refl);
    }

-- a line that was held from the first on

pub returns-in-Some-clause-unread : goal.returns-in-Some-clause-unread
returns-in-Some-clause-unread g c h =
    let first = c.loop-came.invariant.first h in
    c.in-Some.ensures.unread (subst (λ (ls : LineReaderAt). HoldsResultLine ls.reading.held) (sym first.0) h) ∙ first.1

pub returns-in-Some-clause-at_hand : goal.returns-in-Some-clause-at_hand
returns-in-Some-clause-at_hand g c h e =
    let first = c.loop-came.invariant.first h in
    c.in-Some.ensures.at_hand (subst (λ (ls : LineReaderAt). HoldsResultLine ls.reading.held) (sym first.0) h) (ap Some e)
