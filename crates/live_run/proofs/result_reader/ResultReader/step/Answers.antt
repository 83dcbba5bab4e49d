use Rattle.std.proofs.Common.{◌≡◌, ℕ, Some, arith}
use Rattle.cluster_io.proofs.Bearing.{Bears-as}
use Rattle.cluster_io.specs.LineReaders.{reading_of}
use Rattle.live_run.specs.Inner.ComingSteps.{said_came}
use Rattle.live_run.specs.LineSays.{due_line_says}
use Rattle.live_run.specs.declared.result_reader.Came.TheVariants as came
use Rattle.live_run.specs.declared.line_saying.Said.{Said}
use Rattle.live_run.specs.declared.line_saying.Said.TheVariants as said
use Rattle.live_run.proofs.Bringing.{before_behind, fewer_left, line_brings, long_number, numbers_fit, ready_behind, too_large_brings, too_long_brings}
use Rattle.live_run.proofs.Held.{line_says_some, never_fails}
use Rattle.live_run.proofs.Stepping.{end_until, fault_until, line_until, too_large_until, too_long_until}
use Rattle.live_run.proofs.result_reader.ResultReader.step.Goals as goal

-- no line says that the source failed
said_no_fault : (line : ℕ) (s : Said) → said_came line s ≡ Some came.Fault → ⊥
said_no_fault line said.Nothing e = cc
said_no_fault line (said.Answer given) e = cc
said_no_fault line (said.Stop why) e = cc

-- a line is handed out

pub returns-in-Line-clause-bears : goal.returns-in-Line-clause-bears
returns-in-Line-clause-bears g c =
    rw (c.take_line.ensures.came, c.take_line.ensures.lines)
    (Bears-as _ _ _ _ _ (λ e. cc) (λ e. absurd (said_no_fault _ _ e)) c.in-Line.ensures.bears)

pub take_line-requires-clause-numbers : goal.take_line-requires-clause-numbers
take_line-requires-clause-numbers g c =
    let line = c.requires.ready.line in
    let fits = numbers_fit _ _ _ _ (c.in-Line.ensures.answered c.requires.going) c.requires.ready.numbered in
    omega (arith, line, fits)

pub returns-in-Line-clause-brings : goal.returns-in-Line-clause-brings
returns-in-Line-clause-brings g c =
    rw (c.take_line.ensures.came, c.take_line.ensures.lines, c.take_line.ensures.place)
    (line_brings c.args.names.now c.args.self.now.at _ _ _ _ (c.in-Line.ensures.answered c.requires.going))

pub returns-in-Line-clause-ready : goal.returns-in-Line-clause-ready
returns-in-Line-clause-ready g c =
    rw (c.take_line.ensures.lines, c.take_line.ensures.place)
    (ready_behind _ _ _ _ (c.in-Line.ensures.answered c.requires.going) c.args.self.now.at
    (due_line_says c.args.names.now c.args.self.now.at (reading_of c.line.new.self).raw) c.requires.ready c.take_line.ensures.fits)

pub returns-in-Line-clause-fewer : goal.returns-in-Line-clause-fewer
returns-in-Line-clause-fewer g c none = rw c.take_line.ensures.lines (fewer_left _ _ _ _ (c.in-Line.ensures.answered c.requires.going))

pub returns-in-Line-clause-counted : goal.returns-in-Line-clause-counted
returns-in-Line-clause-counted g c =
    rw (c.take_line.ensures.came, c.take_line.ensures.place)
    (before_behind c.args.self.now.at (due_line_says c.args.names.now c.args.self.now.at (reading_of c.line.new.self).raw) _)

-- it isn't given

pub overflow_cast-result : goal.overflow_cast-result
overflow_cast-result g c =
    let small = long_number c.args.self.now.at _ _ _ _ (c.in-TooLong.ensures.answered c.requires.going) c.requires.ready in
    omega (arith, small)

pub returns-in-TooLong-clause-brings : goal.returns-in-TooLong-clause-brings
returns-in-TooLong-clause-brings g c =
    too_long_brings c.args.names.now c.args.self.now.at _ _ _ _ (c.in-TooLong.ensures.answered c.requires.going)

pub returns-in-TooLarge-clause-brings : goal.returns-in-TooLarge-clause-brings
returns-in-TooLarge-clause-brings g c =
    too_large_brings c.args.names.now c.args.self.now.at _ _ _ _ (c.in-TooLarge.ensures.answered c.requires.going)

-- what was read

pub returns-in-Line-clause-until : goal.returns-in-Line-clause-until
returns-in-Line-clause-until g c =
    rw (c.take_line.ensures.came, c.take_line.ensures.lines, c.take_line.ensures.place)
    (line_until c.args.names.now c.args.self.now.at _ _ _ _ (c.in-Line.ensures.answered c.requires.going))

pub returns-in-End-clause-until : goal.returns-in-End-clause-until
returns-in-End-clause-until g c = end_until c.args.names.now c.args.self.now.at _ _ _ _ (c.in-End.ensures.answered c.requires.going)

pub returns-in-TooLong-clause-until : goal.returns-in-TooLong-clause-until
returns-in-TooLong-clause-until g c = too_long_until c.args.names.now c.args.self.now.at _ _ _ _ (c.in-TooLong.ensures.answered c.requires.going)

pub returns-in-TooLarge-clause-until : goal.returns-in-TooLarge-clause-until
returns-in-TooLarge-clause-until g c = too_large_until c.args.names.now c.args.self.now.at _ _ _ _ (c.in-TooLarge.ensures.answered c.requires.going)

pub returns-in-Failed-clause-until : goal.returns-in-Failed-clause-until
returns-in-Failed-clause-until g c = fault_until c.args.names.now c.args.self.now.at _ _ _ _ (c.in-Failed.ensures.answered c.requires.going)

-- a line that was held

pub returns-in-Line-clause-unread : goal.returns-in-Line-clause-unread
returns-in-Line-clause-unread g c h = rw c.take_line.ensures.lines (c.in-Line.ensures.unread h.whole)

pub returns-in-Line-clause-some : goal.returns-in-Line-clause-some
returns-in-Line-clause-some g c h =
    rw c.take_line.ensures.came (line_says_some _ _ _ _ h c.args.names.now c.args.self.now.at c.args.self.now.at.line (c.in-Line.ensures.answered c.requires.going))

pub returns-in-Line-clause-at_hand : goal.returns-in-Line-clause-at_hand
returns-in-Line-clause-at_hand g c h = rw c.take_line.ensures.came (said_no_fault _ _)

pub returns-in-Failed-clause-at_hand : goal.returns-in-Failed-clause-at_hand
returns-in-Failed-clause-at_hand g c h e = never_fails _ _ _ _ h (c.in-Failed.ensures.answered c.requires.going)
