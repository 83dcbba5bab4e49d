use Rattle.std.proofs.Common.{◌≡◌, false, ap, arith}
use Rattle.live_run.specs.Inner.HeadSteps.{lacks_memory}
use Rattle.live_run.proofs.HeadBringing.{line_brings, line_can, line_keeps, line_within, long_number, too_large_brings, too_long_brings, while_well}
use Rattle.live_run.proofs.Bringing.{fewer_left, number_is, numbers_fit, room_is}
use Rattle.live_run.proofs.HeadLines.{amid_line, line_gone, still_gone}
use Rattle.live_run.proofs.Stepping.{failed_open, undecided_now}
use Rattle.live_run.proofs.head.step.Goals as goal

-- a line is handed out

pub take_line-requires-clause-numbers : goal.take_line-requires-clause-numbers
take_line-requires-clause-numbers g c =
    let a = c.in-Line.ensures.answered c.requires.can.going in
    let number = number_is _ _ _ _ a in
    let fits = numbers_fit _ _ _ _ a c.requires.can.numbered in
    omega (arith, number, fits)

pub returns-in-Line-clause-brings : goal.returns-in-Line-clause-brings
returns-in-Line-clause-brings g c memory =
    rw (c.take_line.ensures.text memory)
    (line_brings c.take_line.result c.args.head.now.text.items _ _ _ _ (c.in-Line.ensures.answered c.requires.can.going)
    (λ others. rw (← number_is _ _ _ _ (c.in-Line.ensures.answered c.requires.can.going)) (c.take_line.ensures.says memory _ _ others)) memory)

pub returns-in-Line-clause-keeps : goal.returns-in-Line-clause-keeps
returns-in-Line-clause-keeps g c memory =
    rw (c.take_line.ensures.text memory) (line_keeps c.args.head.now.text.items _ _ _ _ (c.in-Line.ensures.answered c.requires.can.going))

pub returns-in-Line-clause-fewer : goal.returns-in-Line-clause-fewer
returns-in-Line-clause-fewer g c none = fewer_left _ _ _ _ (c.in-Line.ensures.answered c.requires.can.going)

pub returns-in-Line-clause-can : goal.returns-in-Line-clause-can
returns-in-Line-clause-can g c = while_well c.take_line.result _ (line_can _ _ _ _ (c.in-Line.ensures.answered c.requires.can.going) c.requires.can)

pub returns-in-Line-clause-within : goal.returns-in-Line-clause-within
returns-in-Line-clause-within g c =
    let a = c.in-Line.ensures.answered c.requires.can.going in
    line_within c.take_line.result c.args.head.now.text.items _ _ _ _ c.take_line.ensures.text (room_is _ _ _ _ a) a.leaves.in_room

-- it isn't given

pub overflow_cast-result : goal.overflow_cast-result
overflow_cast-result g c =
    let small = long_number _ _ _ _ (c.in-TooLong.ensures.answered c.requires.can.going) c.requires.can in
    omega (arith, small, c.requires.next)

pub returns-in-TooLong-clause-brings : goal.returns-in-TooLong-clause-brings
returns-in-TooLong-clause-brings g c =
    rw c.requires.next (too_long_brings c.args.head.now.text.items _ _ _ _ (c.in-TooLong.ensures.answered c.requires.can.going))

pub returns-in-TooLarge-clause-brings : goal.returns-in-TooLarge-clause-brings
returns-in-TooLarge-clause-brings g c = too_large_brings c.args.head.now.text.items _ _ _ _ (c.in-TooLarge.ensures.answered c.requires.can.going)

-- which lines were taken, behind which the head goes on

pub returns-in-Line-clause-gone_on : goal.returns-in-Line-clause-gone_on
returns-in-Line-clause-gone_on g c =
    let a = c.in-Line.ensures.answered c.requires.can.going in
    amid_line c.take_line.result _ c.take_line.ensures.fault (λ none first given h.
    let memory : lacks_memory c.take_line.result ≡ false = ap lacks_memory none in
    rw (c.take_line.ensures.text memory) (line_gone first _ _ c.args.head.now.text.items given _ _ h a c.take_line.result none
    (λ others. rw (← number_is _ _ _ _ a) (c.take_line.ensures.says memory _ _ others))))

pub returns-in-Failed-clause-gone_on : goal.returns-in-Failed-clause-gone_on
returns-in-Failed-clause-gone_on g c first given h = still_gone first _ _ _ given _ _ h (c.in-Failed.ensures.answered c.requires.can.going)

pub returns-in-Failed-clause-not_ended : goal.returns-in-Failed-clause-not_ended
returns-in-Failed-clause-not_ended g c is = failed_open _ _ _ _ (c.in-Failed.ensures.answered c.requires.can.going)

pub returns-in-Failed-clause-undecided : goal.returns-in-Failed-clause-undecided
returns-in-Failed-clause-undecided g c is = undecided_now _ _ _ _ (c.in-Failed.ensures.answered c.requires.can.going)
