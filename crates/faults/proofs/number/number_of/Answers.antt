use Rattle.std.proofs.Common.{◌≡◌, true, ◌∙◌}
use Rattle.std.specs.Char.{is_ascii_digit}
use Rattle.std.specs.List.{list_all}
use Rattle.faults.proofs.Numbers.{digits_utf8, number_parsed}
use Rattle.faults.proofs.number.number_of.Goals as goal

pub returns-in-Ok : goal.returns-in-Ok
returns-in-Ok c =
    let all : list_all is_ascii_digit c.args.word.now ≡ true = cc in
    let parsed = rw c.in-Ok.ensures.cases.0 at c.parse.ensures.value.0 in
    c.ok.ensures.value ∙ number_parsed c.args.word.now c.parse.result parsed all

pub returns-in-Err : goal.returns-in-Err
returns-in-Err c =
    let all : list_all is_ascii_digit c.args.word.now ≡ true = cc in
    absurd (c.in-Err.ensures.cases.0 (digits_utf8 c.args.word.now all))
