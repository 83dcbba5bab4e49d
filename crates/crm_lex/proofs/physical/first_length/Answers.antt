use Rattle.std.proofs.Common.{length, arith, add-one}
use Rattle.std.proofs.lemmas.Bool.{false_from_ne_true}
use Rattle.std.proofs.lemmas.List.{take_all, drop_all}
use Rattle.crm_lex.proofs.PhysicalLines.{first_line-feed, first_line-none}
use Rattle.crm_lex.proofs.physical.first_length.Goals as goal

pub returns-in-Some-clause-lines : goal.returns-in-Some-clause-lines
returns-in-Some-clause-lines c =
    let text = c.args.text.now in
    let at = c.in-Some.at in
    let found = c.in-Some.ensures in
    rw add-one (first_line-feed text at found.0.high (λ j h. false_from_ne_true _ (found.0.before j (omega arith) h)) found.1)

pub returns-in-None-clause-lines : goal.returns-in-None-clause-lines
returns-in-None-clause-lines c =
    let text = c.args.text.now in
    let nowhere = c.in-None.ensures in
    rw (take_all (length text) text (omega arith), drop_all (length text) text (omega arith))
    (first_line-none text c.requires (λ j h. false_from_ne_true _ (nowhere j (omega arith) h)))
