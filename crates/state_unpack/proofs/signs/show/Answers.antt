use Rattle.std.proofs.Common.{◌≡◌, ◌==◌, false, refl, ◌∙◌, arith}
use Rattle.state_unpack.proofs.LastSigns.{shows-nothing, shows-one}
use Rattle.state_unpack.proofs.signs.show.Goals as goal

pub returns-then-node-len : goal.returns-then-node-len
returns-then-node-len c = λ nodes before shows.
    shows-one nodes before c.args.event c.args.signs.now.items shows c.in-Some.node c.in-Some.sign c.in-Some.ensures (grind (arith, c.if-node-len.true, c.len.ensures))

pub returns-else-node-len : goal.returns-else-node-len
returns-else-node-len c = λ nodes before shows.
    shows-nothing nodes before c.args.event c.args.signs.now.items shows
    (λ n h.
    let other : (c.in-Some.node == n) ≡ false = let len = shows.len in grind (arith, c.if-node-len.false, c.len.ensures) in
    c.in-Some.ensures n ∙ rw other refl)

pub returns-in_default : goal.returns-in_default
returns-in_default c = λ nodes before shows. shows-nothing nodes before c.args.event c.args.signs.now.items shows (λ n h. c.in_default.ensures n)
