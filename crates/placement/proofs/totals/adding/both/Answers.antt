use Rattle.std.proofs.Common.{rules, ◌≡◌, length, arith}
use Rattle.std.proofs.lemmas.Int.{ints}
use Rattle.placement.proofs.totals.adding.both.Goals as goal

pub returns-clause-terms : goal.returns-clause-terms
returns-clause-terms c = λ f g one two. c.add_terms.ensures.terms c.args.nodes f g (c.in_ok-row.ensures.terms f one) two

pub add_terms-requires-clause-room : goal.add_terms-requires-clause-room
add_terms-requires-clause-room c = λ n low.
    let size : length c.in_ok-row.row ≡ c.args.nodes = search rules in
    let same = c.in_ok-row.ensures.finite n (omega (arith, low, size)) in
    let room = c.requires.room n (omega (arith, low, size)) in
    (omega (arith, ints, same, room.0), omega (arith, ints, same, room.1))
