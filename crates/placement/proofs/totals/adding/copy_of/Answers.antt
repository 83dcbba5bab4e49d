use Rattle.std.proofs.Common.{arith}
use Rattle.std.proofs.lemmas.Int.{ints}
use Rattle.placement.proofs.Given.{nothing, zero-row}
use Rattle.placement.proofs.totals.adding.copy_of.Goals as goal

pub add_terms-requires-clause-room : goal.add_terms-requires-clause-room
add_terms-requires-clause-room c = λ n low.
    let zero = c.in_ok-copy.ensures.finite n in
    let room = c.requires.roomy n in
    (omega (arith, ints, zero, room.least, room.most), omega (arith, ints, zero, room.least, room.most))

pub returns-clause-terms : goal.returns-clause-terms
returns-clause-terms c = λ f is.
    let start = zero-row c.args.nodes c.in_ok-copy.copy c.in_ok-copy.ensures.terms c.in_ok-copy.ensures.finite in
    c.add_terms.ensures.terms c.args.nodes nothing f start is
