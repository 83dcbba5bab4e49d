use Rattle.std.proofs.Common.{arith, ◌<◌, length, inl, inr}
use Rattle.std.proofs.lemmas.Bool.{cases_lt}
use Rattle.std.proofs.lemmas.List.{get_or_past}
use Rattle.listed.specs.Sets.{members}
use Rattle.trace_text.proofs.Places.{fewer}
use Rattle.trace_text.proofs.found_positions.clear.Goals as goal

pub remove-requires-clause-from_one : goal.remove-requires-clause-from_one
remove-requires-clause-from_one c = (c.in-Some.ensures.last (length c.loop-number.found) (omega arith) (omega arith) (omega arith)).above

pub remove-requires-clause-to_most : goal.remove-requires-clause-to_most
remove-requires-clause-to_most c = (c.in-Some.ensures.last (length c.loop-number.found) (omega arith) (omega arith) (omega arith)).high

pub loop-number-smaller : goal.loop-number-smaller
loop-number-smaller c =
    let last = c.in-Some.ensures.last (length c.loop-number.found) (omega arith) (omega arith) (omega arith) in
    let less : length (members c.remove.new.self) < length (members c.loop-number.found)
    = rw c.remove.ensures (fewer c.loop-number.found c.in-Some.number last.above last.high last.is) in
    less

pub returns-clause-none : goal.returns-clause-none
returns-clause-none c = λ x.
    let none = c.in_default.ensures.last (length c.loop-number.found) (omega arith) (omega arith) (omega arith) in
    elim (cases_lt x (length c.loop-number.found)) [
      | inl lt ↦ none.none x (omega arith) lt
      | inr ge ↦ get_or_past c.loop-number.found x _ ge
    ]
