use Rattle.std.proofs.Common.{arith, inl, inr}
use Rattle.trace_text.proofs.Places.{all_behind, found_before}
use Rattle.trace_text.proofs.found_positions.last_found.Goals as goal

pub returns-then-behind-count-clause-last : goal.returns-then-behind-count-clause-last
returns-then-behind-count-clause-last c = λ to low high places. all_behind c.args.found.now c.args.from to c.args.behind low high places (omega arith)

pub returns-then-number-from-clause-last : goal.returns-then-number-from-clause-last
returns-then-number-from-clause-last c = λ to low high places.
    elim (found_before c.args.found.now c.args.from to c.args.behind low high places c.nth-number.result (omega arith) (rw c.count-count.ensures at c.nth-number.ensures)) [
      | inl (le, none) ↦ none
      | inr (lt, last) ↦ absurd (omega arith)
    ]

pub returns-clause-last : goal.returns-clause-last
returns-clause-last c = λ to low high places.
    elim (found_before c.args.found.now c.args.from to c.args.behind low high places c.nth-number.result (omega arith) (rw c.count-count.ensures at c.nth-number.ensures)) [
      | inl (le, none) ↦ absurd (omega arith)
      | inr (lt, last) ↦ last
    ]
