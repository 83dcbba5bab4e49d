use Rattle.std.proofs.Common.{◌≡◌, ℕ, ◌≤◌, length}
use Rattle.crm_parse.specs.Rules.{joiner_at, with_all_tests, with_tests}
use Rattle.crm_parse.proofs.expression.add_tests.Given as goal

abbrev pub invariant-loop-all : goal.invariant-loop-all
invariant-loop-all l =
    (length l.rest ≤ length l.words)
    × ((most : ℕ) × (length l.rest ≤ most) × (with_all_tests l.fn.expression l.words ≡ with_tests most (joiner_at l.rest) l.expression l.rest))

abbrev pub decreases-loop-all : goal.decreases-loop-all
decreases-loop-all l = length l.rest
