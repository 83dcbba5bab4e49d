use Rattle.std.proofs.Common.{◌≡◌, ◌*◌, take, pos, neg_ℤ, ◌≤ℤ◌}
use Rattle.score.specs.Total.{sum_of}
use Rattle.score.proofs.totalling.exact_sum.Given as goal

abbrev pub invariant-loop-term : goal.invariant-loop-term
invariant-loop-term l = record {
  sum : l.sum ≡ sum_of (take l.term-index l.terms);
  at_least : neg_ℤ (pos (1000000 * l.term-index)) ≤ℤ l.sum;
  at_most : l.sum ≤ℤ pos (1000000 * l.term-index);
}
