use Rattle.std.proofs.Common.{◌≡◌, ◌≤ℤ◌, arith}
use Rattle.std.proofs.lemmas.Int.{ints, to_z-of_z}
use Rattle.std.proofs.lemmas.List.Sums.{fold_more}
use Rattle.score.specs.Total.{infinity, minus_infinity}
use Rattle.score.proofs.totalling.exact_sum.Goals as goal

pub loop-term-preserved : goal.loop-term-preserved
loop-term-preserved c =
    let points = c.term.inside.points in
    let seen : points ≡ c.term-item.result = c.term.view_is in
    let at_least : minus_infinity ≤ℤ points = c.term.invariant.0 in
    let at_most : points ≤ℤ infinity = c.term.invariant.1 in
    record {
      sum = grind (arith, ints, to_z-of_z, fold_more);
      at_least = omega (arith, ints);
      at_most = omega (arith, ints);
    }
