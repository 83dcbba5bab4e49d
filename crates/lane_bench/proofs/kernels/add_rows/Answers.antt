use Rattle.std.proofs.Common.{◌≡◌, ℕ, ◌+◌, ◌*◌, subst, ◌∙◌, arith}
use Rattle.std.proofs.lemmas.Int.{ints}
use Rattle.score.specs.Inner.SmallRows.{IsSmallRow}
use Rattle.score.proofs.SmallRows.{small_add}
use Rattle.lane_bench.proofs.kernels.add_rows.Goals as goal

pub add_by-requires-clause-room : goal.add_by-requires-clause-room
add_by-requires-clause-room c = λ n within.
    let ours = c.loop-round.invariant.small in
    let theirs = c.in_ok-other.ensures.small in
    let more = c.loop-round-test.true in
    let a = ours.least n in
    let b = theirs.least n in
    let d = ours.most n in
    let e = theirs.most n in
    (omega (arith, ints), omega (arith, ints))

pub loop-round-preserved : goal.loop-round-preserved
loop-round-preserved c =
    let round = c.loop-round.round in
    let sums = small_add c.loop-round.into c.in_ok-other.other c.add_by.new.into (256 * round) 256 c.loop-round.invariant.small c.in_ok-other.ensures.small c.add_by.ensures.nodes c.add_by.ensures.finite in
    let next : 256 * round + 256 ≡ 256 * (round + 1) = omega arith in record {
      nodes = c.add_by.ensures.nodes ∙ c.loop-round.invariant.nodes;
      small = subst (λ (n : ℕ). IsSmallRow n c.add_by.new.into) next sums;
    }
