use Rattle.std.proofs.Common.{◌≡◌, ◌<◌, ◌+◌, ◌+ℤ◌, pos, ◌∷◌, [], get_or, FitsSigned, to_z, of_z, w64, length, map, take, sym, ap, ◌∙◌, arith}
use Rattle.std.proofs.lemmas.Int.{ints, to_z-of_z}
use Rattle.std.proofs.lemmas.List.{map_more, take_all}
use Rattle.std.proofs.lemmas.List.Sums.{fold-append}
use Rattle.score.specs.Total.{sum_of, cut}
use Rattle.cluster_types.specs.Tables.{targets_of}
use Rattle.placement.specs.Tests.{points}
use Rattle.placement.proofs.Sums.{total_is_sum}
use Rattle.placement.proofs.colocations.preferences.preference.Goals as goal

pub returns : goal.returns
returns c =
    let l = c.loop-rule in
    let table = targets_of c.args.table.now in
    let f = points table c.args.decision c.args.node in
    let rules = c.as_slice-rule-items.result.now in
    let all : take l.rule-index rules ≡ rules = take_all l.rule-index rules (omega (arith, c.loop-rule-test.false)) in
    let sum = l.invariant.sum ∙ ap (λ xs. sum_of (map f xs)) (all ∙ c.as_slice-rule-items.ensures) in
    c.cut.ensures ∙ (ap cut sum ∙ total_is_sum table c.args.decision c.args.node c.args.cluster.now.colocations)

pub overflow_add-sum : goal.overflow_add-sum
overflow_add-sum c =
    let l = c.loop-rule in
    let size = ap length c.as_slice-rule-items.ensures in
    let few : l.rule-index < 2000 = omega (arith, c.loop-rule-test.true, size, c.requires.rules) in
    let value : to_z w64 (of_z w64 c.points-sum.result) ≡ c.points-sum.result = to_z-of_z w64 c.points-sum.result (omega (arith, ints, c.points-sum.ensures.low, c.points-sum.ensures.high)) in
    rw value (omega (arith, ints, few, l.invariant.low, l.invariant.high, c.points-sum.ensures.low, c.points-sum.ensures.high))

pub loop-rule-preserved : goal.loop-rule-preserved
loop-rule-preserved c =
    let l = c.loop-rule in
    let rules = c.as_slice-rule-items.result.now in
    let rule = c.rule-item.result in
    let f = points (targets_of c.args.table.now) c.args.decision c.args.node in
    let size = ap length c.as_slice-rule-items.ensures in
    let few : l.rule-index < 2000 = omega (arith, c.loop-rule-test.true, size, c.requires.rules) in
    let low = c.points-sum.ensures.low in
    let high = c.points-sum.ensures.high in
    let value : to_z w64 (of_z w64 c.points-sum.result) ≡ c.points-sum.result = to_z-of_z w64 c.points-sum.result (omega (arith, ints, low, high)) in
    let sum = to_z w64 l.sum-bits in
    let fits : FitsSigned w64 (sum +ℤ c.points-sum.result) = omega (arith, ints, few, l.invariant.low, l.invariant.high, low, high) in
    let whole : to_z w64 (of_z w64 (sum +ℤ c.points-sum.result)) ≡ sum +ℤ c.points-sum.result = to_z-of_z w64 (sum +ℤ c.points-sum.result) fits in
    let here : f rule ≡ f (get_or rules l.rule-index rule) = ap f c.rule-item.is in
    let more : sum_of (map f (take (l.rule-index + 1) rules)) ≡ sum_of (map f (take l.rule-index rules)) +ℤ f (get_or rules l.rule-index rule) =
    ap sum_of (map_more f rules l.rule-index rule c.loop-rule-test.true) ∙ fold-append _ (pos 0) (map f (take l.rule-index rules)) (f (get_or rules l.rule-index rule) ∷ []) in
    rw (value, whole) (record {
      sum = ap (λ z. z +ℤ c.points-sum.result) l.invariant.sum ∙ (ap (λ z. sum_of (map f (take l.rule-index rules)) +ℤ z) (c.points-sum.ensures.value ∙ here) ∙ sym more);
      low = omega (arith, ints, l.invariant.low, low);
      high = omega (arith, ints, l.invariant.high, high);
    })
