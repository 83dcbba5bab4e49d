use Rattle.std.proofs.Common.{rules, arith, ◌≡◌, length}
use Rattle.std.specs.List.Sorted.{IsPermutation}
use Rattle.std.specs.Ordering.{is_lt}
use Rattle.std.proofs.lemmas.Fn.{always_returns_same}
use Rattle.placement.specs.Inner.Turns.{ranks_before}
use Rattle.placement.proofs.RankedOrder.{are-sorted, ranks-order}
use Rattle.placement.proofs.order.ranked_decisions.sort_ranked.Goals as goal

pub returns : goal.returns
returns c = λ key ds is.
    let old = c.args.ranked.now.items in
    let new = c.sort_by.new.self.items in
    let same : IsPermutation old new = search rules in
    let long : length new ≡ length old = omega arith in
    are-sorted key ds old new is same long
    (c.in_ok-sort_by.ensures.sorted ranks_before ranks-order (always_returns_same _ (λ a r. is_lt r ≡ ranks_before a.0.now a.1.0.now) _ (λ a r q k. search rules)))
