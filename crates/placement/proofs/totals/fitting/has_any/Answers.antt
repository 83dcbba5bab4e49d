use Rattle.std.proofs.Common.{rules, ◌≡◌, ◌||◌, true, false, sym, ap, ◌∙◌, arith}
use Rattle.score.specs.NodeSet.{has}
use Rattle.lemmas.proofs.Ranges.{some_in_range}
use Rattle.placement.proofs.Fits.{any-next}
use Rattle.placement.proofs.totals.fitting.has_any.Goals as goal

pub returns-then-has : goal.returns-then-has
returns-then-has c =
    let l = c.loop-node in
    let here : has c.args.set.now l.node ≡ true = search rules in
    sym (some_in_range (has c.args.set.now) 0 c.args.nodes l.node (omega arith) (omega (arith, c.loop-node-test.true)) here)

pub loop-node-preserved : goal.loop-node-preserved
loop-node-preserved c =
    let l = c.loop-node in
    let here : has c.args.set.now l.node ≡ false = search rules in
    any-next (has c.args.set.now) l.node ∙ (ap (λ b. b || has c.args.set.now l.node) l.invariant ∙ here)
