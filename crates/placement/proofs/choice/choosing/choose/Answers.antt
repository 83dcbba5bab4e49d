use Rattle.std.proofs.Common.{rules, ◌≡◌, arith}
use Rattle.score.specs.Choice.{IsGreatest}
use Rattle.placement.proofs.Picking.{all-picked, cap-picked, left-among, none-picked, one-more}
use Rattle.placement.proofs.choice.choosing.choose.Goals as goal

pub loop-turn-init : goal.loop-turn-init
loop-turn-init c = none-picked c.args.totals.now c.args.loads.now c.args.among c.none-chosen.result c.none-chosen.ensures

pub greatest-requires-clause-nodes : goal.greatest-requires-clause-nodes
greatest-requires-clause-nodes c = λ n h.
    let l = c.loop-turn in
    c.requires.nodes n (left-among c.args.totals.now c.args.loads.now c.args.among l._turn l.chosen l.left l.invariant n h)

pub put-requires : goal.put-requires
put-requires c =
    let l = c.loop-turn in
    let best : IsGreatest c.args.totals.now c.args.loads.now l.left c.in-Some.node = search rules in
    let low = c.requires.nodes c.in-Some.node (left-among c.args.totals.now c.args.loads.now c.args.among l._turn l.chosen l.left l.invariant c.in-Some.node best.member) in
    omega (arith, low, c.requires.few)

pub take_out-requires : goal.take_out-requires
take_out-requires c =
    let l = c.loop-turn in
    let best : IsGreatest c.args.totals.now c.args.loads.now l.left c.in-Some.node = search rules in
    let low = c.requires.nodes c.in-Some.node (left-among c.args.totals.now c.args.loads.now c.args.among l._turn l.chosen l.left l.invariant c.in-Some.node best.member) in
    omega (arith, low, c.requires.few)

pub loop-turn-preserved : goal.loop-turn-preserved
loop-turn-preserved c =
    let l = c.loop-turn in
    let best : IsGreatest c.args.totals.now c.args.loads.now l.left c.in-Some.node = search rules in
    let low = c.requires.nodes c.in-Some.node (left-among c.args.totals.now c.args.loads.now c.args.among l._turn l.chosen l.left l.invariant c.in-Some.node best.member) in
    one-more c.args.totals.now c.args.loads.now c.args.among l._turn l.chosen l.left l.invariant c.in-Some.node c.put.new.self c.take_out.new.self best low c.put.ensures c.take_out.ensures

pub returns-in-None : goal.returns-in-None
returns-in-None c =
    let l = c.loop-turn in
    all-picked c.args.totals.now c.args.loads.now c.args.among l._turn l.chosen l.left l.invariant c.args.cap (omega (arith, c.loop-turn-test.true)) (c.in-None.ensures.none)

pub returns : goal.returns
returns c =
    let l = c.loop-turn in
    let full : l._turn ≡ c.args.cap = search rules in
    cap-picked c.args.totals.now c.args.loads.now c.args.among l._turn l.chosen l.left l.invariant c.args.cap full
