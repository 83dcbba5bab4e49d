use Rattle.planner.specs.Inner.Chains.{changes_by}
use Rattle.planner.proofs.ChainMore.{chains_more}
use Rattle.planner.proofs.precedence.chains.add_chain.Goals as goal

pub loop-place-preserved : goal.loop-place-preserved
loop-place-preserved c =
    chains_more (changes_by c.args.actions.now c.args.first) (changes_by c.args.actions.now c.args.other) c.args.building.now.list.items c.loop-place.building.list.items
    c.add_link.new.list.items c.args.building.now.base c.loop-place.gate c.in_ok-gate.gate c.args.places.now c.loop-place.place-index _ c.loop-place-test.true
    c.loop-place.invariant c.in_ok-gate.ensures.edges c.in_ok-gate.ensures.next
