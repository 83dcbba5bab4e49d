use Rattle.planner.specs.Inner.Chains.{changes_by}
use Rattle.planner.proofs.ChainMore.{Chains}
use Rattle.planner.proofs.precedence.chains.add_chain.Given as goal

abbrev pub invariant-loop-place : goal.invariant-loop-place
invariant-loop-place l =
    Chains (changes_by l.actions l.first) (changes_by l.actions l.other)
    l.initial.building.list.items l.building.list.items l.initial.building.base l.gate l.places l.place-index
