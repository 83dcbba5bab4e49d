use Rattle.simulated.proofs.nodes.fence.Goals as goal

pub returns-in-Fence-clause-held : goal.returns-in-Fence-clause-held
returns-in-Fence-clause-held c = rw c.in-Fence.is c.set_node.ensures.held
