use Rattle.cluster_types.proofs.OrderLinks.{links_put_first, links_take_turns, none_of_serialize}
use Rattle.cluster_types.proofs.laws.links_are_what_comes_first.Goals as goal

pub returns-clause-of_order : goal.returns-clause-of_order
returns-clause-of_order c = links_put_first

pub returns-clause-of_serialize : goal.returns-clause-of_serialize
returns-clause-of_serialize c = none_of_serialize

pub returns-clause-of_leaf : goal.returns-clause-of_leaf
returns-clause-of_leaf c = links_take_turns
