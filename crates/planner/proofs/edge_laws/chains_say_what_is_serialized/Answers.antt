use Rattle.planner.proofs.Serialized.{chained_says, says_chained}
use Rattle.planner.proofs.edge_laws.chains_say_what_is_serialized.Goals as goal

pub returns-clause-chained : goal.returns-clause-chained
returns-clause-chained c =
    λ actions is_earlier o places strict ordered x y a b lx ly ax ay kind m h.
    chained_says actions is_earlier strict o places ordered x y a b lx ly ax ay kind m h

pub returns-clause-says : goal.returns-clause-says
returns-clause-says c =
    λ actions is_earlier o places strict ordered x y a b lx ly ax ay h.
    let r = says_chained actions is_earlier strict o places ordered x y a b lx ly ax ay h in (r.node, r.chained)
