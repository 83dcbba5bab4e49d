use Rattle.cluster_types.proofs.TableCells.{after_setting}
use Rattle.cluster_types.proofs.placement.Table.with_target.Goals as goal

pub returns-clause-targets : goal.returns-clause-targets
returns-clause-targets c = λ r n.
    rw c.from.ensures (rw c.into_vec-targets.ensures (rw c.cell_place-place.ensures
    (after_setting c.args.self r n c.args.leaf c.args.node c.args.target c.requires.on_node c.requires.within)))
