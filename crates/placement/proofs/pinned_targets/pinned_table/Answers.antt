use Rattle.std.proofs.Common.{rules, ◌≡◌, length, ap, ◌∙◌}
use Rattle.cluster_types.specs.declared.states.States.{States}
use Rattle.cluster_types.specs.Tables.{targets_of}
use Rattle.cluster_types.proofs.StatesKept.{length-rows}
use Rattle.placement.specs.Scores.{cells_of}
use Rattle.placement.specs.Inner.Pins.{pinned_in}
use Rattle.placement.proofs.PinsOfStates.{table-is}
use Rattle.placement.proofs.pinned_targets.pinned_table.Goals as goal

pub returns-clause-size : goal.returns-clause-size
returns-clause-size c =
    let cluster = c.args.cluster.now in
    let before = pinned_in cluster c.args.pins.now c.args.states.now in
    let made : c.from.result ≡ cells_of cluster before = search rules in
    ap length made ∙ length-rows before (length cluster.nodes) 0 (length cluster.leaves)

pub returns-clause-targets : goal.returns-clause-targets
returns-clause-targets c = λ events promotions told pinned.
    let cluster = c.args.cluster.now in
    let made : c.from.result ≡ cells_of cluster (pinned_in cluster c.args.pins.now c.args.states.now) = search rules in
    let size : c.len.result ≡ length cluster.nodes = search rules in
    let table : record { nodes = c.len.result; targets = c.from.result } ≡ record { nodes = length cluster.nodes; targets = cells_of cluster (pinned_in cluster c.args.pins.now c.args.states.now) } =
    (λ i. record { nodes = size i; targets = made i }) in
    ap targets_of table
    ∙ (ap (λ (s : States). targets_of (record { nodes = length cluster.nodes; targets = cells_of cluster (pinned_in cluster c.args.pins.now s) })) told
    ∙ table-is cluster events promotions c.args.pins.now pinned)
