use Rattle.std.proofs.Common.{rules, ◌≡◌, ◌++◌, ◌∷◌, [], true, false, ap, sym, ◌∙◌}
use Rattle.cluster_types.specs.NodeStates.{is_online, is_online_state}
use Rattle.planner.proofs.MoreLosses.{lost, not_lost}
use Rattle.planner.proofs.losing.survive.Goals as goal

pub loop-node-preserved-then-not-is_online : goal.loop-node-preserved-then-not-is_online
loop-node-preserved-then-not-is_online c =
    let cl = c.args.cluster.now in
    let es = c.args.journal.now.events in
    let off : is_online cl c.loop-node.node es ≡ false =
    ap is_online_state (sym (c.node_state.ensures cl es c.in_ok-now.ensures)) ∙ (sym c.is_online.ensures ∙ c.if-not-is_online.true) in
    not_lost cl es c.args.journal.now.promotions c.loop-node.node c.loop-node.losses.items c.loop-node.invariant off

pub loop-node-preserved : goal.loop-node-preserved
loop-node-preserved c =
    let cl = c.args.cluster.now in
    let es = c.args.journal.now.events in
    let on : is_online cl c.loop-node.node es ≡ true =
    ap is_online_state (sym (c.node_state.ensures cl es c.in_ok-now.ensures)) ∙ (sym c.is_online.ensures ∙ c.if-not-is_online.false) in
    let items : c.push.new.self.items ≡ c.loop-node.losses.items ++ c.in_ok-loss_of.field-0 ∷ [] = search rules in
    rw items
    (lost cl es c.args.journal.now.promotions c.loop-node.node c.loop-node.losses.items c.loop-node.invariant c.in_ok-loss_of.field-0 on c.in_ok-loss_of.ensures.node
    c.in_ok-loss_of.ensures.loss)
