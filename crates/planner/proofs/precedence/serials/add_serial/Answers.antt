use Rattle.std.proofs.Common.{rules, ◌≡◌, ◌*◌, true, false, length, subst}
use Rattle.std.proofs.lemmas.Result.{on_ok_weaker}
use Rattle.cluster_types.specs.Precedence.{is_serialize}
use Rattle.planner.specs.Inner.Chains.{IsChainedSomewhere}
use Rattle.planner.specs.Inner.Groups.{AddsGroup}
use Rattle.planner.proofs.SerialSays.{other_adds, serial_adds}
use Rattle.planner.proofs.precedence.serials.add_serial.Goals as goal

pub returns-then-not-is_serialize-clause-adds : goal.returns-then-not-is_serialize-clause-adds
returns-then-not-is_serialize-clause-adds c =
    let kind : is_serialize c.args.order.now.kind ≡ false = search rules in
    other_adds c.args.known.now.cluster.now c.args.known.now.actions.now c.args.order.now kind c.args.building.now.list.items c.args.building.now.base c.requires.enough

pub returns-clause-adds : goal.returns-clause-adds
returns-clause-adds c =
    let kind : is_serialize c.args.order.now.kind ≡ true = search rules in
    on_ok_weaker c.add_chains.result
    (λ h. serial_adds c.args.known.now.cluster.now c.args.known.now.actions.now c.args.order.now kind c.in_ok-places.places.items c.in_ok-places.ensures c.args.building.now.list.items
    c.add_chains.new.building.list.items c.args.building.now.base c.add_chains.new.building.base
    (subst (λ v. AddsGroup (length c.args.known.now.actions.now) c.args.building.now.list.items c.add_chains.new.building.list.items c.args.building.now.base c.add_chains.new.building.base
    (3 * length v) (IsChainedSomewhere c.args.known.now.actions.now c.args.order.now v)) c.as_slice.ensures.value h))
    c.add_chains.ensures.adds
