use Rattle.std.proofs.Common.{sym, ap, ◌∙◌, get_or, take}
use Rattle.std.proofs.lemmas.List.{take_more}
use Rattle.cluster_types.specs.declared.journal.Event.TheVariants.{Up}
use Rattle.cluster_types.specs.Failures.{failures_in_force}
use Rattle.state_unpack.specs.Tally.{tally_of}
use Rattle.state_unpack.specs.Inner.Tally.{tally_after}
use Rattle.state_unpack.proofs.MoreFailures.{in_force-after}
use Rattle.state_unpack.proofs.counts.in_force.Goals as goal

pub loop-event-preserved : goal.loop-event-preserved
loop-event-preserved c =
    let l = c.loop-event in
    let cluster = c.args.cluster.now in
    let events = c.args.events.now in
    let event = get_or events l.event-index (Up 0) in
    let so_far = take l.event-index events in
    c.after-tally.ensures ∙ (ap (λ tally. tally_after cluster c.args.leaf c.args.node tally event) l.invariant ∙ (sym (in_force-after cluster c.args.leaf c.args.node so_far event)
    ∙ ap (λ es. tally_of cluster (failures_in_force cluster c.args.leaf c.args.node es)) (sym (take_more events l.event-index (Up 0) c.loop-event-test.true))))
