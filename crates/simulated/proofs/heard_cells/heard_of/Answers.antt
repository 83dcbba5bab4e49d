use Rattle.std.proofs.Common.{sym, subst, take}
use Rattle.std.proofs.lemmas.List.{take_more}
use Rattle.cluster_types.specs.declared.journal.Event.TheVariants.{Up}
use Rattle.simulated.specs.Inner.Firsts.{HearsOutcomes}
use Rattle.simulated.proofs.heard_cells.heard_of.Goals as goal

pub loop-event-preserved : goal.loop-event-preserved
loop-event-preserved c =
    let l = c.loop-event in
    let events = c.args.events.now in
    let of = c.args.cluster.now in
    subst (λ es. HearsOutcomes of es c.hear.new.heard.items) (sym (take_more events l.event-index (Up 0) c.loop-event-test.true)) (c.hear.ensures.heard (take l.event-index events) l.invariant)
