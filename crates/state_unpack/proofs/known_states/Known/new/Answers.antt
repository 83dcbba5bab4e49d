use Rattle.std.proofs.Common.{arith, sym, subst, take}
use Rattle.std.proofs.lemmas.List.{take_more}
use Rattle.std.proofs.lemmas.List.Sums.{sum_by_more_le}
use Rattle.cluster_types.specs.Journals.{seconds_of}
use Rattle.cluster_types.specs.declared.journal.Event.TheVariants.{Up}
use Rattle.state_unpack.specs.KeptKnowledge.{Knows}
use Rattle.state_unpack.proofs.known_states.Known.new.Goals as goal

pub tell-requires : goal.tell-requires
tell-requires c =
    let l = c.loop-event in
    let within = sum_by_more_le seconds_of c.args.events.now l.event-index (Up 0) c.loop-event-test.true in
    let so_far = l.invariant.now in
    let fits = c.requires.moment in
    omega (arith, within, so_far, fits)

pub loop-event-preserved : goal.loop-event-preserved
loop-event-preserved c =
    let l = c.loop-event in
    let events = c.args.events.now in
    let of = c.args.cluster.now in
    subst (λ es. Knows of es c.tell.new.self) (sym (take_more events l.event-index (Up 0) c.loop-event-test.true)) (c.tell.ensures.known of (take l.event-index events) l.invariant)
