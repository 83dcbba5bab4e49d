use Rattle.std.proofs.Common.{◌≡◌, ◌++◌, take, sym, ap, ◌∙◌, arith}
use Rattle.std.specs.List.{flat_map}
use Rattle.std.proofs.lemmas.List.{take_all}
use Rattle.cluster_types.specs.declared.journal.Event.{Event}
use Rattle.cluster_types.specs.Texts.{event_lines, run_line}
use Rattle.trace_text.proofs.MoreLines.{lines_of_lines}
use Rattle.trace_text.proofs.runs.push_events.Goals as goal

pub returns : goal.returns
returns c =
    let l = c.loop-event in
    let cl = c.args.cluster.now in
    let all : take l.event-index c.args.events.now ≡ c.args.events.now
    = take_all l.event-index c.args.events.now (omega (arith, c.loop-event-test.false)) in
    l.invariant
    ∙ ap (λ es. c.args.text.now.items ++ flat_map (λ (e : Event). flat_map (run_line cl) (event_lines e)) es) all
    ∙ ap (λ t. c.args.text.now.items ++ t) (sym (lines_of_lines (run_line cl) event_lines c.args.events.now))
