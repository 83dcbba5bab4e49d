use Rattle.std.proofs.Common.{rules, ◌++◌, ap, ◌∙◌}
use Rattle.std.specs.List.{flat_map}
use Rattle.cluster_types.specs.declared.run.RunLine.TheVariants as line
use Rattle.cluster_types.specs.Tables.{targets_of}
use Rattle.cluster_types.specs.Texts.{begin_of, between, end_lines, event_lines, run_line, target_lines}
use Rattle.trace_text.proofs.MoreLines.{five_more, lines_of_passed}
use Rattle.trace_text.proofs.runs.push_first.Goals as goal

pub returns : goal.returns
returns c =
    let cl = c.args.cluster.now in
    let es = c.args.events.now in
    let p = c.args.passed.now in
    let next = c.begin_of.ensures cl in
    let first = line.Transition c.args.number in
    let goals = target_lines cl p.pins (targets_of p.table) p.none in
    let events = flat_map event_lines (between p.begins_at p.ends_at es) in
    let ends = end_lines cl c.args.number p.end in
    let others = flat_map event_lines (between p.ends_at (begin_of cl es c.args.after.now) es) in
    five_more c.args.text.now.items c.put_line.new.text.items c.push_targets.new.text.items c.push_events.new.text.items c.push_end.new.text.items
    c.push_events-2.new.text.items (run_line cl first) (flat_map (run_line cl) goals) (flat_map (run_line cl) events) (flat_map (run_line cl) ends)
    (flat_map (run_line cl) others) (search rules) (search rules) (search rules) (search rules) (search rules)
    ∙ ap (λ t. c.args.text.now.items ++ t) (lines_of_passed (run_line cl) first goals events ends others)
