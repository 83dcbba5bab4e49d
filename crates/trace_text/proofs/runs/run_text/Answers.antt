use Rattle.std.proofs.Common.{rules, arith, ◌≡◌, ◌+◌, ◌++◌, ◌∷◌, ◌∙◌, ap, subst, length, List}
use Rattle.std.specs.List.{flat_map}
use Rattle.cluster_types.specs.declared.journal.Event.{Event}
use Rattle.cluster_types.specs.declared.run.RunLine.{RunLine}
use Rattle.cluster_types.specs.Texts.{all_passed_lines, begin_of, between, event_lines, passed_lines, run_line}
use Rattle.trace_text.proofs.MoreLines.{lines_to_come}
use Rattle.trace_text.proofs.runs.run_text.Goals as goal

pub loop-passed-preserved : goal.loop-passed-preserved
loop-passed-preserved c =
    let cl = c.args.cluster.now in
    let es = c.args.run.now.journal.events in
    let l = c.loop-passed in
    let passed = c.in-Some.passed.now in
    let after = c.in-Some.after.now in
    let first : l.left.now ≡ passed ∷ after = search rules in
    let size : length after + 1 ≡ length l.left.now = search rules in
    let lines : List Event → List RunLine = λ es'.
    passed_lines cl es' l.number passed
    ++ flat_map event_lines (between passed.ends_at (begin_of cl es' after) es') in
    let pushed : c.push_first.new.text.items ≡ l.text.items ++ flat_map (run_line cl) (lines es)
    = subst (λ (es' : List Event). c.push_first.new.text.items ≡ l.text.items ++ flat_map (run_line cl) (lines es'))
    c.as_slice-events.ensures c.in_ok-push_first.ensures in
    record {
      so_far =
          lines_to_come (run_line cl) (lines es) (all_passed_lines cl es (l.number + 1) after)
          (all_passed_lines cl es l.number l.left.now) l.text.items c.push_first.new.text.items pushed
          (ap (all_passed_lines cl es l.number) first)
          ∙ l.invariant.so_far;
      numbers = omega (arith, size, l.invariant.numbers);
    }
