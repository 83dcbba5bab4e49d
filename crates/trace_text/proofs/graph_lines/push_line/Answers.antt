use Rattle.std.proofs.Common.{◌≡◌, ◌++◌, ◌∙◌, ap, codes}
use Rattle.std.specs.Fmt.{decimal}
use Rattle.cluster_types.specs.Texts.{action_text, after_text}
use Rattle.trace_text.specs.Inner.Walk.{Walk, befores}
use Rattle.trace_text.proofs.MoreLines.{five_more}
use Rattle.trace_text.proofs.graph_lines.push_line.Goals as goal

pub returns-clause-line : goal.returns-clause-line
returns-clause-line c =
    let cl = c.args.cluster.now in
    let first = befores c.args.before.now.graph c.args.number in
    let told : c.push_after.new.text.items ≡ c.put_action.new.text.items ++ after_text cl first
    = c.in_ok-push_after.ensures.numbers cl ∙ ap (λ (w : Walk). c.put_action.new.text.items ++ after_text cl w.left) c.walk_to.ensures in
    five_more c.args.text.now.items c.put_numbered.new.text.items c.put.new.self.items c.put_action.new.text.items c.push_after.new.text.items
    c.put-2.new.self.items (codes "action " ++ decimal c.args.number) (codes " ") (action_text cl c.args.action) (after_text cl first) (codes "\n")
    c.in_ok-put_numbered.ensures c.in_ok-put.ensures c.in_ok-put_action.ensures told c.in_ok-put-2.ensures
