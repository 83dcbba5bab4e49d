use Rattle.std.proofs.Common.{◌≡◌, ◌&&◌, ◌||◌, ◌==◌, ◌∙◌, take, sym, ap, arith}
use Rattle.std.proofs.Math.Bool.{or-false}
use Rattle.std.proofs.lemmas.List.{take_all}
use Rattle.placement.specs.Locations.{is_named, is_named_by_rule, rule_holds_by}
use Rattle.placement.proofs.Named.{ruled-more}
use Rattle.placement.proofs.totals.locations.named_nodes.Goals as goal

pub loop-rule-init : goal.loop-rule-init
loop-rule-init c = λ n low.
    c.name_located.ensures n ∙ (ap (λ b. b || is_named c.args.leaf c.args.cluster.now.locations n) (c.none-named.ensures n)
    ∙ sym (or-false (is_named c.args.leaf c.args.cluster.now.locations n)))

pub loop-rule-preserved : goal.loop-rule-preserved
loop-rule-preserved c = λ n low.
    let l = c.loop-rule in
    let cluster = c.args.cluster.now in
    let items = c.as_slice-rule-items.result.now in
    let rule = c.rule-item.result in
    c.with_rule-named.ensures n low ∙ (ap (λ b. b || (rule.leaf == c.args.leaf && rule_holds_by cluster c.args.moment rule n)) (l.invariant n low)
    ∙ ruled-more cluster c.args.moment c.args.leaf items l.rule-index rule c.loop-rule-test.true c.rule-item.is (is_named c.args.leaf cluster.locations n) n)

pub returns : goal.returns
returns c = λ n low.
    let l = c.loop-rule in
    let cluster = c.args.cluster.now in
    let items = c.as_slice-rule-items.result.now in
    let all : take l.rule-index items ≡ items = take_all l.rule-index items (omega (arith, c.loop-rule-test.false)) in
    l.invariant n low ∙ ap (λ xs. is_named c.args.leaf cluster.locations n || is_named_by_rule cluster c.args.moment c.args.leaf xs n) (all ∙ c.as_slice-rule-items.ensures)
