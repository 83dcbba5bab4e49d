use Rattle.std.proofs.Common.{◌≡◌, ◌&&◌, ◌||◌, ◌==◌, ◌∙◌, take, sym, ap, subst, arith}
use Rattle.std.proofs.Math.Bool.{or-false}
use Rattle.std.proofs.lemmas.List.{take_all}
use Rattle.std.proofs.lemmas.List.Elements.{Contains-get_or}
use Rattle.std.specs.List.{Contains}
use Rattle.score.specs.NodeSet.{has}
use Rattle.placement.specs.Locations.{is_named}
use Rattle.placement.proofs.Named.{named-more}
use Rattle.placement.proofs.totals.locations.name_located.Goals as goal

pub loop-rule-init : goal.loop-rule-init
loop-rule-init c = λ n. sym (or-false (has c.args.named.now n))

pub put_if-requires : goal.put_if-requires
put_if-requires c =
    let items = c.as_slice-rule-items.result.now in
    let rule = c.rule-item.result in
    let within : Contains items rule = subst (Contains items) (sym c.rule-item.is) (Contains-get_or items c.loop-rule.rule-index rule c.loop-rule-test.true) in
    let low = (c.requires.locations rule (subst (λ xs. Contains xs rule) c.as_slice-rule-items.ensures within)).node in
    omega (arith, low, c.requires.limits.nodes)

pub loop-rule-preserved : goal.loop-rule-preserved
loop-rule-preserved c = λ n.
    let l = c.loop-rule in
    let items = c.as_slice-rule-items.result.now in
    let rule = c.rule-item.result in
    c.put_if.ensures n ∙ (ap (λ b. (rule.leaf == c.args.leaf) && n == rule.node || b) (l.invariant n)
    ∙ named-more c.args.leaf items l.rule-index rule c.loop-rule-test.true c.rule-item.is (has c.args.named.now n) n)

pub returns : goal.returns
returns c = λ n.
    let l = c.loop-rule in
    let items = c.as_slice-rule-items.result.now in
    let all : take l.rule-index items ≡ items = take_all l.rule-index items (omega (arith, c.loop-rule-test.false)) in
    l.invariant n ∙ ap (λ xs. has c.args.named.now n || is_named c.args.leaf xs n) (all ∙ c.as_slice-rule-items.ensures)
