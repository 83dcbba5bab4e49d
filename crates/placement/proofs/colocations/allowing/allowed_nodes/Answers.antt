use Rattle.std.proofs.Common.{◌≡◌, ◌&&◌, take, sym, ap, ◌∙◌, arith}
use Rattle.std.specs.List.{list_all}
use Rattle.std.proofs.Math.Bool.{and-true}
use Rattle.std.proofs.lemmas.List.{take_all}
use Rattle.lemmas.proofs.Booleans.{sooner}
use Rattle.cluster_types.specs.Tables.{targets_of}
use Rattle.score.specs.NodeSet.{has}
use Rattle.placement.specs.Inner.AllowedNodes.{allows}
use Rattle.placement.proofs.AllowedBy.{allowed-by-both, allowed-more}
use Rattle.placement.proofs.colocations.allowing.allowed_nodes.Goals as goal

pub loop-rule-init : goal.loop-rule-init
loop-rule-init c = λ n. sym (and-true (has c.args.among n))

pub cut-left-requires-clause-there : goal.cut-left-requires-clause-there
cut-left-requires-clause-there c = λ n h.
    let l = c.loop-rule in
    let items = c.as_slice-rule-items.result.now in
    let low = c.requires.there n (sooner (has c.args.among n) (list_all (allows (targets_of c.args.table.now) c.args.decision n) (take l.rule-index items)) (sym (l.invariant n) ∙ h)) in
    omega (arith, low, c.len-nodes.ensures)

pub loop-rule-preserved : goal.loop-rule-preserved
loop-rule-preserved c = λ n.
    let l = c.loop-rule in
    let items = c.as_slice-rule-items.result.now in
    let rule = c.rule-item.result in
    let table = targets_of c.args.table.now in
    c.cut-left.ensures n
    ∙ (ap (λ b. b && allows table c.args.decision n rule) (l.invariant n)
    ∙ allowed-more table c.args.decision n items l.rule-index rule c.loop-rule-test.true c.rule-item.is (has c.args.among n))

pub returns : goal.returns
returns c = λ n.
    let l = c.loop-rule in
    let items = c.as_slice-rule-items.result.now in
    let table = targets_of c.args.table.now in
    let all : take l.rule-index items ≡ items = take_all l.rule-index items (omega (arith, c.loop-rule-test.false)) in
    l.invariant n
    ∙ (ap (λ xs. has c.args.among n && list_all (allows table c.args.decision n) xs) (all ∙ c.as_slice-rule-items.ensures)
    ∙ ap (λ b. has c.args.among n && b) (allowed-by-both table c.args.decision n c.args.cluster.now.colocations))
