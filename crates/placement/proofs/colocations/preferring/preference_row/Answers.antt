use Rattle.std.proofs.Common.{◌≡◌, ◌+◌, length, take, sym, ap, subst, ◌∙◌, arith}
use Rattle.std.proofs.lemmas.List.{take_all}
use Rattle.cluster_types.specs.Tables.{targets_of}
use Rattle.placement.specs.Rows.{IsRow}
use Rattle.placement.proofs.TermRows.{row-length, row-room, row-same}
use Rattle.placement.specs.Inner.CountedScores.{counted_scores}
use Rattle.placement.proofs.RowTerms.{counted-more, few-counted}
use Rattle.placement.proofs.colocations.preferring.preference_row.Goals as goal

pub put_rule-requires-clause-nodes : goal.put_rule-requires-clause-nodes
put_rule-requires-clause-nodes c = sym (row-length c.len-nodes.result _ c.loop-rule.row c.loop-rule.invariant)

pub put_rule-requires-clause-room : goal.put_rule-requires-clause-room
put_rule-requires-clause-room c =
    let l = c.loop-rule in
    let items = c.as_slice-rule-items.result.now in
    let table = targets_of c.args.table.now in
    let size = ap length c.as_slice-rule-items.ensures in
    row-room c.len-nodes.result (counted_scores table c.args.decision (take l.rule-index items)) l.row l.invariant
    (λ n low. let few = few-counted table c.args.decision items l.rule-index n in omega (arith, few, size, c.requires.rules))

pub loop-rule-preserved : goal.loop-rule-preserved
loop-rule-preserved c =
    let l = c.loop-rule in
    let items = c.as_slice-rule-items.result.now in
    let rule = c.rule-item.result in
    let table = targets_of c.args.table.now in
    row-same c.len-nodes.result _ (counted_scores table c.args.decision (take (l.rule-index + 1) items)) c.put_rule.new.row
    (λ n low. counted-more table c.args.decision items l.rule-index rule c.loop-rule-test.true c.rule-item.is n)
    (c.put_rule.ensures (counted_scores table c.args.decision (take l.rule-index items)) l.invariant)

pub returns : goal.returns
returns c =
    let l = c.loop-rule in
    let items = c.as_slice-rule-items.result.now in
    let table = targets_of c.args.table.now in
    let all : take l.rule-index items ≡ items = take_all l.rule-index items (omega (arith, c.loop-rule-test.false)) in
    subst (λ k. IsRow k (counted_scores table c.args.decision c.args.cluster.now.colocations) l.row) c.len-nodes.ensures
    (subst (λ xs. IsRow c.len-nodes.result (counted_scores table c.args.decision xs) l.row) (all ∙ c.as_slice-rule-items.ensures) l.invariant)
