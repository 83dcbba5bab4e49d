use Rattle.std.proofs.Common.{rules, ◌≡◌, ◌==◌, ◌∙◌, length, take, sym, ap, arith, subst, append-nil}
use Rattle.std.proofs.lemmas.List.{take_all}
use Rattle.std.proofs.lemmas.List.Sums.{count_by-le-length}
use Rattle.cluster_types.specs.declared.rules.Location.{Location}
use Rattle.cluster_types.specs.declared.rules.RuleLocation.{RuleLocation}
use Rattle.placement.specs.Locations.{located, scores_given}
use Rattle.placement.specs.Inner.Locations.{is_role}
use Rattle.placement.specs.Rows.{IsRow}
use Rattle.placement.proofs.Given.{given-more, few-given, taken}
use Rattle.placement.proofs.TermRows.{row-same, row-room, row-length}
use Rattle.placement.proofs.totals.locations.given_row.Goals as goal

pub loop-rule-init : goal.loop-rule-init
loop-rule-init c =
    row-same (length c.args.cluster.now.nodes) (located (is_role c.args.role) c.args.leaf c.args.cluster.now.locations) _ c.in_ok-row.row
    (λ n low. sym (append-nil (located (is_role c.args.role) c.args.leaf c.args.cluster.now.locations n))) (search rules)

pub put_rule-requires-clause-nodes : goal.put_rule-requires-clause-nodes
put_rule-requires-clause-nodes c = sym (row-length (length c.args.cluster.now.nodes) _ c.loop-rule.row c.loop-rule.invariant)

pub put_rule-requires-clause-room : goal.put_rule-requires-clause-room
put_rule-requires-clause-room c =
    let l = c.loop-rule in
    let cluster = c.args.cluster.now in
    let items = c.as_slice-rule-items.result.now in
    let size = ap length c.as_slice-rule-items.ensures in
    row-room (length cluster.nodes) (scores_given cluster c.args.moment (is_role c.args.role) c.args.leaf cluster.locations (take l.rule-index items)) l.row l.invariant
    (λ n low. let a = few-given cluster c.args.moment (is_role c.args.role) c.args.leaf cluster.locations (take l.rule-index items) n in
    let b = count_by-le-length (λ (x : Location). x.leaf == c.args.leaf) cluster.locations in
    let d = taken (λ (x : RuleLocation). x.leaf == c.args.leaf) items l.rule-index in
    omega (arith, a, b, d, size, c.requires.limits.rules))

pub loop-rule-preserved : goal.loop-rule-preserved
loop-rule-preserved c =
    let l = c.loop-rule in
    let cluster = c.args.cluster.now in
    let nodes = length cluster.nodes in
    let items = c.as_slice-rule-items.result.now in
    let rule = c.rule-item.result in
    let role = is_role c.args.role in
    row-same nodes _ _ c.put_rule.new.row
    (λ n low. given-more cluster c.args.moment role c.args.leaf cluster.locations items l.rule-index rule c.loop-rule-test.true c.rule-item.is n)
    (c.put_rule.ensures (scores_given cluster c.args.moment role c.args.leaf cluster.locations (take l.rule-index items)) l.invariant)

pub returns : goal.returns
returns c =
    let l = c.loop-rule in
    let cluster = c.args.cluster.now in
    let items = c.as_slice-rule-items.result.now in
    let all : take l.rule-index items ≡ items = take_all l.rule-index items (omega (arith, c.loop-rule-test.false)) in
    subst (λ xs. IsRow (length cluster.nodes) (scores_given cluster c.args.moment (is_role c.args.role) c.args.leaf cluster.locations xs) l.row) (all ∙ c.as_slice-rule-items.ensures) l.invariant
