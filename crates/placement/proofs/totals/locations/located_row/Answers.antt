use Rattle.std.proofs.Common.{rules, ◌≡◌, ◌==◌, ◌∙◌, length, take, sym, ap, arith, subst}
use Rattle.std.specs.List.{Contains}
use Rattle.std.proofs.lemmas.List.{take_all}
use Rattle.std.proofs.lemmas.List.Elements.{Contains-get_or}
use Rattle.cluster_types.specs.declared.rules.Location.{Location}
use Rattle.placement.specs.Locations.{located}
use Rattle.placement.specs.Inner.Locations.{is_role}
use Rattle.placement.specs.Rows.{IsRow}
use Rattle.placement.proofs.Given.{zero-row, located-more, few-located, taken}
use Rattle.placement.proofs.TermRows.{row-same, row-room, row-length}
use Rattle.placement.proofs.totals.locations.located_row.Goals as goal

pub loop-rule-init : goal.loop-rule-init
loop-rule-init c = zero-row (length c.args.cluster.now.nodes) c.in_ok-row.row (search rules) c.in_ok-row.ensures.finite

pub put_location-requires-clause-node : goal.put_location-requires-clause-node
put_location-requires-clause-node c =
    let l = c.loop-rule in
    let items = c.as_slice-rule-items.result.now in
    let rule = c.rule-item.result in
    let within : Contains items rule = subst (Contains items) (sym c.rule-item.is) (Contains-get_or items l.rule-index rule c.loop-rule-test.true) in
    let low = (c.requires.locations rule (subst (λ xs. Contains xs rule) c.as_slice-rule-items.ensures within)).node in
    omega (arith, low, row-length (length c.args.cluster.now.nodes) _ l.row l.invariant)

pub put_location-requires-clause-room : goal.put_location-requires-clause-room
put_location-requires-clause-room c =
    let l = c.loop-rule in
    let cluster = c.args.cluster.now in
    let items = c.as_slice-rule-items.result.now in
    let size = ap length c.as_slice-rule-items.ensures in
    row-room (length cluster.nodes) (located (is_role c.args.role) c.args.leaf (take l.rule-index items)) l.row l.invariant
    (λ n low. let a = few-located (is_role c.args.role) c.args.leaf (take l.rule-index items) n in
    let b = taken (λ (l : Location). l.leaf == c.args.leaf) items l.rule-index in
    omega (arith, a, b, size, c.requires.limits.rules)) c.rule-item.result.node

pub loop-rule-preserved : goal.loop-rule-preserved
loop-rule-preserved c =
    let l = c.loop-rule in
    let nodes = length c.args.cluster.now.nodes in
    let items = c.as_slice-rule-items.result.now in
    let rule = c.rule-item.result in
    let role = is_role c.args.role in
    row-same nodes _ _ c.put_location.new.row
    (λ n low. located-more role c.args.leaf items l.rule-index rule c.loop-rule-test.true c.rule-item.is n)
    (c.put_location.ensures.terms nodes (located role c.args.leaf (take l.rule-index items)) (sym (row-length nodes _ l.row l.invariant)) l.invariant)

pub returns : goal.returns
returns c =
    let l = c.loop-rule in
    let items = c.as_slice-rule-items.result.now in
    let all : take l.rule-index items ≡ items = take_all l.rule-index items (omega (arith, c.loop-rule-test.false)) in
    subst (λ xs. IsRow (length c.args.cluster.now.nodes) (located (is_role c.args.role) c.args.leaf xs) l.row) (all ∙ c.as_slice-rule-items.ensures) l.invariant
