use Rattle.std.proofs.Common.{arith, rules, ◌≡◌, ◌≤◌, ◌+◌, ◌*◌, true, false, sym, subst, ℕ}
use Rattle.std.proofs.lemmas.Result.{on_ok_weaker}
use Rattle.lemmas.proofs.Results.{on_both}
use Rattle.cluster_types.specs.declared.cluster.Cluster.{Cluster}
use Rattle.cluster_types.specs.Precedence.{is_serialize}
use Rattle.planner.specs.declared.precedence.sides.Join.{Join}
use Rattle.planner.specs.Joins.{inverse_join, own_join}
use Rattle.planner.specs.Inner.Rooms.{IsEven, rows_of, width_of}
use Rattle.planner.proofs.EvenJoins.{inverse_even}
use Rattle.planner.proofs.OrderBuilds.{inverse_small, order_alone, order_both, own_small}
use Rattle.planner.proofs.precedence.orders.add_order.Goals as goal

pub returns-then-not-order-clause-builds : goal.returns-then-not-order-clause-builds
returns-then-not-order-clause-builds c = λ js b.
    let kind : is_serialize c.args.order.now.kind ≡ false = search rules in
    let alone : c.args.order.now.symmetrical ≡ false = search rules in
    order_alone c.args.known.now.cluster.now c.args.known.now.actions.now c.args.known.now.index.now c.args.order.now c.args.known.now.indexed c.requires.first c.requires.then_leaf kind js
    c.args.building.now.list.items c.add_rule.new.building.list.items c.args.building.now.base c.add_rule.new.building.base c.own_join-own.result c.own_join-own.ensures b
    c.in_ok-add_rule.ensures.edges c.in_ok-add_rule.ensures.gates alone

pub add_rule-requires-2-clause-even : goal.add_rule-requires-2-clause-even
add_rule-requires-2-clause-even c = subst (IsEven c.args.known.now.cluster.now) (sym c.inverse_join-back.ensures) (inverse_even c.args.known.now.cluster.now c.args.order.now)

pub returns-clause-builds : goal.returns-clause-builds
returns-clause-builds c = λ js b.
    let kind : is_serialize c.args.order.now.kind ≡ false = search rules in
    let both : c.args.order.now.symmetrical ≡ true = search rules in
    on_both c.add_rule-2.result
    (λ g h. order_both c.args.known.now.cluster.now c.args.known.now.actions.now c.args.known.now.index.now c.args.order.now c.args.known.now.indexed c.requires.first c.requires.then_leaf kind js
    c.args.building.now.list.items c.add_rule.new.building.list.items c.args.building.now.base c.add_rule.new.building.base c.own_join-own.result c.own_join-own.ensures b
    c.in_ok-add_rule.ensures.edges c.in_ok-add_rule.ensures.gates both c.inverse_join-back.result c.inverse_join-back.ensures c.add_rule-2.new.building.list.items
    c.add_rule-2.new.building.base g h)
    c.add_rule-2.ensures.edges c.add_rule-2.ensures.gates

small : (c : Cluster) (one other : Join) → one ≡ other → width_of c other.from * rows_of c other.from ≤ 256 → width_of c one.from * rows_of c one.from ≤ 256
small c one other e h = subst (λ (j : Join). width_of c j.from * rows_of c j.from ≤ 256) (sym e) h

below : (a b d e f : ℕ) → b ≡ a + d → d ≤ 256 → f ≡ b + e → e ≤ 256 → f ≤ a + 512
below a b d e f h k l m = omega arith

pub returns-clause-gates : goal.returns-clause-gates
returns-clause-gates c =
    let one = small c.args.known.now.cluster.now c.own_join-own.result (own_join c.args.order.now) c.own_join-own.ensures (own_small c.args.known.now.cluster.now c.args.order.now c.args.known.now.nodes) in
    let two = small c.args.known.now.cluster.now c.inverse_join-back.result (inverse_join c.args.order.now) c.inverse_join-back.ensures
    (inverse_small c.args.known.now.cluster.now c.args.order.now c.args.known.now.nodes) in
    on_ok_weaker c.add_rule-2.result (λ g. below _ _ _ _ _ c.in_ok-add_rule.ensures.gates one g two) c.add_rule-2.ensures.gates
