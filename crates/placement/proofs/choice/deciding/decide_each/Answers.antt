use Rattle.std.proofs.Common.{rules, ◌≡◌, ◌++◌, ◌∷◌, [], length, take, get_or, refl, sym, ap, subst, arith}
use Rattle.std.proofs.lemmas.List.{take_all}
use Rattle.std.proofs.lemmas.List.Elements.{Contains-get_or}
use Rattle.cluster_types.specs.declared.placement.Decision.TheVariants.{Place}
use Rattle.cluster_types.specs.Tables.{targets_of}
use Rattle.placement.specs.Inner.Steps.{AreMade}
use Rattle.placement.proofs.MadeMore.{made-more}
use Rattle.placement.proofs.choice.deciding.decide_each.Goals as goal

pub loop-decision-init : goal.loop-decision-init
loop-decision-init c =
    let none : c.in_ok-decided.decided.items ≡ [] = search rules in
    record {
      loaded = c.requires.loaded;
      size = ap length none;
      room = search rules;
      made = λ es ps tell. record { cells = refl; totals = none };
    }

pub decide-requires-clause-leaf : goal.decide-requires-clause-leaf
decide-requires-clause-leaf c =
    let order = c.args.order.now in
    let i = c.loop-decision.decision-index in
    c.requires.leaves (get_or order i (Place 0)) (Contains-get_or order i (Place 0) c.loop-decision-test.true)

pub push_reserved-requires : goal.push_reserved-requires
push_reserved-requires c = omega (arith, c.loop-decision.invariant.size, c.loop-decision.invariant.room, c.loop-decision-test.true)

pub loop-decision-preserved : goal.loop-decision-preserved
loop-decision-preserved c =
    let l = c.loop-decision in
    let turn = c.in_ok-turn.turn in
    let items : c.push_reserved.new.self.items ≡ l.decided.items ++ turn.decided ∷ [] = search rules in
    record {
      loaded = c.in_ok-turn.ensures.loaded;
      size = search rules;
      room = search rules;
      made = λ es ps tell.
          made-more c.args.known.now.cluster.now es ps (targets_of c.args.loaded.table) c.args.order.now l.decision-index (Place 0) c.loop-decision-test.true
          (targets_of l.loaded.table) (targets_of turn.loaded.table) l.decided.items c.push_reserved.new.self.items turn.decided
          (l.invariant.made es ps tell) (c.in_ok-turn.ensures.made es ps tell) items;
    }

pub returns-clause-made : goal.returns-clause-made
returns-clause-made c = λ es ps tell.
    let l = c.loop-decision in
    let cluster = c.args.known.now.cluster.now in
    let all : take l.decision-index c.args.order.now ≡ c.args.order.now = take_all l.decision-index c.args.order.now (omega (arith, c.loop-decision-test.false)) in
    subst (λ xs. AreMade cluster es ps (targets_of c.args.loaded.table) c.args.order.now (targets_of l.loaded.table) xs) (sym c.from.ensures)
    (subst (λ ds. AreMade cluster es ps (targets_of c.args.loaded.table) ds (targets_of l.loaded.table) l.decided.items) all (l.invariant.made es ps tell))
