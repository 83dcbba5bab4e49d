use Rattle.std.proofs.Common.{rules, ◌≡◌, ◌++◌, ◌∷◌, [], length, map, ap, ◌∙◌, arith}
use Rattle.std.specs.List.{range_with_len}
use Rattle.lemmas.proofs.Grown.{value_more}
use Rattle.cluster_types.specs.Tables.{targets_of}
use Rattle.placement.specs.Inner.Reasoning.{reason_in}
use Rattle.placement.proofs.unplaced_leaves.missing.all_reasons.Goals as goal

pub push_reserved-requires : goal.push_reserved-requires
push_reserved-requires c = omega (arith, c.loop-leaf.invariant.size, c.loop-leaf.invariant.room, c.loop-leaf-test.true)

pub loop-leaf-preserved : goal.loop-leaf-preserved
loop-leaf-preserved c =
    let l = c.loop-leaf in
    let a = c.args in
    let f = reason_in a.cluster.now a.states.now a.may_start a.targets.now.nodes (targets_of a.chosen.now) (targets_of a.targets.now) a.pins.now in
    let more : c.push_reserved.new.self.items ≡ l.none.items ++ c.in_ok-reason.reason ∷ [] = search rules in
    record {
      made = value_more f l.leaf l.none.items c.push_reserved.new.self.items c.in_ok-reason.reason l.invariant.made c.in_ok-reason.ensures more;
      size = search rules;
      room = search rules;
    }

pub returns : goal.returns
returns c =
    let l = c.loop-leaf in
    let a = c.args in
    let f = reason_in a.cluster.now a.states.now a.may_start a.targets.now.nodes (targets_of a.chosen.now) (targets_of a.targets.now) a.pins.now in
    let all : l.leaf ≡ length a.cluster.now.leaves = search rules in
    l.invariant.made ∙ ap (λ n. map f (range_with_len 0 n)) all
