use Rattle.std.proofs.Common.{◌&&◌, ℕ, Bool, nat_lt, refl, sym, subst, ◌∙◌, arith}
use Rattle.cluster_types.specs.Tables.{targets_of}
use Rattle.placement.specs.Tests.{counts}
use Rattle.placement.specs.Rows.{IsRoomy, more_where}
use Rattle.placement.proofs.EachNode.{each-all, each-none}
use Rattle.placement.proofs.RowTerms.{one-node}
use Rattle.placement.proofs.colocations.preferring.put_where_counted.Goals as goal

pub loop-node-init : goal.loop-node-init
loop-node-init c = record {
  terms = λ terms is. each-none c.args.nodes (λ n. counts (targets_of c.args.table.now) c.args.decision n c.args.rule.now) c.args.rule.now.score terms c.args.row.now is;
  size = sym c.requires.nodes;
  later = λ n h. refl;
}

pub put_if-requires-clause-node : goal.put_if-requires-clause-node
put_if-requires-clause-node c = omega (arith, c.loop-node.invariant.size, c.loop-node-test.true)

pub put_if-requires-clause-room : goal.put_if-requires-clause-room
put_if-requires-clause-room c = subst IsRoomy (sym (c.loop-node.invariant.later c.loop-node.node (omega arith))) (c.requires.room c.loop-node.node)

pub loop-node-preserved : goal.loop-node-preserved
loop-node-preserved c =
    let l = c.loop-node in
    let p : ℕ → Bool = λ n. counts (targets_of c.args.table.now) c.args.decision n c.args.rule.now in
    let score = c.args.rule.now.score in
    let inv = l.invariant in
    record {
      terms = λ terms is.
          one-node c.args.nodes p l.node c.counts-wanted.result score terms c.put_if.new.row (sym c.counts-wanted.ensures)
          (c.put_if.ensures.terms c.args.nodes (more_where (λ n. nat_lt n l.node && p n) score terms) (sym inv.size) (inv.terms terms is));
      size = c.put_if.ensures.nodes ∙ inv.size;
      later = λ n h. c.put_if.ensures.others n (λ e. absurd (let x : ⊥ = omega (arith, e, h) in x)) ∙ inv.later n (omega (arith, h));
    }

pub returns-clause-terms : goal.returns-clause-terms
returns-clause-terms c = λ terms is.
    let l = c.loop-node in
    each-all c.args.nodes l.node (λ n. counts (targets_of c.args.table.now) c.args.decision n c.args.rule.now) c.args.rule.now.score terms l.row
    (omega (arith, c.loop-node-test.false)) (l.invariant.terms terms is)

pub returns-clause-nodes : goal.returns-clause-nodes
returns-clause-nodes c = c.loop-node.invariant.size ∙ c.requires.nodes
