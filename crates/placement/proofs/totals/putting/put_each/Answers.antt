use Rattle.std.proofs.Common.{◌∙◌, ◌&&◌, ◌==◌, sym, refl, ap, arith, nat_lt, subst}
use Rattle.score.specs.NodeSet.{has}
use Rattle.placement.specs.Rows.{IsRoomy, more_where}
use Rattle.placement.proofs.EachNode.{each-more, each-none, each-all}
use Rattle.placement.proofs.TermRows.{row-same}
use Rattle.placement.proofs.totals.putting.put_each.Goals as goal

pub loop-node-init : goal.loop-node-init
loop-node-init c = record {
  terms = λ terms is. each-none c.args.nodes (has c.args.set.now) c.args.term terms c.args.row.now is;
  size = sym c.requires.nodes;
  later = λ n h. refl;
}

pub put_if-requires-clause-node : goal.put_if-requires-clause-node
put_if-requires-clause-node c = omega (arith, c.loop-node.invariant.size, c.loop-node-test.true)

pub put_if-requires-clause-room : goal.put_if-requires-clause-room
put_if-requires-clause-room c = subst IsRoomy (sym (c.loop-node.invariant.later c.loop-node.node (omega arith))) (c.requires.room c.loop-node.node)

pub loop-node-preserved : goal.loop-node-preserved
loop-node-preserved c =
    let l = c.loop-node in
    let p = has c.args.set.now in
    let inv = l.invariant in
    record {
      terms = λ terms is.
          row-same c.args.nodes (more_where (λ k. c.has.result && l.node == k) c.args.term (more_where (λ k. nat_lt k l.node && p k) c.args.term terms)) _ c.put_if.new.row
          (λ n low. ap (λ b. more_where (λ k. b && l.node == k) c.args.term (more_where (λ k. nat_lt k l.node && p k) c.args.term terms) n) c.has.ensures ∙ each-more p l.node c.args.term terms n)
          (c.put_if.ensures.terms c.args.nodes _ (sym inv.size) (inv.terms terms is));
      size = c.put_if.ensures.nodes ∙ inv.size;
      later = λ n h. c.put_if.ensures.others n (λ e. absurd (let x : ⊥ = omega (arith, e, h) in x)) ∙ inv.later n (omega (arith, h));
    }

pub returns-clause-terms : goal.returns-clause-terms
returns-clause-terms c = λ terms is.
    let l = c.loop-node in
    each-all c.args.nodes l.node (has c.args.set.now) c.args.term terms l.row (omega (arith, c.loop-node-test.false)) (l.invariant.terms terms is)

pub returns-clause-nodes : goal.returns-clause-nodes
returns-clause-nodes c = c.loop-node.invariant.size ∙ c.requires.nodes
