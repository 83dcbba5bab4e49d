use Rattle.std.proofs.Common.{inl, inr, sym, subst, ◌∙◌, arith}
use Rattle.std.proofs.lemmas.Bool.{cases_eq, false≢true}
use Rattle.score.specs.NodeSet.{has}
use Rattle.score.proofs.NodeSets.{joins, outside, stays}
use Rattle.score.proofs.node_set.NodeSet.of.Goals as goal

pub loop-node-init : goal.loop-node-init
loop-node-init g c = record {
  passed = λ n low. absurd (let f : ⊥ = omega (arith, low) in f);
  there = λ n h. absurd (false≢true (sym (c.none-set.ensures n) ∙ h));
}

pub loop-node-preserved : goal.loop-node-preserved
loop-node-preserved g c =
    let l = c.loop-node in
    let out = outside (has l.set) l.node l.invariant.there l.node (omega arith) in
    let here = joins c.passes-wanted.result (has l.set) (has c.put_if.new.self) l.node c.put_if.ensures out in
    let other = stays c.passes-wanted.result (has l.set) (has c.put_if.new.self) l.node c.put_if.ensures in
    record {
      passed = λ n low. elim (cases_eq n l.node) [
        | inl e ↦ subst (λ m. goal.F-post g c.args.passes m (has c.put_if.new.self m)) (sym e) (subst (goal.F-post g c.args.passes l.node) (sym here) c.passes-wanted.ensures)
        | inr e ↦ subst (goal.F-post g c.args.passes n) (sym (other n e)) (l.invariant.passed n (omega (arith, low, e)))
      ];
      there = λ n h. elim (cases_eq n l.node) [
        | inl e ↦ omega (arith, e)
        | inr e ↦ let low = l.invariant.there n (sym (other n e) ∙ h) in omega (arith, low)
      ];
    }

pub returns-clause-passed : goal.returns-clause-passed
returns-clause-passed g c = λ n low. c.loop-node.invariant.passed n (omega (arith, low, c.loop-node-test.false))

pub returns-clause-there : goal.returns-clause-there
returns-clause-there g c = λ n h. let low = c.loop-node.invariant.there n h in omega (arith, low)
