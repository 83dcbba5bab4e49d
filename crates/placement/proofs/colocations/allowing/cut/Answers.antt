use Rattle.std.proofs.Common.{rules, ◌≡◌, ℕ, Bool, ◌&&◌, false, sym, ap, ◌∙◌, arith}
use Rattle.std.proofs.Math.Bool.{and-true}
use Rattle.cluster_types.specs.Tables.{targets_of}
use Rattle.score.specs.NodeSet.{has}
use Rattle.score.proofs.NodeSets.{as_test, outside}
use Rattle.placement.specs.Inner.AllowedNodes.{allows}
use Rattle.placement.proofs.AllowedBy.{free-allows}
use Rattle.placement.proofs.colocations.allowing.cut.Goals as goal

pub returns-then-not-is_strict : goal.returns-then-not-is_strict
returns-then-not-is_strict c = λ n.
    let at : c.is_strict.result ≡ false = let t = c.if-not-is_strict.true in cc in
    sym (ap (λ b. has c.args.among n && b) (free-allows (targets_of c.args.table.now) c.args.decision n c.args.rule.now (sym c.is_strict.ensures ∙ at))
    ∙ and-true (has c.args.among n))

pub of-requires-clause-passes : goal.of-requires-clause-passes
of-requires-clause-passes c = λ n low κs p e r d. omega (arith, low, c.requires.few)

pub returns : goal.returns
returns c =
    let allow : ℕ → Bool = λ n. allows (targets_of c.args.table.now) c.args.decision n c.args.rule.now in
    as_test (has c.of.result) (λ n. has c.args.among n && allow n) c.args.nodes
    (λ n low. let passed = c.of.ensures.passed n low in search rules)
    c.of.ensures.there
    (λ n high. ap (λ b. b && allow n) (outside (has c.args.among) c.args.nodes c.requires.there n high))
